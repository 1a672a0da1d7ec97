-- Laws of modules: their bytes are read back, and what is read has these bytes.
use Rattle.std.specs.Prelude.{ℕ, ◌+◌, ◌-◌, ◌*◌, ◌≤◌, ◌≡◌, refl, List, [], ◌++◌, length, drop, ltb, eqb}
use Rattle.std.proofs.Common.{sym, ap, ◌∙◌, append_assoc, arith, length-append, drop_at, ltb-false, eqb-true, ne_eqb, le-ltb}
use Rattle.word.specs.Word.{u32_at, le32, Bytes}
use Rattle.word.specs.WordLaws.{le32_length, header_length, u32_first, header_second}
use Rattle.walk.specs.Cases.{by_cases}
use Rattle.walk.specs.Listing.{Move, item, over}
use Rattle.refusal.specs.Told.{Told}
use Rattle.body.specs.Words.{words_in, word_bytes}
use Rattle.body.specs.Imports.{Module, module_bite, module_bytes}
use Rattle.body.specs.WordsLaws.{word_length, words_length, words_back, peel32, peel_words}
use Rattle.body.specs.RunLaws.{nil_of, Sound, sound_drop, Fronts}

abbrev pub Any : Module → Type 0
Any m = Unit {0}

pub module_length : (m : Module) → length (module_bytes m) ≡ 8 + 4 * length m.words
module_length m =
    length-append (le32 m.name) (le32 (length m.words) ++ word_bytes m.words)
    ∙ omega (arith, le32_length m.name, length-append (le32 (length m.words)) (word_bytes m.words), le32_length (length m.words), word_length m.words)

pub module_sound : (s : List ℕ) → Sound s (module_bite s)
unfolding module_bite
module_sound s =
    let P : Move (List ℕ) Module Told → Type 0 = Sound s in
    by_cases P (eqb (length s) 0) (λ a. eqb-true (length s) 0 a)
    (λ a. by_cases P (ltb (length s) 8) (λ b. tt)
    (λ b. by_cases P (ltb (length s - 8) (4 * u32_at s 4)) (λ d. tt) (λ d. sound_drop s (8 + 4 * u32_at s 4) (omega (arith, ltb-false)) (omega (arith, ltb-false)))))

pub module_front : (s : List ℕ) → Bytes s → Fronts module_bytes Any s (module_bite s)
unfolding module_bite
module_front s h =
    let P = Fronts module_bytes Any s in
    by_cases P (eqb (length s) 0) (λ a. nil_of s (eqb-true (length s) 0 a))
    (λ a. by_cases P (ltb (length s) 8) (λ b. tt)
    (λ b. by_cases P (ltb (length s - 8) (4 * u32_at s 4)) (λ d. tt)
    (λ d.
    let n = u32_at s 4 in
    let l : 8 + 4 * n ≤ length s = omega (arith, ltb-false) in
    let W : List ℕ = word_bytes (words_in n (drop 8 s)) in
    let t : List ℕ = drop (8 + 4 * n) s in (
      peel32 s 0 h (omega arith)
          ∙ ap (λ (x : List ℕ). le32 (u32_at s 0) ++ x) (peel32 s 4 h (omega arith) ∙ ap (λ (x : List ℕ). le32 n ++ x) (peel_words n s 8 h l))
          ∙ sym (append_assoc (le32 (u32_at s 0)) (le32 n ++ W) t ∙ ap (λ (x : List ℕ). le32 (u32_at s 0) ++ x) (append_assoc (le32 n) W t))
          ∙ ap (λ (k : ℕ). (le32 (u32_at s 0) ++ (le32 k ++ W)) ++ t) (sym (words_length n (drop 8 s))),
      tt,
    ))))

pub module_ended : module_bite [] ≡ over
unfolding module_bite
module_ended = refl

pub module_forth : (m : Module) (t : List ℕ) → Any m → module_bite (module_bytes m ++ t) ≡ item m t
unfolding module_bite
module_forth m t g =
    let n = length m.words in
    let W : List ℕ = word_bytes m.words in
    let s : List ℕ = module_bytes m ++ t in
    let a : s ≡ (le32 m.name ++ le32 n) ++ (W ++ t) = simp append_assoc in
    let l : length s ≡ 8 + 4 * n + length t = length-append (module_bytes m) t ∙ omega (arith, module_length m) in
    let e₀ : u32_at s 0 ≡ m.name = ap (λ (x : List ℕ). u32_at x 0) (append_assoc (le32 m.name) (le32 n ++ W) t) ∙ u32_first m.name ((le32 n ++ W) ++ t) in
    let e₄ : u32_at s 4 ≡ n = ap (λ (x : List ℕ). u32_at x 4) a ∙ header_second m.name n (W ++ t) in
    let d : drop 8 s ≡ W ++ t = ap (drop 8) a ∙ drop_at (le32 m.name ++ le32 n) (W ++ t) 8 (header_length m.name n) in
    let ew : words_in (u32_at s 4) (drop 8 s) ≡ m.words = ap (λ (k : ℕ). words_in k (drop 8 s)) e₄ ∙ ap (words_in n) d ∙ words_back m.words t n refl in
    let et : drop (8 + 4 * u32_at s 4) s ≡ t = ap (λ (k : ℕ). drop (8 + 4 * k) s) e₄ ∙ drop_at (module_bytes m) t (8 + 4 * n) (module_length m) in
    let h : (length s ≡ 0 → ⊥) = λ z. omega arith in
    rw (ne_eqb (length s) 0 h, le-ltb (length s) 8 (omega arith), le-ltb (length s - 8) (4 * u32_at s 4) (omega arith))
    (λ i. item (record { name = e₀ i; words = ew i }) (et i))
