-- Laws of inlinees: their bytes are read back, and what is read has these bytes.
use Rattle.std.specs.Prelude.{ℕ, ◌+◌, ◌-◌, ◌*◌, ◌≤◌, ◌≡◌, refl, List, [], ◌++◌, Bool, true, false, length, drop, ltb, eqb}
use Rattle.std.proofs.Common.{sym, ap, ◌∙◌, append_assoc, arith, length-append, drop_at, ltb-false, eqb-true, ne_eqb, le-ltb}
use Rattle.word.specs.Word.{u32_at, le32, Bytes}
use Rattle.word.specs.WordLaws.{le32_length, header_length, u32_first}
use Rattle.walk.specs.Cases.{by_cases}
use Rattle.walk.specs.Listing.{Move, item, over}
use Rattle.refusal.specs.Told.{Told}
use Rattle.body.specs.Words.{words_in, word_bytes}
use Rattle.body.specs.Inlinees.{Inlinee, extra_bite, inlinee_bite, extra_bytes, inlinee_bytes, extra_length}
use Rattle.body.specs.WordsLaws.{word_length, words_length, words_back, u32_at_lem, peel32, peel_words}
use Rattle.body.specs.RunLaws.{nil_of, Sound, sound_drop, Fronts}

-- without the extension there are no extra files
abbrev pub Fits : Bool → Inlinee → Type 0
Fits false e = e.extra ≡ []
Fits true e = Unit {0}

extra_length_lem : (x : Bool) (ws : List ℕ) → length (extra_bytes x ws) ≡ extra_length x (length ws)
extra_length_lem false ws = refl
extra_length_lem true ws = length-append (le32 (length ws)) (word_bytes ws) ∙ omega (arith, le32_length (length ws), word_length ws)

-- inlinee, file, line, and any bytes behind them
abbrev three : Inlinee → List ℕ
three e = le32 e.inlinee ++ (le32 e.file ++ le32 e.line)

three_length : (e : Inlinee) → length (three e) ≡ 12
unfolding le32
three_length e = refl

three_is : (x : Bool) (e : Inlinee) → inlinee_bytes x e ≡ three e ++ extra_bytes x e.extra
three_is x e = simp append_assoc

pub inlinee_length : (x : Bool) (e : Inlinee) → length (inlinee_bytes x e) ≡ 12 + extra_length x (length e.extra)
inlinee_length x e = ap length (three_is x e) ∙ length-append (three e) (extra_bytes x e.extra) ∙ omega (arith, three_length e, extra_length_lem x e.extra)

extra_sound : (x : Bool) (s : List ℕ) → 12 ≤ length s → Sound s (extra_bite x s)
extra_sound false s l = sound_drop s 12 (omega arith) l
extra_sound true s l =
    let P : Move (List ℕ) Inlinee Told → Type 0 = Sound s in
    by_cases P (ltb (length s) 16) (λ b. tt)
    (λ b. by_cases P (ltb (length s - 16) (4 * u32_at s 12)) (λ d. tt) (λ d. sound_drop s (16 + 4 * u32_at s 12) (omega (arith, ltb-false)) (omega (arith, ltb-false))))

pub inlinee_sound : (x : Bool) (s : List ℕ) → Sound s (inlinee_bite x s)
unfolding inlinee_bite
inlinee_sound x s =
    let P : Move (List ℕ) Inlinee Told → Type 0 = Sound s in
    by_cases P (eqb (length s) 0) (λ a. eqb-true (length s) 0 a)
    (λ a. by_cases P (ltb (length s) 12) (λ b. tt) (λ b. extra_sound x s (ltb-false (length s) 12 b)))

three_front : (s : List ℕ) → Bytes s → 12 ≤ length s → (y t : List ℕ) → drop 12 s ≡ y ++ t → s ≡ (le32 (u32_at s 0) ++ (le32 (u32_at s 4) ++ (le32 (u32_at s 8) ++ y))) ++ t
three_front s h l y t e =
    peel32 s 0 h (omega arith)
    ∙ ap (λ (x : List ℕ). le32 (u32_at s 0) ++ x)
    (peel32 s 4 h (omega arith) ∙ ap (λ (x : List ℕ). le32 (u32_at s 4) ++ x) (peel32 s 8 h (omega arith) ∙ ap (λ (x : List ℕ). le32 (u32_at s 8) ++ x) e))
    ∙ sym (simp append_assoc)

extra_front : (x : Bool) (s : List ℕ) → Bytes s → 12 ≤ length s → Fronts (inlinee_bytes x) (Fits x) s (extra_bite x s)
extra_front false s h l = (three_front s h l [] (drop 12 s) refl, refl)
extra_front true s h l =
    let P = Fronts (inlinee_bytes true) (Fits true) s in
    by_cases P (ltb (length s) 16) (λ b. tt)
    (λ b. by_cases P (ltb (length s - 16) (4 * u32_at s 12)) (λ d. tt)
    (λ d.
    let n = u32_at s 12 in
    let k : 16 + 4 * n ≤ length s = omega (arith, ltb-false) in
    let ws : List ℕ = words_in n (drop 16 s) in (
      three_front s h l (le32 (length ws) ++ word_bytes ws) (drop (16 + 4 * n) s)
          (peel32 s 12 h (omega arith) ∙ ap (λ (x : List ℕ). le32 n ++ x) (peel_words n s 16 h k)
          ∙ ap (λ (m : ℕ). le32 m ++ (word_bytes ws ++ drop (16 + 4 * n) s)) (sym (words_length n (drop 16 s)))
          ∙ sym (append_assoc (le32 (length ws)) (word_bytes ws) (drop (16 + 4 * n) s))),
      tt,
    )))

pub inlinee_front : (x : Bool) (s : List ℕ) → Bytes s → Fronts (inlinee_bytes x) (Fits x) s (inlinee_bite x s)
unfolding inlinee_bite
inlinee_front x s h =
    let P = Fronts (inlinee_bytes x) (Fits x) s in
    by_cases P (eqb (length s) 0) (λ a. nil_of s (eqb-true (length s) 0 a))
    (λ a. by_cases P (ltb (length s) 12) (λ b. tt) (λ b. extra_front x s h (ltb-false (length s) 12 b)))

pub inlinee_ended : (x : Bool) → inlinee_bite x [] ≡ over
unfolding inlinee_bite
inlinee_ended x = refl

-- the first three words of an entry's bytes
module _ (x : Bool) (e : Inlinee) (t : List ℕ) where
  abbrev s : List ℕ
  s = inlinee_bytes x e ++ t

  abbrev y : List ℕ
  y = extra_bytes x e.extra ++ t

  at_0 : s ≡ le32 e.inlinee ++ (le32 e.file ++ (le32 e.line ++ y))
  at_0 = simp append_assoc

  at_8 : s ≡ (le32 e.inlinee ++ le32 e.file) ++ (le32 e.line ++ y)
  at_8 = simp append_assoc

  at_12 : s ≡ three e ++ y
  at_12 = simp append_assoc

  word_0 : u32_at s 0 ≡ e.inlinee
  word_0 = ap (λ (l : List ℕ). u32_at l 0) at_0 ∙ u32_first e.inlinee (le32 e.file ++ (le32 e.line ++ y))

  word_4 : u32_at s 4 ≡ e.file
  word_4 = ap (λ (l : List ℕ). u32_at l 4) at_0 ∙ u32_at_lem (le32 e.inlinee) (le32 e.line ++ y) e.file 4 (le32_length e.inlinee)

  word_8 : u32_at s 8 ≡ e.line
  word_8 = ap (λ (l : List ℕ). u32_at l 8) at_8 ∙ u32_at_lem (le32 e.inlinee ++ le32 e.file) y e.line 8 (header_length e.inlinee e.file)

  behind : drop 12 s ≡ y
  behind = ap (drop 12) at_12 ∙ drop_at (three e) y 12 (three_length e)

extra_forth : (x : Bool) (e : Inlinee) (t : List ℕ) → Fits x e → extra_bite x (inlinee_bytes x e ++ t) ≡ item e t
extra_forth false e t g =
    λ i. item (record { inlinee = word_0 false e t i; file = word_4 false e t i; line = word_8 false e t i; extra = sym g i }) (behind false e t i)
extra_forth true e t g =
    let s : List ℕ = inlinee_bytes true e ++ t in
    let n = length e.extra in
    let W : List ℕ = word_bytes e.extra in
    let l : length s ≡ 16 + 4 * n + length t = length-append (inlinee_bytes true e) t ∙ omega (arith, inlinee_length true e) in
    let a : s ≡ three e ++ (le32 n ++ (W ++ t)) = simp append_assoc in
    let b : s ≡ (three e ++ le32 n) ++ (W ++ t) = simp append_assoc in
    let e₁₂ : u32_at s 12 ≡ n = ap (λ (x : List ℕ). u32_at x 12) a ∙ u32_at_lem (three e) (W ++ t) n 12 (three_length e) in
    let d : drop 16 s ≡ W ++ t = ap (drop 16) b ∙ drop_at (three e ++ le32 n) (W ++ t) 16 (length-append (three e) (le32 n) ∙ omega (arith, three_length e, le32_length n)) in
    let ew : words_in (u32_at s 12) (drop 16 s) ≡ e.extra = ap (λ (k : ℕ). words_in k (drop 16 s)) e₁₂ ∙ ap (words_in n) d ∙ words_back e.extra t n refl in
    let et : drop (16 + 4 * u32_at s 12) s ≡ t = ap (λ (k : ℕ). drop (16 + 4 * k) s) e₁₂ ∙ drop_at (inlinee_bytes true e) t (16 + 4 * n) (inlinee_length true e ∙ omega arith) in
    rw (le-ltb (length s) 16 (omega arith), le-ltb (length s - 16) (4 * u32_at s 12) (omega arith))
    (λ i. item (record { inlinee = word_0 true e t i; file = word_4 true e t i; line = word_8 true e t i; extra = ew i }) (et i))

pub inlinee_forth : (x : Bool) (e : Inlinee) (t : List ℕ) → Fits x e → inlinee_bite x (inlinee_bytes x e ++ t) ≡ item e t
unfolding inlinee_bite
inlinee_forth x e t g =
    let s : List ℕ = inlinee_bytes x e ++ t in
    let l : length s ≡ 12 + extra_length x (length e.extra) + length t = length-append (inlinee_bytes x e) t ∙ ap (λ (k : ℕ). k + length t) (inlinee_length x e) in
    let h : (length s ≡ 0 → ⊥) = λ z. omega arith in
    rw (ne_eqb (length s) 0 h, le-ltb (length s) 12 (omega arith)) (extra_forth x e t g)
