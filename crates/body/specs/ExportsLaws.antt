-- Laws of pairs: their bytes are read back, and what is read has these bytes.
use Rattle.std.specs.Prelude.{ℕ, ◌+◌, ◌*◌, ◌%◌, ◌≤◌, ◌≡◌, refl, List, [], ◌∷◌, ◌++◌, length, drop, ltb, eqb}
use Rattle.std.proofs.Common.{sym, ap, ◌∙◌, append_assoc, arith, length-append, drop_at, ltb-false, eqb-true, eq-eqb, ne_eqb, le-ltb}
use Rattle.word.specs.Word.{u32_at, le32, Bytes}
use Rattle.word.specs.WordLaws.{header_length, header_first, header_second}
use Rattle.walk.specs.Cases.{by_cases}
use Rattle.walk.specs.Listing.{Move, item, over, ends, before}
use Rattle.refusal.specs.Told.{Told}
use Rattle.body.specs.Exports.{Pair, pair_bite, pairs, pair_bytes}
use Rattle.body.specs.WordsLaws.{peel32}
use Rattle.body.specs.RunLaws.{bytes_all, Each, nil_of, Sound, sound_drop, Fronts, run_forth}

-- any pair
abbrev pub Any : Pair → Type 0
Any p = Unit {0}

pub pair_sound : (s : List ℕ) → Sound s (pair_bite s)
unfolding pair_bite
pair_sound s =
    let P : Move (List ℕ) Pair Told → Type 0 = Sound s in
    by_cases P (eqb (length s) 0) (λ a. eqb-true (length s) 0 a) (λ a. by_cases P (ltb (length s) 8) (λ b. tt) (λ b. sound_drop s 8 (omega arith) (ltb-false (length s) 8 b)))

pub pair_front : (s : List ℕ) → Bytes s → Fronts pair_bytes Any s (pair_bite s)
unfolding pair_bite
pair_front s h =
    by_cases (Fronts pair_bytes Any s) (eqb (length s) 0) (λ a. nil_of s (eqb-true (length s) 0 a))
    (λ a. by_cases (Fronts pair_bytes Any s) (ltb (length s) 8) (λ b. tt)
    (λ b.
    let l : 8 ≤ length s = ltb-false (length s) 8 b in (
      peel32 s 0 h (omega arith) ∙ ap (λ (x : List ℕ). le32 (u32_at s 0) ++ x) (peel32 s 4 h (omega arith))
          ∙ sym (append_assoc (le32 (u32_at s 0)) (le32 (u32_at s 4)) (drop 8 s)),
      tt,
    )))

pub pair_ended : pair_bite [] ≡ over
unfolding pair_bite
pair_ended = refl

pub pair_forth : (p : Pair) (t : List ℕ) → Any p → pair_bite (pair_bytes p ++ t) ≡ item p t
unfolding pair_bite
pair_forth p t g =
    let s : List ℕ = pair_bytes p ++ t in
    let l : length s ≡ 8 + length t = length-append (pair_bytes p) t ∙ omega (arith, header_length p.local p.global) in
    let e₀ : u32_at s 0 ≡ p.local = header_first p.local p.global t in
    let e₄ : u32_at s 4 ≡ p.global = header_second p.local p.global t in
    let d : drop 8 s ≡ t = drop_at (pair_bytes p) t 8 (header_length p.local p.global) in
    let h : (length s ≡ 0 → ⊥) = λ z. omega arith in
    rw (ne_eqb (length s) 0 h, le-ltb (length s) 8 (omega arith)) (λ i. item (record { local = e₀ i; global = e₄ i }) (d i))

pub pairs_length : (ps : List Pair) → length (bytes_all pair_bytes ps) ≡ 8 * length ps
unfolding bytes_all
pairs_length [] = refl
pairs_length (p ∷ ps) = length-append (pair_bytes p) (bytes_all pair_bytes ps) ∙ omega (arith, header_length p.local p.global, pairs_length ps)

any : (ps : List Pair) → Each Any ps
any [] = tt
any (p ∷ ps) = (tt, any ps)

pub pairs_forth : (ps : List Pair) → pairs (bytes_all pair_bytes ps) ≡ before ps ends
unfolding pairs
pairs_forth ps =
    rw (eq-eqb (length (bytes_all pair_bytes ps) % 8) 0 (omega (arith, pairs_length ps)))
    (run_forth pair_bite pair_bytes Any pair_sound pair_ended pair_forth ps (any ps))
