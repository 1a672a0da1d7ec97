-- Laws of checksum entries: their bytes are read back, and what is read, its padding zero, has these bytes.
use Rattle.std.specs.Prelude.{ℕ, zero, suc, ◌+◌, ◌-◌, ◌≤◌, ◌≡◌, refl, List, [], ◌∷◌, ◌++◌, length, take, drop, get_or, ltb, eqb}
use Rattle.std.proofs.Common.{sym, ap, ◌∙◌, append_assoc, arith, length-append, length-drop, drop_at, take_at, length-take-le, ltb-false, eqb-true, ne_eqb, le-ltb}
use Rattle.word.specs.Word.{u32_at, le32, Bytes}
use Rattle.word.specs.WordLaws.{le32_length, u32_first}
use Rattle.walk.specs.Cases.{by_cases}
use Rattle.walk.specs.Listing.{Move, item, over}
use Rattle.refusal.specs.Told.{Told}
use Rattle.body.specs.Checksums.{Checksum, up4, checksum_bite, zeros, checksum_bytes}
use Rattle.body.specs.WordsLaws.{peel, peel8, peel32}
use Rattle.body.specs.RunLaws.{nil_of, Sound, sound_drop, Fronts}

pub zeros_length : (n : ℕ) → length (zeros n) ≡ n
unfolding zeros
zeros_length zero = refl
zeros_length (suc n) = ap suc (zeros_length n)

-- the bytes of padding behind n bytes
abbrev pub padding : ℕ → ℕ
padding n = up4 (6 + n) - (6 + n)

pub checksum_length : (c : Checksum) → length (checksum_bytes c) ≡ up4 (6 + length c.bytes)
checksum_length c =
    let n = length c.bytes in
    length-append (le32 c.name) (n ∷ c.kind ∷ (c.bytes ++ zeros (padding n)))
    ∙ omega (arith, le32_length c.name, length-append c.bytes (zeros (padding n)), zeros_length (padding n))

pub checksum_sound : (s : List ℕ) → Sound s (checksum_bite s)
unfolding checksum_bite
checksum_sound s =
    let P : Move (List ℕ) Checksum Told → Type 0 = Sound s in
    by_cases P (eqb (length s) 0) (λ a. eqb-true (length s) 0 a)
    (λ a. by_cases P (ltb (length s) 6) (λ b. tt)
    (λ b. by_cases P (ltb (length s - 6) (get_or s 4 0)) (λ d. tt)
    (λ d. by_cases P (ltb 3 (get_or s 5 0)) (λ e. tt)
    (λ e. by_cases P (ltb (length s) (up4 (6 + get_or s 4 0))) (λ f. tt) (λ f. sound_drop s (up4 (6 + get_or s 4 0)) (omega (arith, ltb-false)) (omega (arith, ltb-false)))))))

-- what is known of an entry that was read from s
pub record Facts (s : List ℕ) (c : Checksum) : Type 0 where
  pub size : length c.bytes ≡ get_or s 4 0
  pub kind : c.kind ≡ get_or s 5 0
  pub low : c.kind ≤ 3

pub checksum_front : (s : List ℕ) → Bytes s → (up4 (6 + get_or s 4 0) ≤ length s → take (padding (get_or s 4 0)) (drop (6 + get_or s 4 0) s) ≡ zeros (padding (get_or s 4 0)))
    → Fronts checksum_bytes (Facts s) s (checksum_bite s)
unfolding checksum_bite
checksum_front s h z =
    let P = Fronts checksum_bytes (Facts s) s in
    by_cases P (eqb (length s) 0) (λ a. nil_of s (eqb-true (length s) 0 a))
    (λ a. by_cases P (ltb (length s) 6) (λ b. tt)
    (λ b. by_cases P (ltb (length s - 6) (get_or s 4 0)) (λ d. tt)
    (λ d. by_cases P (ltb 3 (get_or s 5 0)) (λ e. tt)
    (λ e. by_cases P (ltb (length s) (up4 (6 + get_or s 4 0))) (λ f. tt)
    (λ f.
    let n = get_or s 4 0 in
    let k = get_or s 5 0 in
    let l : up4 (6 + n) ≤ length s = ltb-false (length s) (up4 (6 + n)) f in
    let m : length (take n (drop 6 s)) ≡ n = length-take-le n (drop 6 s) (omega (arith, ltb-false, length-drop 6 s)) in
    let t : List ℕ = drop (up4 (6 + n)) s in
    let B : List ℕ = take n (drop 6 s) in
    let q : 6 + n + padding n ≡ up4 (6 + n) = omega arith in (
      peel32 s 0 h (omega (arith, ltb-false))
          ∙ ap (λ (x : List ℕ). le32 (u32_at s 0) ++ x)
          (peel8 s 4 (omega (arith, ltb-false)) ∙ ap (λ (x : List ℕ). n ∷ x)
          (peel8 s 5 (omega (arith, ltb-false)) ∙ ap (λ (x : List ℕ). k ∷ x)
          (peel s 6 n ∙ ap (λ (x : List ℕ). B ++ x)
          (peel s (6 + n) (padding n) ∙ ap (λ (x : List ℕ). x ++ drop (6 + n + padding n) s) (z l) ∙ ap (λ (i : ℕ). zeros (padding n) ++ drop i s) q)
          ∙ sym (append_assoc B (zeros (padding n)) t))))
          ∙ sym (append_assoc (le32 (u32_at s 0)) (n ∷ k ∷ (B ++ zeros (padding n))) t)
          ∙ ap (λ (i : ℕ). (le32 (u32_at s 0) ++ (i ∷ k ∷ (B ++ zeros (padding i)))) ++ t) (sym m),
      record { size = m; kind = refl; low = ltb-false 3 k e },
    ))))))

pub checksum_ended : checksum_bite [] ≡ over
unfolding checksum_bite
checksum_ended = refl

pub size_at : (c : Checksum) (t : List ℕ) → get_or (checksum_bytes c ++ t) 4 0 ≡ length c.bytes
unfolding le32
size_at c t = refl

pub kind_at : (c : Checksum) (t : List ℕ) → get_or (checksum_bytes c ++ t) 5 0 ≡ c.kind
unfolding le32
kind_at c t = refl

pub bytes_at_lem : (c : Checksum) (t : List ℕ) → drop 6 (checksum_bytes c ++ t) ≡ c.bytes ++ (zeros (padding (length c.bytes)) ++ t)
unfolding le32
bytes_at_lem c t = append_assoc c.bytes (zeros (padding (length c.bytes))) t

pub checksum_forth : (c : Checksum) (t : List ℕ) → c.kind ≤ 3 → checksum_bite (checksum_bytes c ++ t) ≡ item c t
unfolding checksum_bite
checksum_forth c t g =
    let n = length c.bytes in
    let Z : List ℕ = zeros (padding n) in
    let s : List ℕ = checksum_bytes c ++ t in
    let l : length s ≡ up4 (6 + n) + length t = length-append (checksum_bytes c) t ∙ omega (arith, checksum_length c) in
    let e₀ : u32_at s 0 ≡ c.name = ap (λ (x : List ℕ). u32_at x 0) (append_assoc (le32 c.name) (n ∷ c.kind ∷ (c.bytes ++ Z)) t) ∙ u32_first c.name ((n ∷ c.kind ∷ (c.bytes ++ Z)) ++ t) in
    let e₄ : get_or s 4 0 ≡ n = size_at c t in
    let e₅ : get_or s 5 0 ≡ c.kind = kind_at c t in
    let d : drop 6 s ≡ c.bytes ++ (Z ++ t) = bytes_at_lem c t in
    let eb : take (get_or s 4 0) (drop 6 s) ≡ c.bytes = ap (λ (k : ℕ). take k (drop 6 s)) e₄ ∙ ap (take n) d ∙ take_at c.bytes (Z ++ t) n refl in
    let et : drop (up4 (6 + get_or s 4 0)) s ≡ t = ap (λ (k : ℕ). drop (up4 (6 + k)) s) e₄ ∙ drop_at (checksum_bytes c) t (up4 (6 + n)) (checksum_length c) in
    let h : (length s ≡ 0 → ⊥) = λ z. omega arith in
    rw (
      ne_eqb (length s) 0 h,
      le-ltb (length s) 6 (omega arith),
      le-ltb (length s - 6) (get_or s 4 0) (omega arith),
      le-ltb 3 (get_or s 5 0) (omega arith),
      le-ltb (length s) (up4 (6 + get_or s 4 0)) (omega arith),
    )
    (λ i. item (record { name = e₀ i; kind = e₅ i; bytes = eb i }) (et i))
