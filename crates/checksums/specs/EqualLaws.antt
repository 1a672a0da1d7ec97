-- Laws of the comparison of two checksums: a law for each way out of the code, and what "equal" says.
use Rattle.std.specs.Prelude.{ℕ, ◌+◌, ◌<◌, ◌≤◌, ◌≡◌, refl, List, [], ◌∷◌, Bool, true, false, cond, length, drop, get_or, eqb, ◌&&◌}
use Rattle.std.specs.Cmp.Lexicographic.{pointwise}
use Rattle.std.proofs.Math.Path.{sym}
use Rattle.std.proofs.Common.{◌∙◌, arith, eq-eqb, eqb-true}
use Rattle.std.proofs.Math.Numerals.{add-one}
use Rattle.std.proofs.Math.ListN.{drop_of_length-le}
use Rattle.std.proofs.Math.Seq.{drop-cons}
use Rattle.std.proofs.lemmas.Bool.{eqb-false}
use Rattle.walk.specs.Cases.{tests, by_cases}
use Rattle.checksums.specs.Equal.{equal_bytes, equal_sums}

-- ---- the bytes, one behind the other

pub bytes_longer : (a b : List ℕ) → (length a ≡ length b → ⊥) → false ≡ equal_bytes a b
unfolding equal_bytes
bytes_longer [] [] h = absurd (h refl)
bytes_longer [] (y ∷ b) h = refl
bytes_longer (x ∷ a) [] h = refl
bytes_longer (x ∷ a) (y ∷ b) h =
    by_cases (λ (t : Bool). false ≡ t) (eqb x y) (λ e. bytes_longer a b (λ q. h (omega arith))) (λ e. refl)

-- the bytes before i are equal, so that those from i on decide
module _ (a b : List ℕ) (i : ℕ) (e : equal_bytes (drop i a) (drop i b) ≡ equal_bytes a b) where
  module _ (ha : i < length a) (hb : i < length b) where
    at_both : equal_bytes (drop i a) (drop i b) ≡ cond (eqb (get_or a i 0) (get_or b i 0)) (equal_bytes (drop (i + 1) a) (drop (i + 1) b)) false
    unfolding equal_bytes
    at_both = rw (drop-cons a i 0 ha, drop-cons b i 0 hb, add-one i)

    pub bytes_other : (get_or a i 0 ≡ get_or b i 0 → ⊥) → false ≡ equal_bytes a b
    bytes_other h = sym (at_both ∙ simp tests) ∙ e

    pub bytes_same : get_or a i 0 ≡ get_or b i 0 → equal_bytes (drop (i + 1) a) (drop (i + 1) b) ≡ equal_bytes a b
    bytes_same h = sym (at_both ∙ simp tests) ∙ e

  pub bytes_end : length a ≤ i → length b ≤ i → true ≡ equal_bytes a b
  unfolding equal_bytes
  bytes_end ha hb = sym (rw (drop_of_length-le a ha, drop_of_length-le b hb) refl) ∙ e

-- the comparison of two slices is that of their bytes
slices_are : (a b : List ℕ) → pointwise eqb a b ≡ equal_bytes a b
unfolding equal_bytes
slices_are [] [] = refl
slices_are [] (y ∷ b) = refl
slices_are (x ∷ a) [] = refl
slices_are (x ∷ a) (y ∷ b) = by (eqb x y) (slices_are a b)
  where
    by : (t : Bool) {r q : Bool} → r ≡ q → (t && r) ≡ cond t q false
    by true e = e
    by false e = refl

-- ---- the tests of `checksums_equal`

module _ (k : ℕ) (a : List ℕ) (j : ℕ) (b : List ℕ) where
  pub sums_none : k ≡ 0 → false ≡ equal_sums k a j b
  unfolding equal_sums
  sums_none h = simp tests

  module _ (h₁ : k ≡ 0 → ⊥) where
    pub sums_other : (k ≡ j → ⊥) → false ≡ equal_sums k a j b
    unfolding equal_sums
    sums_other h = simp tests

    pub sums_bytes : k ≡ j → equal_bytes a b ≡ equal_sums k a j b
    unfolding equal_sums
    sums_bytes h = simp tests

    pub sums_slices : k ≡ j → pointwise eqb a b ≡ equal_sums k a j b
    sums_slices h = slices_are a b ∙ sums_bytes h

-- ---- what "equal" says

-- the bytes are one list
pub equal_bytes_are : (a b : List ℕ) → equal_bytes a b ≡ true → a ≡ b
unfolding equal_bytes
equal_bytes_are [] [] e = refl
equal_bytes_are [] (y ∷ b) e = let z : ◌≡◌ {A = ℕ} 0 1 = cc in absurd (omega arith)
equal_bytes_are (x ∷ a) [] e = let z : ◌≡◌ {A = ℕ} 0 1 = cc in absurd (omega arith)
equal_bytes_are (x ∷ a) (y ∷ b) e = by (eqb x y) refl (equal_bytes_are a b) e
  where
    by : (t : Bool) → eqb x y ≡ t → (equal_bytes a b ≡ true → a ≡ b) → cond t (equal_bytes a b) false ≡ true → x ∷ a ≡ y ∷ b
    by true q ih e = λ i. eqb-true x y q i ∷ ih e i
    by false q ih e = let z : ◌≡◌ {A = ℕ} 0 1 = cc in absurd (omega arith)

pub equal_bytes_refl : (a : List ℕ) → equal_bytes a a ≡ true
unfolding equal_bytes
equal_bytes_refl [] = refl
equal_bytes_refl (x ∷ a) = rw (eq-eqb x x refl) (equal_bytes_refl a)

-- the checksums have one kind, which is not none, and the same bytes; and such checksums are equal
pub equal_sums_are : (k : ℕ) (a : List ℕ) (j : ℕ) (b : List ℕ) → equal_sums k a j b ≡ true → (0 < k) × (k ≡ j) × (a ≡ b)
unfolding equal_sums
equal_sums_are k a j b =
    by_cases Says (eqb k 0) (λ c e. let z : ◌≡◌ {A = ℕ} 0 1 = cc in absurd (omega arith))
    (λ c. by_cases Says (eqb k j) (λ d e. (omega (arith, eqb-false), eqb-true k j d, equal_bytes_are a b e))
    (λ d e. let z : ◌≡◌ {A = ℕ} 0 1 = cc in absurd (omega arith)))
  where
    Says : Bool → Type 0
    Says t = t ≡ true → (0 < k) × (k ≡ j) × (a ≡ b)

pub equal_sums_refl : (k : ℕ) (a : List ℕ) → (k ≡ 0 → ⊥) → equal_sums k a k a ≡ true
equal_sums_refl k a h = sym (sums_bytes k a k a h refl) ∙ equal_bytes_refl a
