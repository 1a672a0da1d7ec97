-- Laws of a run of words in bytes: which is the one at an index, that a part of the bytes that holds the run has the same, and a law for each way
-- out of `word_in`.
use Prim.Native.Nat.{ℕ, zero, suc, ◌+◌, ◌*◌, ◌<◌, ◌≤◌}
use Rattle.std.specs.Prelude.{◌≡◌, List, ◌∷◌, length, take, drop}
use Rattle.std.proofs.Math.Path.{refl, ap}
use Rattle.std.proofs.Common.{sym, ◌∙◌, arith, drop-drop}
use Rattle.walk.specs.Cases.{tests}
use Rattle.walk.specs.Listing.{gave, nothing, refused}
use Rattle.refusal.specs.Told.{told, longest}
use Rattle.refusal.specs.declared.Refusal.TheVariants as why
use Rattle.word.specs.Word.{u32_at}
use Rattle.word.specs.WordLaws.{u32_drop, u32_take}
use Rattle.body.specs.Words.{words_in}
use Rattle.table.specs.Collect.{of_nth}
use Rattle.table.specs.Table.{word_in}

module _ {C : Type 0} (y : C) (f : ℕ → C) where
  nth_front : (n : ℕ) (s : List ℕ) (i : ℕ) → i < n → of_nth i (words_in n s) y f ≡ f (u32_at s (4 * i))
  unfolding words_in of_nth
  nth_front zero s i h = absurd (omega arith)
  nth_front (suc n) s zero h = refl
  nth_front (suc n) s (suc i) h =
      nth_front n (drop 4 s) i (omega arith) ∙ ap f (u32_drop s 4 (4 * i) ∙ ap (u32_at s) (omega arith))

  -- the word at an index of those from a place on
  pub words_nth : (n : ℕ) (s : List ℕ) (p i : ℕ) → i < n → f (u32_at s (p + 4 * i)) ≡ of_nth i (words_in n (drop p s)) y f
  words_nth n s p i h = sym (nth_front n (drop p s) i h ∙ ap f (u32_drop s p (4 * i)))

  pub words_none : (n : ℕ) (s : List ℕ) (i : ℕ) → n ≤ i → y ≡ of_nth i (words_in n s) y f
  unfolding words_in of_nth
  words_none zero s i h = refl
  words_none (suc n) s zero h = absurd (omega arith)
  words_none (suc n) s (suc i) h = words_none n (drop 4 s) i (omega arith)

-- in a part of k bytes from the front
words_take : (n : ℕ) (s : List ℕ) (k p : ℕ) → p + 4 * n ≤ k → words_in n (drop p (take k s)) ≡ words_in n (drop p s)
unfolding words_in
words_take zero s k p h = refl
words_take (suc n) s k p h =
    let first : u32_at (drop p (take k s)) 0 ≡ u32_at (drop p s) 0
    = u32_drop (take k s) p 0 ∙ u32_take s k (p + 0) (omega arith) ∙ sym (u32_drop s p 0) in
    let rest : words_in n (drop 4 (drop p (take k s))) ≡ words_in n (drop 4 (drop p s))
    = ap (words_in n) (drop-drop 4 p (take k s)) ∙ words_take n s k (p + 4) (omega arith) ∙ ap (words_in n) (sym (drop-drop 4 p s)) in
    λ i. first i ∷ rest i

-- n words at p of the part at start are those of the whole
pub words_part : (s : List ℕ) (start len p n : ℕ) → p + 4 * n ≤ len → words_in n (drop (start + p) s) ≡ words_in n (drop p (take len (drop start s)))
words_part s start len p n h = ap (words_in n) (sym (drop-drop p start s)) ∙ sym (words_take n (drop start s) len p h)

-- ---- the tests of `word_in`

module _ (s : List ℕ) (words count i : ℕ) where
  pub word_long : longest < length s → refused (told why.TooLong) ≡ word_in s words count i
  unfolding word_in
  word_long h = simp tests

  module _ (h₀ : length s ≤ longest) where
    pub word_past : length s < words + 4 * count → refused (told why.Cut) ≡ word_in s words count i
    unfolding word_in
    word_past h = simp tests

    module _ (h₁ : words + 4 * count ≤ length s) where
      -- of words that lie in the area
      pub word_of : word_in s words count i ≡ of_nth i (words_in count (drop words s)) nothing gave
      unfolding word_in
      word_of = simp tests

      pub word_none : count ≤ i → nothing ≡ word_in s words count i
      word_none h = words_none nothing gave count (drop words s) i h ∙ sym word_of

      pub word_at : i < count → (w : ℕ) → w ≡ u32_at s (words + 4 * i) → gave w ≡ word_in s words count i
      word_at h w e = ap gave e ∙ words_nth nothing gave count s words i h ∙ sym word_of
