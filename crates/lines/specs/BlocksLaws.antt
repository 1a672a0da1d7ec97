-- Laws of the blocks of a line body: the tests of the code, where a block's numbers lie, and that the blocks at their places, taken for their
-- words, are those of the body.
use Rattle.std.specs.Prelude.{ℕ, ◌+◌, ◌-◌, ◌<◌, ◌≤◌, ◌≡◌, refl, List, Bool, length, drop, ltb, eqb}
use Rattle.std.proofs.Common.{sym, ap, ◌∙◌, arith, add-zero, add_assoc, length-drop, drop-drop, ltb-true, ltb-false, eqb-true}
use Rattle.std.proofs.Math.Path.{subst⁻¹}
use Rattle.word.specs.Word.{u32_at}
use Rattle.word.specs.WordLaws.{u32_drop}
use Rattle.walk.specs.Cases.{tests, by_cases}
use Rattle.walk.specs.Listing.{Move, item, over, fail, Listing, more, ends, fails, mapped, on_move, Answer, gives, none, refuses, moved, calls, replies}
use Rattle.walk.specs.ListingLaws.{To, Every, all_step, all_ind, all_every, calls_are}
use Rattle.walk.specs.WithinLaws.{Within, within_falls, within_holds}
use Rattle.refusal.specs.Told.{Told, told}
use Rattle.refusal.specs.declared.Refusal.TheVariants as why
use Rattle.body.specs.Lines.{Block, line_bytes, block_bite, blocks}
use Rattle.find.specs.Find.{same}
use Rattle.lines.specs.Blocks.{LineBlock, block_at, blocks_from, worded}

-- ---- the tests of the code: a law for each way out

module _ (c : Bool) (b : List ℕ) (p : ℕ) where
  pub block_past : length b < p → refuses (told why.Cut) ≡ block_at c b p
  unfolding block_at
  block_past h = simp tests

  module _ (h₁ : p ≤ length b) where
    pub block_end : length b - p ≡ 0 → none ≡ block_at c b p
    unfolding block_at
    block_end h = simp tests

    module _ (h₂ : length b - p ≡ 0 → ⊥) where
      pub block_short : length b - p < 12 → refuses (told why.Cut) ≡ block_at c b p
      unfolding block_at
      block_short h = simp tests

      module _ (h₃ : 12 ≤ length b - p) where
        pub block_small : u32_at b (p + 8) < 12 → refuses (told why.BlockSize) ≡ block_at c b p
        unfolding block_at
        block_small h = simp tests

        module _ (h₄ : 12 ≤ u32_at b (p + 8)) where
          pub block_cut : length b - p < u32_at b (p + 8) → refuses (told why.Cut) ≡ block_at c b p
          unfolding block_at
          block_cut h = simp tests

          module _ (h₅ : u32_at b (p + 8) ≤ length b - p) where
            -- n and r as code has them: the count that was read, and the bytes of so many lines
            module _ (n r : ℕ) (en : n ≡ u32_at b (p + 4)) (er : r ≡ line_bytes c n) where
              is_bytes : r ≡ line_bytes c (u32_at b (p + 4))
              is_bytes = er ∙ ap (line_bytes c) en

              pub block_many : u32_at b (p + 8) - 12 < r → refuses (told why.BlockSize) ≡ block_at c b p
              unfolding block_at
              block_many h = let g = rw is_bytes at h in simp tests

              pub block_whole : r ≤ u32_at b (p + 8) - 12 → (f z : ℕ) → f ≡ u32_at b p → z ≡ u32_at b (p + 8)
                  → gives (record { file = f; count = n; start = p + 12 }) (p + z) ≡ block_at c b p
              unfolding block_at
              block_whole h f z ef ez = let g = rw is_bytes at h in simp (tests, ef, en, ez)

-- ---- where a block's numbers lie: its lines and columns begin at `start` and end before the next block

abbrev pub BlockLies : Bool → ℕ → LineBlock → ℕ → Type 0
BlockLies c p k x = (k.start ≡ p + 12) × (k.start + line_bytes c k.count ≤ x)

abbrev pub BlockWithin : Bool → ℕ → ℕ → Answer ℕ LineBlock Told → Type 0
BlockWithin c m p a = Within 12 (BlockLies c) m p (moved a)

pub block_within : (c : Bool) (b : List ℕ) (p : ℕ) → BlockWithin c (length b) p (block_at c b p)
unfolding block_at
block_within c b p =
    by_cases (BlockWithin c (length b) p) (ltb (length b) p) (λ h. tt)
    (λ h₁. by_cases (BlockWithin c (length b) p) (eqb (length b - p) 0) (λ h. omega (arith, ltb-false, eqb-true))
    (λ h₂. by_cases (BlockWithin c (length b) p) (ltb (length b - p) 12) (λ h. tt)
    (λ h₃. by_cases (BlockWithin c (length b) p) (ltb (u32_at b (p + 8)) 12) (λ h. tt)
    (λ h₄. by_cases (BlockWithin c (length b) p) (ltb (length b - p) (u32_at b (p + 8))) (λ h. tt)
    (λ h₅. by_cases (BlockWithin c (length b) p) (ltb (u32_at b (p + 8) - 12) (line_bytes c (u32_at b (p + 4)))) (λ h. tt)
    (λ h₆. ((refl, omega (arith, ltb-false)), omega (arith, ltb-false), omega (arith, ltb-false))))))))

pub block_in : (c : Bool) (b : List ℕ) (p : ℕ) (k : LineBlock) (x : ℕ) → gives k x ≡ block_at c b p → BlockWithin c (length b) p (gives k x)
block_in c b p k x e = subst⁻¹ (BlockWithin c (length b) p) e (block_within c b p)

-- ---- the walk from place to place

abbrev left : List ℕ → ℕ → ℕ
left b p = length b - p

falls : (c : Bool) (b : List ℕ) (p : ℕ) → To (moved (block_at c b p)) (λ t. left b t < left b p)
falls c b p = within_falls 12 (BlockLies c) (length b) p (omega arith) (moved (block_at c b p)) (block_within c b p)

pub from_step : (c : Bool) (b : List ℕ) (p : ℕ) → blocks_from c b p ≡ on_move (blocks_from c b) (moved (block_at c b p))
unfolding blocks_from
from_step c b p = all_step (λ q. moved (block_at c b q)) (left b) (falls c b) p

-- n calls, each at the place behind the block before, are answered by the blocks in order, and then by the end again and again
pub block_calls : (c : Bool) (b : List ℕ) (n p : ℕ) → calls (block_at c b) n p ≡ replies n (blocks_from c b p)
block_calls c b = calls_are (block_at c b) (blocks_from c b) (from_step c b)

-- ---- the blocks of the bytes

-- what is left behind a bite is shorter
bite_falls : (c : Bool) (s : List ℕ) → To (block_bite c s) (λ t. length t < length s)
unfolding block_bite
bite_falls c s =
    by_cases P (eqb (length s) 0) (λ h. tt)
    (λ h₂. by_cases P (ltb (length s) 12) (λ h. tt)
    (λ h₃. by_cases P (ltb (u32_at s 8) 12) (λ h. tt)
    (λ h₄. by_cases P (ltb (length s) (u32_at s 8)) (λ h. tt)
    (λ h₅. by_cases P (ltb (u32_at s 8 - 12) (line_bytes c (u32_at s 4))) (λ h. tt)
    (λ h₆. omega (arith, length-drop (u32_at s 8) s, ltb-false))))))
  where
    P : Move (List ℕ) Block Told → Type 0
    P u = To u (λ t. length t < length s)

-- an answer, taken for the words, and the blocks behind it
abbrev pub blocks_on : Bool → List ℕ → Answer ℕ LineBlock Told → Listing Block Told
blocks_on c b (gives k x) = more (worded c b k) (blocks c (drop x b))
blocks_on c b none = ends
blocks_on c b (refuses t) = fails t

abbrev cut_at : Bool → List ℕ → Answer ℕ LineBlock Told → Move (List ℕ) Block Told
cut_at c b (gives k x) = item (worded c b k) (drop x b)
cut_at c b none = over
cut_at c b (refuses t) = fail t

cut_block : (c : Bool) (b : List ℕ) (p : ℕ) → p ≤ length b → block_bite c (drop p b) ≡ cut_at c b (block_at c b p)
unfolding block_bite block_at
cut_block c b p h =
    by_cases P (ltb (length b) p) (λ h₁. absurd (omega (arith, ltb-true)))
    (λ h₁. by_cases P (eqb (length b - p) 0) (λ h₂. simp (length-drop, u32_drop, h₂))
    (λ h₂. by_cases P (ltb (length b - p) 12) (λ h₃. simp (length-drop, u32_drop, h₂, h₃))
    (λ h₃. by_cases P (ltb (u32_at b (p + 8)) 12) (λ h₄. simp (length-drop, u32_drop, h₂, h₃, h₄))
    (λ h₄. by_cases P (ltb (length b - p) (u32_at b (p + 8))) (λ h₅. simp (length-drop, u32_drop, h₂, h₃, h₄, h₅))
    (λ h₅. by_cases P (ltb (u32_at b (p + 8) - 12) (line_bytes c (u32_at b (p + 4)))) (λ h₆. simp (length-drop, u32_drop, h₂, h₃, h₄, h₅, h₆))
    (λ h₆. simp (length-drop, u32_drop, drop-drop, add-zero, add_assoc, h₂, h₃, h₄, h₅, h₆)))))))
  where
    P : Answer ℕ LineBlock Told → Type 0
    P a = block_bite c (drop p b) ≡ cut_at c b a

bite_step : (c : Bool) (s : List ℕ) → blocks c s ≡ on_move (blocks c) (block_bite c s)
unfolding blocks
bite_step c s = all_step (block_bite c) length (bite_falls c) s

on_cut : (c : Bool) (b : List ℕ) (a : Answer ℕ LineBlock Told) → on_move (blocks c) (cut_at c b a) ≡ blocks_on c b a
on_cut c b (gives k x) = refl
on_cut c b none = refl
on_cut c b (refuses t) = refl

-- one step: the block at p, and the blocks of what is behind it
pub blocks_step : (c : Bool) (b : List ℕ) (p : ℕ) → p ≤ length b → blocks c (drop p b) ≡ blocks_on c b (block_at c b p)
blocks_step c b p h = bite_step c (drop p b) ∙ ap (on_move (blocks c)) (cut_block c b p h) ∙ on_cut c b (block_at c b p)

-- THE THEOREM: the blocks at their places, taken for the words that stand there, are the blocks of the bytes
pub blocks_are : (c : Bool) (b : List ℕ) (p : ℕ) → p ≤ length b → mapped (worded c b) same (blocks_from c b p) ≡ blocks c (drop p b)
unfolding blocks_from
blocks_are c b =
    all_ind (λ p. moved (block_at c b p)) (left b) (falls c b) (λ p l. p ≤ length b → mapped (worded c b) same l ≡ blocks c (drop p b))
    (λ p f h. on p (block_at c b p) (block_within c b p) f ∙ sym (blocks_step c b p h))
  where
    on : (p : ℕ) (a : Answer ℕ LineBlock Told) → BlockWithin c (length b) p a
        → To (moved a) (λ t. t ≤ length b → mapped (worded c b) same (blocks_from c b t) ≡ blocks c (drop t b))
        → mapped (worded c b) same (on_move (blocks_from c b) (moved a)) ≡ blocks_on c b a
    on p (gives k x) w f = ap (more (worded c b k)) (f w.2)
    on p none w f = refl
    on p (refuses t) w f = refl

-- each block's lines and columns lie in the body
pub blocks_inside : (c : Bool) (b : List ℕ) (p : ℕ) → Every (λ (k : LineBlock). k.start + line_bytes c k.count ≤ length b) (blocks_from c b p)
unfolding blocks_from
blocks_inside c b =
    all_every (λ p. moved (block_at c b p)) (left b) (falls c b) (λ (k : LineBlock). k.start + line_bytes c k.count ≤ length b)
    (λ p. within_holds 12 (BlockLies c) (length b) p (λ (k : LineBlock). k.start + line_bytes c k.count ≤ length b) (λ k x w h. omega arith) (moved (block_at c b p)) (block_within c b p))
