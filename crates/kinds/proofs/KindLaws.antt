-- The names of the known kinds are just the numbers from 0xf1 to 0xfd, so that cvinfo.h's table and document 01's sentence are one rule.
use Rattle.std.specs.Prelude.{ℕ, zero, suc, ◌+◌, ◌≤◌, ◌<◌, ◌≡◌, refl, ◌⊎◌, List, [], ◌∷◌, ◌++◌, true, false, cond, ◌&&◌, leb, eqb}
use Rattle.std.proofs.Common.{sym, ap, ◌∙◌, inl, inr, arith, ne_eqb, le-leb}
use Rattle.std.proofs.lemmas.Bool.{eqb-false, lt-leb}
use Rattle.walk.specs.Cases.{by_cases, le_or_gt}
use Rattle.kinds.specs.Kind.{IGNORE, known_kinds, among, known, skipped, unknown, crate_rule}

-- n numbers from a on
abbrev pub up_from : ℕ → ℕ → List ℕ
up_from zero a = []
up_from (suc n) a = a ∷ up_from n (a + 1)

-- In the order of cvinfo.h they are the thirteen numbers from 0xf1 on: none is missing, none stands twice, no two are exchanged.
pub kinds_are : known_kinds ≡ up_from 13 0xf1
kinds_are = refl

module _ (k : ℕ) where
  -- to be one of n + 1 numbers in a row is to stand between the first and the last
  pub among_range : (n a : ℕ) → among k (up_from (suc n) a) ≡ (leb a k && leb k (a + n))
  among_range n a = go (le_or_gt a k) (le_or_gt k (a + n))
    where
      low : (n a : ℕ) → k < a → among k (up_from n a) ≡ false
      low zero a h = refl
      low (suc n) a h = rw (ne_eqb k a (λ e. omega arith)) (low n (a + 1) (omega arith))

      high : (n a : ℕ) → a + n ≤ k → among k (up_from n a) ≡ false
      high zero a h = refl
      high (suc n) a h = rw (ne_eqb k a (λ e. omega arith)) (high n (a + 1) (omega arith))

      within : (n a : ℕ) → a ≤ k → k < a + n → among k (up_from n a) ≡ true
      within zero a h l = absurd (omega arith)
      within (suc n) a h l = by_cases (λ t. t ≡ true) (eqb k a) (λ e. refl) (λ e. within n (a + 1) (omega (arith, eqb-false k a e)) (omega arith))

      go : (a ≤ k) ⊎ (k < a) → (k ≤ a + n) ⊎ (a + n < k) → among k (up_from (suc n) a) ≡ (leb a k && leb k (a + n))
      go (inl h) (inl l) = within (suc n) a h (omega arith) ∙ (rw (le-leb a k h, le-leb k (a + n) l))
      go (inl h) (inr l) = high (suc n) a (omega arith) ∙ (rw (le-leb a k h, lt-leb k (a + n) l))
      go (inr h) l = low (suc n) a h ∙ (rw (lt-leb a k h))

  pub known_range : among k known_kinds ≡ (leb 0xf1 k && leb k 0xfd)
  known_range = among_range 12 0xf1

  -- a number that is not n is among others as it is among them and n
  pub among_but : (n : ℕ) (l m : List ℕ) → (k ≡ n → ⊥) → among k (l ++ (n ∷ m)) ≡ among k (l ++ m)
  among_but n [] m d = rw (ne_eqb k n d)
  among_but n (x ∷ l) m d = ap (cond (eqb k x) true) (among_but n l m d)

  pub known_not_ignored : among k known_kinds ≡ true → k ≡ IGNORE → ⊥
  known_not_ignored h e = no (ap (λ (n : ℕ). among n known_kinds) (sym e) ∙ h)
    where
      no : false ≡ true → ⊥
      no q = let z : ◌≡◌ {A = ℕ} 0 1 = cc in omega arith

  -- THE RULE in document 01's numbers
  pub rule_range : crate_rule k ≡ cond (leb 0xf1 k && leb k 0xfd) known (cond (eqb k 0x8000_0000) skipped unknown)
  unfolding crate_rule
  rule_range = rw known_range
