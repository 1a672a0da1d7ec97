-- Where the numbers of a step lie that reads at a place of some bytes: what is read takes so many bytes at least, and ends inside. One predicate for
-- every walk from place to place, and what it gives the walk.
use Rattle.std.specs.Prelude.{ℕ, ◌+◌, ◌-◌, ◌<◌, ◌≤◌, ◌≡◌}
use Rattle.std.proofs.Common.{arith}
use Rattle.walk.specs.Listing.{Move, item, pass, over, fail}
use Rattle.walk.specs.ListingLaws.{To, Holds}

-- at place p of m bytes, n bytes at least; Q says how the record lies between p and the next place
abbrev pub Within : {B R : Type 0} → ℕ → (ℕ → B → ℕ → Type 0) → ℕ → ℕ → Move ℕ B R → Type 0
Within n Q m p (item b x) = Q p b x × (p + n ≤ x) × (x ≤ m)
Within n Q m p (pass x) = (p + n ≤ x) × (x ≤ m)
Within n Q m p over = p ≡ m
Within n Q m p (fail r) = Unit {0}

module _ {B R : Type 0} (n : ℕ) (Q : ℕ → B → ℕ → Type 0) (m p : ℕ) where
  -- what holds of each place so far behind p, and inside, holds of the next
  pub within_to : (P : ℕ → Type 0) → ((x : ℕ) → p + n ≤ x → x ≤ m → P x) → (u : Move ℕ B R) → Within n Q m p u → To u P
  within_to P f (item b x) w = f x w.1 w.2
  within_to P f (pass x) w = f x w.0 w.1
  within_to P f over w = tt
  within_to P f (fail r) w = tt

  -- so what is left falls
  pub within_falls : 0 < n → (u : Move ℕ B R) → Within n Q m p u → To u (λ t. m - t < m - p)
  within_falls h = within_to (λ (t : ℕ). m - t < m - p) (λ x a b. omega arith)

  -- what holds of each record that lies so holds of the one that is read
  pub within_holds : (P : B → Type 0) → ((b : B) (x : ℕ) → Q p b x → x ≤ m → P b) → (u : Move ℕ B R) → Within n Q m p u → Holds P u
  within_holds P f (item b x) w = f b x w.0 w.2
  within_holds P f (pass x) w = tt
  within_holds P f over w = tt
  within_holds P f (fail r) w = tt
