-- A name for the proofs: a slot that is looked at.
-- Definitions only; no public contract cites them.
use Rattle.std.specs.Prelude.{ℕ, List, Bool, false, cond, length, get_or, leb, eqb}

-- does slot i of b hold u?
unfoldable pub holds : ℕ → List ℕ → ℕ → Bool
holds u b i = cond (leb (length b) i) false (eqb (get_or b i 0) u)
