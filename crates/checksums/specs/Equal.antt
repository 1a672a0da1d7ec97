-- When two checksums are equal, each a kind and its bytes. Source: document 01, "Checksums, inlinees": two "none" checksums are not equal in the
-- crate's comparison; crate, `PartialEq for FileChecksum`: the kinds are the same, and no "none", and the bytes are the same.
-- Definitions only; `equal_sums_are`, `equal_sums_refl` (checksums EqualLaws) say what they mean.
use Rattle.std.specs.Prelude.{ℕ, List, [], ◌∷◌, Bool, true, false, cond, eqb}

unfoldable pub equal_bytes : List ℕ → List ℕ → Bool
equal_bytes [] [] = true
equal_bytes [] (y ∷ b) = false
equal_bytes (x ∷ a) [] = false
equal_bytes (x ∷ a) (y ∷ b) = cond (eqb x y) (equal_bytes a b) false

unfoldable pub equal_sums : ℕ → List ℕ → ℕ → List ℕ → Bool
equal_sums k a j b = cond (eqb k 0) false (cond (eqb k j) (equal_bytes a b) false)
