-- All records of a listing in a list, as the crate collects a table before it looks into it: a refusal anywhere in the listing comes first.
-- Source: document 01, "Cross-module tables": resolving reads the whole body first, and a lookup tests all pairs.
-- Definitions only; a reader must believe them.
use Rattle.std.specs.Prelude.{ℕ, zero, suc, List, [], ◌∷◌, length}
use Rattle.walk.specs.Listing.{Listing, more, ends, fails, Reply, gave, refused}
use Rattle.walk.specs.Pick.{on_gave}

unfoldable pub collected : {B R : Type 0} → Listing B R → Reply (List B) R
collected (more b l) = on_gave (λ bs. gave (b ∷ bs)) (collected l)
collected ends = gave []
collected (fails r) = refused r

-- how many records a listing has
abbrev pub listing_count : {B R : Type 0} → Listing B R → Reply ℕ R
listing_count {B} l = on_gave (λ (bs : List B). gave (length bs)) (collected l)

-- f of the record at an index, counted from 0, or y where there is none
unfoldable pub of_nth : {B C : Type 0} → ℕ → List B → C → (B → C) → C
of_nth i [] y f = y
of_nth zero (b ∷ bs) y f = f b
of_nth (suc i) (b ∷ bs) y f = of_nth i bs y f
