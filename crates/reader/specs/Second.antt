-- The second answer of a reader: a step from the start on, and a step from the place behind it. Source: document 01, "Area and subsections": a
-- walker that holds the area and its place answers one subsection at a time.
-- Definitions only; a reader must believe them.
use Rattle.std.specs.Prelude.{ℕ, List}
use Rattle.walk.specs.Listing.{Answer}
use Rattle.refusal.specs.Told.{Told}
use Rattle.area.specs.Subs.{Sub, crate_step}

abbrev pub second : List ℕ → Answer ℕ Sub Told
second s = (crate_step s (crate_step s 0).behind).answer
