-- What the answer of this crate tells. Source: document 01, "Refusal numbers", and the values that it names for each.
-- Definitions only; contracts of inner calls alone cite them.
use Rattle.std.specs.Prelude.{ℕ, Result, Ok, Err}
use Rattle.refusal.specs.Told.{told}
use Rattle.refusal.specs.declared.Refusal.{Refusal}
use Rattle.text.specs.Text.{Next, at, stopped}

abbrev pub told_place : Result ℕ Refusal → Next
told_place (Ok p) = at p
told_place (Err r) = stopped (told r)
