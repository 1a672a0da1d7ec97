-- Nothing is lost in what the answer of this crate tells: no second one tells the same.
use Rattle.std.specs.Prelude.{ℕ, ◌≡◌, refl, Result, Ok, Err}
use Rattle.std.proofs.Common.{ap}
use Rattle.refusal.specs.Untold.{untold, untold_told}
use Rattle.refusal.specs.declared.Refusal.{Refusal}
use Rattle.text.specs.Text.{Next, at, stopped}
use Rattle.text.specs.Told.{told_place}

abbrev pub untold_place : Next → Result ℕ Refusal
untold_place (at p) = Ok p
untold_place (stopped t) = Err (untold t)

pub untold_place_lem : (x : Result ℕ Refusal) → untold_place (told_place x) ≡ x
untold_place_lem (Ok p) = refl
untold_place_lem (Err r) = ap Err (untold_told r)
