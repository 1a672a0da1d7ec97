-- What the answers of this crate tell. Source: document 01, "Refusal numbers", and the values that it names for each.
-- Definitions only; a reader must believe them.
use Rattle.std.specs.Prelude.{ℕ, Option, Result}
use Rattle.walk.specs.Listing.{Reply}
use Rattle.refusal.specs.Told.{Told}
use Rattle.refusal.specs.Answers.{told_reply}
use Rattle.refusal.specs.declared.Refusal.{Refusal}
use Rattle.table.specs.Table.{Place}
use Rattle.table.specs.declared.Spot.{Spot}

abbrev pub told_place : Spot → Place
told_place q = record { start = q.start; len = q.len; at = q.at }

abbrev pub told_spot : Result (Option Spot) Refusal → Reply Place Told
told_spot = told_reply told_place

abbrev pub told_word : Result (Option ℕ) Refusal → Reply ℕ Told
told_word = told_reply (λ w. w)
