-- Nothing is lost in what the answers of this crate tell: no second one tells the same.
use Rattle.std.specs.Prelude.{◌≡◌, refl, Result}
use Rattle.walk.specs.Listing.{Reply}
use Rattle.refusal.specs.Told.{Told}
use Rattle.refusal.specs.Untold.{untold_result, untold_result_lem}
use Rattle.refusal.specs.declared.Refusal.{Refusal}
use Rattle.find.specs.Find.{Span}
use Rattle.find.specs.Told.{told_span}
use Rattle.find.specs.Untold.{untold_span}
use Rattle.find.specs.declared as found
use Rattle.modi.specs.Told.{told_symbols, told_part}

abbrev pub untold_symbols : Reply (Unit {0}) Told → Result (Unit {0}) Refusal
untold_symbols = untold_result (λ u. u) (λ u. u) (λ u. refl)

pub untold_symbols_lem : (h : Result (Unit {0}) Refusal) → untold_symbols (told_symbols h) ≡ h
untold_symbols_lem = untold_result_lem (λ u. u) (λ u. u) (λ u. refl)

abbrev pub untold_part : Reply Span Told → Result found.Span.Span Refusal
untold_part = untold_result told_span untold_span (λ a. refl)

pub untold_part_lem : (h : Result found.Span.Span Refusal) → untold_part (told_part h) ≡ h
untold_part_lem = untold_result_lem told_span untold_span (λ a. refl)
