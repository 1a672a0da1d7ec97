-- Nothing is lost in what the answers of this crate tell: no second one tells the same.
use Rattle.std.specs.Prelude.{◌≡◌, refl, Result}
use Rattle.walk.specs.Listing.{Reply}
use Rattle.refusal.specs.Told.{Told}
use Rattle.refusal.specs.Untold.{untold_result, untold_result_lem}
use Rattle.refusal.specs.declared.Refusal.{Refusal}
use Rattle.find.specs.Find.{Span}
use Rattle.find.specs.Told.{told_span}
use Rattle.find.specs.Untold.{untold_span}
use Rattle.find.specs.declared as found
use Rattle.strings.specs.Told.{told_table, told_name}

abbrev pub untold_table : Reply Span Told → Result found.Span.Span Refusal
untold_table = untold_result told_span untold_span (λ a. refl)

pub untold_table_lem : (a : Result found.Span.Span Refusal) → untold_table (told_table a) ≡ a
untold_table_lem = untold_result_lem told_span untold_span (λ a. refl)

abbrev pub untold_name : Reply Span Told → Result found.Span.Span Refusal
untold_name = untold_result told_span untold_span (λ a. refl)

pub untold_name_lem : (a : Result found.Span.Span Refusal) → untold_name (told_name a) ≡ a
untold_name_lem = untold_result_lem told_span untold_span (λ a. refl)
