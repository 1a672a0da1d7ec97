-- What the answers of this crate tell. Source: document 01, "Refusal numbers", and the values that it names for each.
-- Definitions only; a reader must believe them.
use Rattle.std.specs.Prelude.{Result}
use Rattle.walk.specs.Listing.{Reply}
use Rattle.refusal.specs.Told.{Told}
use Rattle.refusal.specs.Answers.{told_result}
use Rattle.refusal.specs.declared.Refusal.{Refusal}
use Rattle.find.specs.Find.{Span}
use Rattle.find.specs.Told.{told_span}
use Rattle.find.specs.declared as found

abbrev pub told_table : Result found.Span.Span Refusal → Reply Span Told
told_table = told_result told_span

abbrev pub told_name : Result found.Span.Span Refusal → Reply Span Told
told_name = told_result told_span
