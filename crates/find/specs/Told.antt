-- What the answer of this crate tells. Source: document 01, "Refusal numbers", and the values that it names for each.
-- Definitions only; a reader must believe them.
use Rattle.std.specs.Prelude.{Option, Result}
use Rattle.walk.specs.Listing.{Reply}
use Rattle.refusal.specs.Told.{Told}
use Rattle.refusal.specs.Answers.{told_reply}
use Rattle.refusal.specs.declared.Refusal.{Refusal}
use Rattle.find.specs.Find.{Span}
use Rattle.find.specs.declared as code

abbrev pub told_span : code.Span.Span → Span
told_span a = record { start = a.start; len = a.len }

abbrev pub told_found : Result (Option code.Span.Span) Refusal → Reply Span Told
told_found = told_reply told_span
