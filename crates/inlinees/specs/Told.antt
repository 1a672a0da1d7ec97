-- What the answers of this crate tell. Source: document 01, "Refusal numbers", and the values that it names for each.
-- Definitions only; a reader must believe them.
use Rattle.std.specs.Prelude.{ℕ, Option, Result}
use Rattle.walk.specs.Listing.{Answer}
use Rattle.refusal.specs.Told.{Told}
use Rattle.refusal.specs.Answers.{told_answer}
use Rattle.refusal.specs.declared.Refusal.{Refusal}
use Rattle.table.specs.declared.TableWalk.{TableWalk}
use Rattle.inlinees.specs.Inlinees.{SourceLine}
use Rattle.inlinees.specs.declared as code

abbrev pub told_one_line : code.SourceLine.SourceLine → SourceLine
told_one_line e = record { inlinee = e.inlinee; file = e.file; line = e.line; extra = e.extra; count = e.count }

abbrev pub told_source_line : Result (Option (code.SourceLine.SourceLine × ℕ)) Refusal → Answer ℕ SourceLine Told
told_source_line = told_answer told_one_line

abbrev pub told_inlinee : Result (Option (code.SourceLine.SourceLine × TableWalk)) Refusal → Answer TableWalk SourceLine Told
told_inlinee = told_answer told_one_line
