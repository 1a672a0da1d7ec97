-- What the answer of this crate tells. Source: document 01, "Refusal numbers", and the values that it names for each.
-- Definitions only; a reader must believe them.
use Rattle.std.specs.Prelude.{Option, Result}
use Rattle.walk.specs.Listing.{Answer}
use Rattle.refusal.specs.Told.{Told}
use Rattle.refusal.specs.Answers.{told_answer}
use Rattle.refusal.specs.declared.Refusal.{Refusal}
use Rattle.line_record.specs.declared.LineRecord.{LineRecord}
use Rattle.line_step.specs.declared.LineWalk.{LineWalk}

abbrev pub told_line : Result (Option (LineRecord × LineWalk)) Refusal → Answer LineWalk LineRecord Told
told_line = told_answer (λ r. r)
