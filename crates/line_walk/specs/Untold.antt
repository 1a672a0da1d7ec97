-- Nothing is lost in what the answer of this crate tells: no second one tells the same.
use Rattle.std.specs.Prelude.{◌≡◌, refl, Option, Result}
use Rattle.walk.specs.Listing.{Answer}
use Rattle.refusal.specs.Told.{Told}
use Rattle.refusal.specs.Untold.{untold_answer, untold_answer_lem}
use Rattle.refusal.specs.declared.Refusal.{Refusal}
use Rattle.line_record.specs.declared.LineRecord.{LineRecord}
use Rattle.line_step.specs.declared.LineWalk.{LineWalk}
use Rattle.line_walk.specs.Told.{told_line}

abbrev pub untold_line : Answer LineWalk LineRecord Told → Result (Option (LineRecord × LineWalk)) Refusal
untold_line = untold_answer (λ r. r) (λ r. r) (λ r. refl)

pub untold_line_lem : (x : Result (Option (LineRecord × LineWalk)) Refusal) → untold_line (told_line x) ≡ x
untold_line_lem = untold_answer_lem (λ r. r) (λ r. r) (λ r. refl)
