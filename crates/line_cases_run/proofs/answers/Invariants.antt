-- `line_cases_run::answers` ends: the measure is what is left of the list.
use Rattle.std.proofs.Common.{length}
use Rattle.line_cases_run.proofs.answers.Given as goal

abbrev pub decreases-loop-head : goal.decreases-loop-head
decreases-loop-head g l = length l.left
