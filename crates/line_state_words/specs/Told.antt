-- What the answers of this crate tell. Source: docs/DECISIONS.md, 59: a number that names no reading is none.
-- Definitions only; a reader must believe them.
use Rattle.std.specs.Prelude.{Option, None, Some}
use Rattle.std.proofs.Math.Option.{none, some}
use Rattle.std.proofs.Math.Option as option
use Rattle.line_record.specs.declared.EndLines.{EndLines}
use Rattle.line_step.specs.declared.LineWalk.{LineWalk}

abbrev pub told_how : Option EndLines → option.Option EndLines
told_how (Some x) = some x
told_how None = none

abbrev pub told_walk_in : Option LineWalk → option.Option LineWalk
told_walk_in (Some w) = some w
told_walk_in None = none
