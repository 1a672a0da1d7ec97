-- n files are put, and the walk behind them is w (`Put`); the measure is the room that is left.
use Rattle.std.proofs.Common.{◌-◌}
use Rattle.kinds.specs.Kind.{crate_rule}
use Rattle.many_files.specs.FilesLaws.{Put}
use Rattle.many_files.proofs.fill.Given as goal

abbrev pub invariant-loop-n : goal.invariant-loop-n
invariant-loop-n l = Put crate_rule l.area l.initial.w l.initial.out l.n l.w l.out

abbrev pub decreases-loop-n : goal.decreases-loop-n
decreases-loop-n l = l.room - l.n
