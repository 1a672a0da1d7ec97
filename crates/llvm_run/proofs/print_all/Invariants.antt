-- `llvm_run::print_all` ends: the measure is what is left of the input.
use Rattle.std.proofs.Common.{length}
use Rattle.llvm_run.proofs.print_all.Given as goal

abbrev pub decreases-loop-len : goal.decreases-loop-len
decreases-loop-len g l = length l.left
