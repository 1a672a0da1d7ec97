-- The invariant: the first i bytes are laid over the start.
use Rattle.std.proofs.Common.{◌≡◌, ◌++◌, take, drop}
use Rattle.writer.proofs.copy.Given as goal

abbrev pub invariant-loop-i : goal.invariant-loop-i
invariant-loop-i l = l.free ≡ take l.i l.bytes ++ drop l.i l.initial.free
