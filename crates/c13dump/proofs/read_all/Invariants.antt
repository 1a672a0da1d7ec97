-- `c13dump::read_all` ends: each turn reads at least one byte more. The invariant: what was read lies in the area. The measure is the room that is left.
use Rattle.std.proofs.Common.{length, ◌-◌, ◌≤◌}
use Rattle.c13dump.proofs.read_all.Given as goal

abbrev pub invariant-loop-len : goal.invariant-loop-len
invariant-loop-len g l = l.len ≤ length l.area

abbrev pub decreases-loop-len : goal.decreases-loop-len
decreases-loop-len g l = length l.area - l.len
