-- The answer at the walk w is the answer at the walk that the call was given; the measure is what is to be done.
use Rattle.std.proofs.Common.{◌≡◌}
use Rattle.kinds.specs.Kind.{crate_rule}
use Rattle.line_walk.specs.Next.{todo, next_of}
use Rattle.line_walk.proofs.next_line.Given as goal

abbrev pub invariant-loop-turn : goal.invariant-loop-turn
invariant-loop-turn l = next_of crate_rule l.area l.slots l.w ≡ next_of crate_rule l.area l.slots l.fn.walk

abbrev pub decreases-loop-turn : goal.decreases-loop-turn
decreases-loop-turn l = todo crate_rule l.area l.w
