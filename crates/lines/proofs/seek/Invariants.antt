-- What is found from p on is what is found from the start of the search; the measure is what is left of the area.
use Rattle.std.proofs.Common.{◌≡◌, ◌-◌, length}
use Rattle.kinds.specs.Kind.{crate_rule}
use Rattle.lines.specs.Slots.{body_from}
use Rattle.lines.proofs.seek.Given as goal

abbrev pub invariant-loop-sub : goal.invariant-loop-sub
invariant-loop-sub l = body_from crate_rule l.area l.p l.body ≡ body_from crate_rule l.area l.from l.body

abbrev pub decreases-loop-sub : goal.decreases-loop-sub
decreases-loop-sub l = length l.area - l.p
