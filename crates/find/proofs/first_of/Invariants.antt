-- The answer from p on is the answer from the start; the measure is what is left of the area.
use Rattle.std.proofs.Common.{◌≡◌, ◌-◌, length}
use Rattle.walk.specs.Pick.{first_by, map_reply}
use Rattle.kinds.specs.Kind.{crate_rule}
use Rattle.area.specs.Subs.{subs_from}
use Rattle.find.specs.Find.{same, is, span_of}
use Rattle.find.proofs.first_of.Given as goal

abbrev pub invariant-loop-sub : goal.invariant-loop-sub
invariant-loop-sub l = map_reply span_of same (first_by (is l.wanted) (subs_from crate_rule l.area l.p)) ≡ map_reply span_of same (first_by (is l.wanted) (subs_from crate_rule l.area 0))

abbrev pub decreases-loop-sub : goal.decreases-loop-sub
decreases-loop-sub l = length l.area - l.p
