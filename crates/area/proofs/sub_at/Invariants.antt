-- The subsections from p on are those from the start on; the measure is what is left of the area.
use Rattle.std.proofs.Common.{◌≡◌, ◌-◌, length}
use Rattle.kinds.specs.Kind.{crate_rule}
use Rattle.area.specs.Subs.{subs_from}
use Rattle.area.proofs.sub_at.Given as goal

abbrev pub invariant-loop-sub : goal.invariant-loop-sub
invariant-loop-sub l = subs_from crate_rule l.area l.p ≡ subs_from crate_rule l.area l.at

abbrev pub decreases-loop-sub : goal.decreases-loop-sub
decreases-loop-sub l = length l.area - l.p
