-- What is left of the list and of the area's are the same if the two are; the measure is what is left of the area.
use Rattle.std.proofs.Common.{◌≡◌, ◌-◌, ◌≤◌, length, drop}
use Rattle.kinds.specs.Kind.{crate_rule}
use Rattle.body_list.specs.BodyList.{starts_from}
use Rattle.body_list.specs.Search.{same_list, is_areas}
use Rattle.body_list.proofs.is_areas.Given as goal

abbrev pub invariant-loop-sub : goal.invariant-loop-sub
invariant-loop-sub l =
    (same_list (drop l.n l.bodies) (starts_from crate_rule l.area l.p) ≡ is_areas crate_rule l.area l.bodies) × (l.n ≤ length l.bodies)

abbrev pub decreases-loop-sub : goal.decreases-loop-sub
decreases-loop-sub l = length l.area - l.p
