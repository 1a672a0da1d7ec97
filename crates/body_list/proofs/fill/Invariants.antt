-- What is still to be stored leads to the bodies that are wanted, and fits in; the measure is what is left of the area.
use Rattle.std.proofs.Common.{◌≡◌, ◌+◌, ◌-◌, ◌≤◌, length}
use Rattle.kinds.specs.Kind.{crate_rule}
use Rattle.body_list.specs.BodyList.{starts_from}
use Rattle.body_list.specs.BodyListLaws.{store_all}
use Rattle.body_list.proofs.fill.Given as goal

abbrev pub invariant-loop-sub : goal.invariant-loop-sub
invariant-loop-sub l =
    (store_all (starts_from crate_rule l.area l.p) l.n l.bodies ≡ store_all (starts_from crate_rule l.area 0) 0 l.initial.bodies)
    × (l.n + length (starts_from crate_rule l.area l.p) ≤ length l.bodies) × (length l.bodies ≡ length l.initial.bodies)

abbrev pub decreases-loop-sub : goal.decreases-loop-sub
decreases-loop-sub l = length l.area - l.p
