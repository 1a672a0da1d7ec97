-- Where the walk stands, turns at once from there.
use Rattle.std.proofs.Common.{arith}
use Rattle.kinds.specs.Kind.{crate_rule}
use Rattle.many_lines.specs.Bodies.{StandOf}
use Rattle.many_lines.specs.BodiesLaws.{bodies_behind}
use Rattle.many_lines.proofs.bodies_from.Goals as goal

pub bodies_on-requires : goal.bodies_on-requires
bodies_on-requires c =
    let v = c.args.slots.now in
    let h : StandOf crate_rule _ v _ _ _ = c.in-Some.ensures.each v in
    (h.short, omega (arith, h.count, c.requires))

pub returns-in-Some : goal.returns-in-Some
returns-in-Some c = bodies_behind crate_rule _ _ _ _ _ _ _ _ (c.in-Some.ensures.each c.args.slots.now) c.requires c.bodies_on.ensures
