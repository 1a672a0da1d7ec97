-- Many turns at once, which end the walk, or fill the room, or leave the rest to others.
use Rattle.std.proofs.Common.{arith}
use Rattle.kinds.specs.Kind.{crate_rule}
use Rattle.many_lines.specs.BodiesLaws.{filled_full, filled_over, filled_on}
use Rattle.many_lines.proofs.fill.Goals as goal

pub returns-then-x : goal.returns-then-x
returns-then-x c = record { is = filled_over crate_rule _ _ _ _ c.requires _ _ c.bodies_from-x.ensures c.if-x.true }

pub returns-then-room-count : goal.returns-then-room-count
returns-then-room-count c =
    let p = c.requires in
    record { is = filled_full crate_rule _ _ _ _ p _ _ _ (filled_on crate_rule _ _ _ _ p _ _ c.bodies_from-x.ensures) (omega arith) }

pub returns : goal.returns
returns c =
    let p = c.requires in
    let h = c.bodies_from-x.ensures in
    record { is = c.slower.ensures.filled _ (omega (arith, h.size)) p (filled_on crate_rule _ _ _ _ p _ _ h) }
