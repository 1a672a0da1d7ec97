-- Each way out is a case of `body_list`, and of the slots behind it.
use Rattle.std.proofs.Common.{arith}
use Rattle.body_list.specs.BodyListLaws.{counted_starts, list_all}
use Rattle.body_list.proofs.body_list.Goals as goal

pub fill-requires : goal.fill-requires
fill-requires c = omega (arith, counted_starts _ _ _ c.in_ok-n.ensures)

pub returns-clause-bodies_after : goal.returns-clause-bodies_after
returns-clause-bodies_after c = (list_all _ _ c.args.bodies.now _ c.in_ok-n.ensures (omega arith) _ c.fill.ensures).1
