-- The lines of the body, and behind the last of them the turn over its end.
use Rattle.kinds.specs.Kind.{crate_rule}
use Rattle.many_lines.specs.BodiesLaws.{passed_stuck, passed_end}
use Rattle.many_lines.proofs.body_on.Goals as goal

pub returns-then-x : goal.returns-then-x
returns-then-x c = passed_stuck crate_rule _ _ _ _ _ _ _ c.body_lines-x.ensures c.if-x.true

pub returns-in-Ok : goal.returns-in-Ok
returns-in-Ok c = passed_end crate_rule _ _ _ _ _ _ _ c.body_lines-x.ensures c.if-x.false _ c.in-Ok.ensures
