-- `line_step::sub_turn` meets its contract: where the slot names a body, the walk goes on inside it, and behind it is the next slot.
-- Assumes nothing.
use Rattle.std.proofs.Common.{arith}
use Rattle.line_step.specs.TurnLaws.{sub_entered}
use Rattle.line_step.proofs.sub_turn.Goals as goal

pub returns : goal.returns
returns c = sub_entered _ _ _ _ _ _ _ (omega (arith, c.well_formed)) c.in_ok-span.ensures _ _ c.in_ok-p.ensures c.behind_body.ensures
