-- `line_step::line_turn` meets its contract: where the entry is read the place behind it fits 64 bits.
-- Assumes nothing.
use Rattle.std.proofs.Common.{arith}
use Rattle.line_step.specs.TurnLaws.{entry_within, past_lines_are, line_line, line_marker}
use Rattle.line_step.proofs.line_turn.Goals as goal

pub returns-in-Some : goal.returns-in-Some
returns-in-Some c =
    let e = rw c.in-Some.is at c.in_ok-r.ensures in
    let i = entry_within _ _ _ e in
    line_line _ _ _ _ (past_lines_are _ 1 (omega arith) (omega arith) _ c.past_lines.ensures) _ _ e c.hold.ensures

pub returns-in-None : goal.returns-in-None
returns-in-None c =
    let e = rw c.in-None.is at c.in_ok-r.ensures in
    let i = entry_within _ _ _ e in
    line_marker _ _ _ _ (past_lines_are _ 1 (omega arith) (omega arith) _ c.past_lines-in-None.ensures) e
