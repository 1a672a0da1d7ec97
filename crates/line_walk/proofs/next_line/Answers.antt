-- `line_walk::next_line` meets its contract: each way out is a case of the first answer of the turns.
-- Assumes nothing.
use Rattle.std.proofs.Common.{◌∙◌}
use Rattle.std.proofs.lemmas.Result.{err_from_is_err_and}
use Rattle.line_walk.proofs.NextLaws.{next_is}
use Rattle.line_walk.proofs.next_line.Goals as goal

pub returns-in_err-turn : goal.returns-in_err-turn
returns-in_err-turn c =
    let p = err_from_is_err_and c.from_residual.result c.from_residual.ensures.1 in
    rw (p.1, p.2) (next_is _ _ _ _ _ c.in_err-turn.ensures ∙ c.loop-turn.invariant)

pub returns-in-Line : goal.returns-in-Line
returns-in-Line c = next_is _ _ _ _ _ (rw (c.in-Some.is, c.in-Line.is) at c.in_ok-turn.ensures) ∙ c.loop-turn.invariant

pub loop-turn-preserved : goal.loop-turn-preserved
loop-turn-preserved c = next_is _ _ _ _ _ (rw (c.in-Some.is, c.in-Pass.is) at c.in_ok-turn.ensures) ∙ c.loop-turn.invariant

pub returns : goal.returns
returns c = next_is _ _ _ _ _ (rw c.in_default.is at c.in_ok-turn.ensures) ∙ c.loop-turn.invariant
