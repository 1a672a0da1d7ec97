-- Each way out, and each way round, is a law of `body_from` at what `sub_at` answers.
use Rattle.std.proofs.Common.{arith, ◌∙◌}
use Rattle.std.proofs.lemmas.Result.{err_from_is_err_and}
use Rattle.area.specs.SubsLaws.{sub_next}
use Rattle.find.specs.FindLaws.{first_end, first_refused}
use Rattle.lines.specs.SlotsLaws.{seek_hit, seek_other, seek_miss}
use Rattle.lines.proofs.seek.Goals as goal

pub returns-in_err-sub : goal.returns-in_err-sub
returns-in_err-sub c =
    let p = err_from_is_err_and c.from_residual.result c.from_residual.ensures.1 in
    rw (p.1, p.2) (first_refused _ _ _ _ _ c.in_err-sub.ensures ∙ c.loop-sub.invariant)

pub returns-then-sub-eq-LINES : goal.returns-then-sub-eq-LINES
returns-then-sub-eq-LINES c =
    seek_hit _ _ _ _ _ _ (rw c.in-Some.is at c.in_ok-sub.ensures) c.if-sub-body.true c.if-sub-eq-LINES.true ∙ c.loop-sub.invariant

pub loop-sub-smaller-else-sub-eq-LINES : goal.loop-sub-smaller-else-sub-eq-LINES
loop-sub-smaller-else-sub-eq-LINES c = omega (arith, sub_next _ _ _ _ _ (rw c.in-Some.is at c.in_ok-sub.ensures))

pub loop-sub-preserved-else-sub-eq-LINES : goal.loop-sub-preserved-else-sub-eq-LINES
loop-sub-preserved-else-sub-eq-LINES c =
    seek_other _ _ _ _ _ _ (rw c.in-Some.is at c.in_ok-sub.ensures) c.if-sub-body.true c.if-sub-eq-LINES.false ∙ c.loop-sub.invariant

pub loop-sub-smaller : goal.loop-sub-smaller
loop-sub-smaller c = omega (arith, sub_next _ _ _ _ _ (rw c.in-Some.is at c.in_ok-sub.ensures))

pub loop-sub-preserved : goal.loop-sub-preserved
loop-sub-preserved c = seek_miss _ _ _ _ _ _ (rw c.in-Some.is at c.in_ok-sub.ensures) c.if-sub-body.false ∙ c.loop-sub.invariant

pub returns : goal.returns
returns c = first_end _ _ _ _ (rw c.in_default.is at c.in_ok-sub.ensures) ∙ c.loop-sub.invariant
