-- Each way out, and each way round, is a law of the line subsections at what `sub_at` answers.
use Rattle.std.proofs.Common.{arith, ap, ◌∙◌}
use Rattle.area.specs.SubsLaws.{sub_next}
use Rattle.lines.specs.Lines.{plus, count_of}
use Rattle.lines.specs.LinesLaws.{line_other, line_short, line_more, line_end, line_refused, count_more, count_end, count_refused}
use Rattle.lines.proofs.count_lines.Goals as goal

pub returns-then-sub-lt-LINE_HEAD : goal.returns-then-sub-lt-LINE_HEAD
returns-then-sub-lt-LINE_HEAD c =
    let e = rw c.in-Ok-Some.field-0-is at c.in-Ok-Some.ensures in
    count_refused _ _ _ (line_short _ _ _ _ _ e c.if-sub-eq-LINES.true (omega arith)) ∙ c.loop-sub.invariant.0

pub overflow_add-n : goal.overflow_add-n
overflow_add-n c = omega (arith, sub_next _ _ _ _ _ (rw c.in-Ok-Some.field-0-is at c.in-Ok-Some.ensures))

pub loop-sub-smaller-else-sub-lt-LINE_HEAD : goal.loop-sub-smaller-else-sub-lt-LINE_HEAD
loop-sub-smaller-else-sub-lt-LINE_HEAD c = omega (arith, sub_next _ _ _ _ _ (rw c.in-Ok-Some.field-0-is at c.in-Ok-Some.ensures))

pub loop-sub-preserved-else-sub-lt-LINE_HEAD : goal.loop-sub-preserved-else-sub-lt-LINE_HEAD
loop-sub-preserved-else-sub-lt-LINE_HEAD c =
    let e = rw c.in-Ok-Some.field-0-is at c.in-Ok-Some.ensures in
    (count_more _ _ _ _ (line_more _ _ _ _ _ e c.if-sub-eq-LINES.true (omega arith)) ∙ c.loop-sub.invariant.0, omega (arith, sub_next _ _ _ _ _ e))

pub loop-sub-smaller : goal.loop-sub-smaller
loop-sub-smaller c = omega (arith, sub_next _ _ _ _ _ (rw c.in-Ok-Some.field-0-is at c.in-Ok-Some.ensures))

pub loop-sub-preserved : goal.loop-sub-preserved
loop-sub-preserved c =
    let l = c.loop-sub in
    let e = rw c.in-Ok-Some.field-0-is at c.in-Ok-Some.ensures in
    (ap (λ k. plus l.n (count_of k)) (line_other _ _ _ _ _ e c.if-sub-eq-LINES.false) ∙ l.invariant.0, omega (arith, sub_next _ _ _ _ _ e))

pub returns-in-Ok-None : goal.returns-in-Ok-None
returns-in-Ok-None c = count_end _ _ (line_end _ _ _ (rw c.in-Ok-None.field-0-is at c.in-Ok-None.ensures)) ∙ c.loop-sub.invariant.0

pub returns-in-Err : goal.returns-in-Err
returns-in-Err c = count_refused _ _ _ (line_refused _ _ _ _ c.in-Err.ensures) ∙ c.loop-sub.invariant.0
