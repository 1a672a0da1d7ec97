-- Each way round stores what `starts_from` has next, and each way out ends it.
use Rattle.std.proofs.Common.{arith, length, length-set, ap, ◌∙◌}
use Rattle.area.specs.SubsLaws.{sub_next}
use Rattle.body_list.specs.BodyListLaws.{store_all, stored_all, sub_short, starts_line, starts_other, starts_end, starts_refused, store_end, store_line}
use Rattle.body_list.proofs.fill.Goals as goal

pub overflow_cast-bodies : goal.overflow_cast-bodies
overflow_cast-bodies c =
    let e = rw c.in-Ok-Some.field-0-is at c.in-Ok-Some.ensures in
    omega (arith, sub_next _ _ _ _ _ e, sub_short _ _ _ _ _ e)

pub bounds-bodies-n : goal.bounds-bodies-n
bounds-bodies-n c =
    let e = rw c.in-Ok-Some.field-0-is at c.in-Ok-Some.ensures in
    omega (arith, ap length (starts_line _ _ _ _ _ e c.if-sub-eq-LINES.true))

pub loop-sub-smaller-then-sub-eq-LINES : goal.loop-sub-smaller-then-sub-eq-LINES
loop-sub-smaller-then-sub-eq-LINES c = omega (arith, sub_next _ _ _ _ _ (rw c.in-Ok-Some.field-0-is at c.in-Ok-Some.ensures))

pub loop-sub-preserved-then-sub-eq-LINES : goal.loop-sub-preserved-then-sub-eq-LINES
loop-sub-preserved-then-sub-eq-LINES c =
    let e = rw c.in-Ok-Some.field-0-is at c.in-Ok-Some.ensures in
    let l = c.loop-sub.invariant in
    let s = starts_line _ _ _ _ _ e c.if-sub-eq-LINES.true in
    (store_line _ _ _ _ _ _ _ s ∙ l.0, simp length-set (omega (arith, ap length s)), simp length-set l.2)

pub loop-sub-smaller : goal.loop-sub-smaller
loop-sub-smaller c = omega (arith, sub_next _ _ _ _ _ (rw c.in-Ok-Some.field-0-is at c.in-Ok-Some.ensures))

pub loop-sub-preserved : goal.loop-sub-preserved
loop-sub-preserved c =
    let e = rw c.in-Ok-Some.field-0-is at c.in-Ok-Some.ensures in
    let l = c.loop-sub in
    let s = starts_other _ _ _ _ _ e c.if-sub-eq-LINES.false in
    (ap (λ k. store_all k l.n l.bodies) s ∙ l.invariant.0, omega (arith, ap length s), l.invariant.2)

pub returns-in-Ok-None : goal.returns-in-Ok-None
returns-in-Ok-None c =
    let e = starts_end _ _ _ (rw c.in-Ok-None.field-0-is at c.in-Ok-None.ensures) in
    store_end _ _ _ _ _ e ∙ c.loop-sub.invariant.0 ∙ stored_all _ _ (omega arith)

pub returns-in-Err : goal.returns-in-Err
returns-in-Err c =
    let e = starts_refused _ _ _ _ c.in-Err.ensures in
    store_end _ _ _ _ _ e ∙ c.loop-sub.invariant.0 ∙ stored_all _ _ (omega arith)
