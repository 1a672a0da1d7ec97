-- Each way round is a look at one more slot, and each way out ends the list or what is left of the area.
use Rattle.std.proofs.Common.{arith, ap, sym, ◌∙◌}
use Rattle.area.specs.SubsLaws.{sub_next}
use Rattle.body_list.specs.BodyListLaws.{starts_line, starts_other, starts_end, starts_refused}
use Rattle.body_list.specs.Search.{same_list}
use Rattle.body_list.specs.StepLaws.{holds_within, same_on, same_miss, same_end}
use Rattle.body_list.proofs.is_areas.Goals as goal

pub returns-then-not-holds : goal.returns-then-not-holds
returns-then-not-holds c =
    let e = rw c.in-Ok-Some.field-0-is at c.in-Ok-Some.ensures in
    let h = sym c.holds.ensures ∙ c.if-not-holds.true in
    same_miss _ _ _ _ _ (starts_line _ _ _ _ _ e c.if-sub-eq-LINES.true) h ∙ c.loop-sub.invariant.0

pub loop-sub-smaller-else-not-holds : goal.loop-sub-smaller-else-not-holds
loop-sub-smaller-else-not-holds c = omega (arith, sub_next _ _ _ _ _ (rw c.in-Ok-Some.field-0-is at c.in-Ok-Some.ensures))

pub loop-sub-preserved-else-not-holds : goal.loop-sub-preserved-else-not-holds
loop-sub-preserved-else-not-holds c =
    let e = rw c.in-Ok-Some.field-0-is at c.in-Ok-Some.ensures in
    let h = sym c.holds.ensures ∙ c.if-not-holds.false in
    let g = same_on _ _ _ _ _ (starts_line _ _ _ _ _ e c.if-sub-eq-LINES.true) h in
    (g ∙ c.loop-sub.invariant.0, omega (arith, holds_within _ _ _ h))

pub loop-sub-smaller : goal.loop-sub-smaller
loop-sub-smaller c = omega (arith, sub_next _ _ _ _ _ (rw c.in-Ok-Some.field-0-is at c.in-Ok-Some.ensures))

pub loop-sub-preserved : goal.loop-sub-preserved
loop-sub-preserved c =
    let l = c.loop-sub in
    let e = rw c.in-Ok-Some.field-0-is at c.in-Ok-Some.ensures in
    (ap (same_list _) (starts_other _ _ _ _ _ e c.if-sub-eq-LINES.false) ∙ l.invariant.0, l.invariant.1)

pub returns-in-Ok-None : goal.returns-in-Ok-None
returns-in-Ok-None c =
    let l = c.loop-sub in
    same_end 0 _ _ _ (starts_end _ _ _ (rw c.in-Ok-None.field-0-is at c.in-Ok-None.ensures)) l.invariant.1 ∙ l.invariant.0

pub returns-in-Err : goal.returns-in-Err
returns-in-Err c =
    let l = c.loop-sub in
    same_end 0 _ _ _ (starts_refused _ _ _ _ c.in-Err.ensures) l.invariant.1 ∙ l.invariant.0
