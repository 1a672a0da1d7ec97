-- Each way out, and each way round, is a law of `first_by` at what `sub_at` answers.
use Rattle.std.proofs.Common.{arith, ap, ◌∙◌, eq-eqb, ne_eqb, refl}
use Rattle.std.proofs.lemmas.Result.{err_from_is_err_and}
use Rattle.walk.specs.Listing.{gave}
use Rattle.area.specs.SubsLaws.{sub_next}
use Rattle.find.specs.FindLaws.{first_hit, first_miss, first_end, first_refused}
use Rattle.find.proofs.first_of.Goals as goal

pub returns-in_err-sub : goal.returns-in_err-sub
returns-in_err-sub c =
    let p = err_from_is_err_and c.from_residual.result c.from_residual.ensures.1 in
    rw (p.1, p.2) (first_refused _ _ _ _ _ c.in_err-sub.ensures ∙ c.loop-sub.invariant)

pub returns-then-sub-wanted : goal.returns-then-sub-wanted
returns-then-sub-wanted c =
    ap gave c.span_of.ensures
    ∙ first_hit _ _ _ _ _ _ (rw c.in-Some.is at c.in_ok-sub.ensures) (eq-eqb _ _ c.if-sub-wanted.true) ∙ c.loop-sub.invariant

pub loop-sub-smaller : goal.loop-sub-smaller
loop-sub-smaller c =
    omega (arith, sub_next _ _ _ _ _ (rw c.in-Some.is at c.in_ok-sub.ensures))

pub loop-sub-preserved : goal.loop-sub-preserved
loop-sub-preserved c =
    first_miss _ _ _ _ _ _ (rw c.in-Some.is at c.in_ok-sub.ensures) (ne_eqb _ _ c.if-sub-wanted.false) ∙ c.loop-sub.invariant

pub returns : goal.returns
returns c = first_end _ _ _ _ (rw c.in_default.is at c.in_ok-sub.ensures) ∙ c.loop-sub.invariant
