-- Each way out, and each way round, is a law of `Best` at what `sub_at` answers.
use Rattle.std.proofs.Common.{arith, ap, ◌∙◌}
use Rattle.std.proofs.lemmas.Result.{err_from_is_err_and}
use Rattle.walk.specs.Listing.{gave}
use Rattle.kinds.specs.Kind.{crate_rule}
use Rattle.area.specs.SubsLaws.{sub_next}
use Rattle.find.specs.FindLaws.{Best, last_first, last_hit, last_miss, last_end, last_refused}
use Rattle.find.proofs.last_of.Goals as goal

pub loop-sub-init : goal.loop-sub-init
loop-sub-init c = last_first _ _ _ _

pub returns-in_err-sub : goal.returns-in_err-sub
returns-in_err-sub c =
    let p = err_from_is_err_and c.from_residual.result c.from_residual.ensures.1 in
    rw (p.1, p.2) (last_refused _ _ _ _ _ _ c.in_err-sub.ensures ∙ c.loop-sub.invariant)

pub loop-sub-smaller-then-sub-wanted : goal.loop-sub-smaller-then-sub-wanted
loop-sub-smaller-then-sub-wanted c =
    omega (arith, sub_next _ _ _ _ _ (rw c.in-Some.is at c.in_ok-sub.ensures))

pub loop-sub-preserved-then-sub-wanted : goal.loop-sub-preserved-then-sub-wanted
loop-sub-preserved-then-sub-wanted c =
    ap (λ a. Best crate_rule c.args.area.now c.args.wanted c.in-Some.next (gave a)) c.span_of.ensures
    ∙ last_hit _ _ _ _ _ _ _ (rw c.in-Some.is at c.in_ok-sub.ensures) c.if-sub-wanted.true ∙ c.loop-sub.invariant

pub loop-sub-smaller : goal.loop-sub-smaller
loop-sub-smaller c =
    omega (arith, sub_next _ _ _ _ _ (rw c.in-Some.is at c.in_ok-sub.ensures))

pub loop-sub-preserved : goal.loop-sub-preserved
loop-sub-preserved c =
    last_miss _ _ _ _ _ _ _ (rw c.in-Some.is at c.in_ok-sub.ensures) c.if-sub-wanted.false ∙ c.loop-sub.invariant

pub returns : goal.returns
returns c = last_end _ _ _ _ _ (rw c.in_default.is at c.in_ok-sub.ensures) ∙ c.loop-sub.invariant
