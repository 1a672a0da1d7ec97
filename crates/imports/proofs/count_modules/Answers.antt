use Rattle.std.proofs.Common.{arith, ◌∙◌}
use Rattle.std.proofs.lemmas.Result.{err_from_is_err_and}
use Rattle.imports.specs.ImportsLaws.{module_next}
use Rattle.imports.specs.ListedLaws.{count_next, count_end, count_refused}
use Rattle.imports.proofs.count_modules.Goals as goal

pub returns-in_err-next : goal.returns-in_err-next
returns-in_err-next c =
    let p = err_from_is_err_and c.from_residual.result c.from_residual.ensures.1 in
    rw (p.1, p.2) (count_refused _ _ _ c.loop-next.invariant.2 _ c.in_err-next.ensures ∙ c.loop-next.invariant.0)

pub loop-next-smaller : goal.loop-next-smaller
loop-next-smaller c = omega (arith, module_next _ _ _ _ (rw c.in-Some.is at c.in_ok-next.ensures))

pub loop-next-preserved : goal.loop-next-preserved
loop-next-preserved c =
    let e = rw c.in-Some.is at c.in_ok-next.ensures in
    let x = module_next _ _ _ _ e in
    (count_next _ _ _ _ _ e ∙ c.loop-next.invariant.0, omega (arith, x), omega (arith, x))

pub returns : goal.returns
returns c = count_end _ _ _ c.loop-next.invariant.2 (rw c.in_default.is at c.in_ok-next.ensures) ∙ c.loop-next.invariant.0
