use Rattle.std.proofs.Common.{arith, refl, ap, ◌∙◌}
use Rattle.std.proofs.lemmas.Result.{err_from_is_err_and}
use Rattle.imports.specs.Told.{told_resolved}
use Rattle.imports.specs.ImportsLaws.{module_next, sought_first, sought_hit, sought_miss, sought_end, sought_refused}
use Rattle.imports.proofs.resolve_in.Goals as goal
use Rattle.imports.proofs.resolve_in.Goals.{then-n-scope, else-n-scope}

pub loop-module-init : goal.loop-module-init
loop-module-init c = (sought_first _ _, omega arith, omega arith)

pub returns-in_err-module : goal.returns-in_err-module
returns-in_err-module c =
    let p = err_from_is_err_and c.from_residual.result c.from_residual.ensures.1 in
    rw (p.1, p.2) (sought_refused _ _ _ _ _ c.loop-module.invariant.2 _ c.in_err-module.ensures ∙ c.loop-module.invariant.0)

pub word_of-best-requires : goal.word_of-best-requires
word_of-best-requires c = omega (arith, module_next _ _ _ _ (rw c.in-Some.is at c.in_ok-module.ensures))

pub loop-module-smaller : goal.loop-module-smaller
loop-module-smaller c = omega (arith, module_next _ _ _ _ (rw c.in-Some.is at c.in_ok-module.ensures))

pub loop-module-preserved : goal.loop-module-preserved
loop-module-preserved c =
    let q = rw c.in-Some.is at c.in_ok-module.ensures in
    let i = c.loop-module.invariant.0 in
    let x = module_next _ _ _ _ q in
    elim c.if-n-scope.branch [
      | then-n-scope w ↦ (sought_hit _ _ _ _ _ _ _ q _ refl w.if-n-scope.true _ (ap told_resolved w.best-is ∙ w.word_of-best.ensures) ∙ i, omega (arith, x), omega (arith, x))
      | else-n-scope w ↦ (sought_miss _ _ _ _ _ _ _ q _ refl w.if-n-scope.false _ (ap told_resolved w.best-is) ∙ i, omega (arith, x), omega (arith, x))
    ]

pub returns : goal.returns
returns c =
    c.checked.ensures ∙ sought_end _ _ _ _ _ c.loop-module.invariant.2 (rw c.in_default.is at c.in_ok-module.ensures) ∙ c.loop-module.invariant.0
