use Rattle.std.proofs.Common.{rules, arith, ◌≡◌, ◌+◌, ◌<◌, ℕ, length, ap, sym, ◌∙◌}
use Rattle.std.proofs.lemmas.Result.{err_from_is_err_and}
use Rattle.kinds.specs.Kind.{crate_rule}
use Rattle.area.specs.Subs.{step_at, crate_step, first_of}
use Rattle.area.specs.SubsLaws.{whole_as, head_at, subs_is, step_gives, head_falls}
use Rattle.area.specs.Told.{told_head, told_step, told_stepped}
use Rattle.area.proofs.sub_at.Goals as goal

pub returns-in_err-sub : goal.returns-in_err-sub
returns-in_err-sub c =
    let p = err_from_is_err_and c.from_residual.result c.from_residual.ensures.1 in
    rw (p.1, p.2) (ap first_of (subs_is _ _ _ _ c.in_err-sub.ensures ∙ c.loop-sub.invariant))

pub returns-in-Some-Sub : goal.returns-in-Some-Sub
returns-in-Some-Sub c =
    let e = rw (c.in-Some-Sub.is, c.in-Some-Sub.field-0-is) at c.in_ok-sub.ensures in
    step_gives _ _ _ _ _ e ∙ ap first_of c.loop-sub.invariant

pub loop-sub-smaller : goal.loop-sub-smaller
loop-sub-smaller c =
    let e = rw (c.in-Some-Skip.is, c.in-Some-Skip.field-0-is) at c.in_ok-sub.ensures in
    head_falls _ _ _ _ e

pub loop-sub-preserved : goal.loop-sub-preserved
loop-sub-preserved c =
    let e = rw (c.in-Some-Skip.is, c.in-Some-Skip.field-0-is) at c.in_ok-sub.ensures in
    subs_is _ _ _ _ e ∙ c.loop-sub.invariant

pub returns-in-None : goal.returns-in-None
returns-in-None c =
    let e = rw c.in-None.is at c.in_ok-sub.ensures in
    ap first_of (subs_is _ _ _ _ e ∙ c.loop-sub.invariant)
