-- A step over a table, each of whose entries places its extra files in the body.
use Rattle.std.proofs.Common.{arith}
use Rattle.std.proofs.lemmas.Result.{err_from_is_err_and}
use Rattle.kinds.specs.Kind.{crate_rule}
use Rattle.inlinees.specs.SourceLineLaws.{line_lies}
use Rattle.inlinees.specs.InlineesLaws.{inlinee_steps}
use Rattle.inlinees.proofs.next_inlinee.Goals as goal

pub returns-in_err-spot : goal.returns-in_err-spot
returns-in_err-spot c =
    let p = err_from_is_err_and c.from_residual.result c.from_residual.ensures.1 in
    rw (p.1, p.2) ((inlinee_steps _ _ _).other c.in_err-spot.ensures)

pub returns-in_default : goal.returns-in_default
returns-in_default c = (inlinee_steps _ _ _).other (rw c.in_default.is at c.in_ok-spot.ensures)

pub overflow_add-body : goal.overflow_add-body
overflow_add-body c =
    let a = c.args in
    omega (arith, (inlinee_steps crate_rule a.area.now a.walk).lies (rw c.in-Some.is at c.in_ok-spot.ensures))

pub slice_bounds-body-end : goal.slice_bounds-body-end
slice_bounds-body-end c =
    let a = c.args in
    omega (arith, (inlinee_steps crate_rule a.area.now a.walk).lies (rw c.in-Some.is at c.in_ok-spot.ensures))

pub returns-in_err-line : goal.returns-in_err-line
returns-in_err-line c =
    let p = err_from_is_err_and c.from_residual-in_err-line.result c.from_residual-in_err-line.ensures.1 in
    rw (p.1, p.2) ((inlinee_steps _ _ _).read (rw c.in-Some.is at c.in_ok-spot.ensures) c.in_err-line.ensures)

pub returns-in_default-2 : goal.returns-in_default-2
returns-in_default-2 c =
    (inlinee_steps _ _ _).read (rw c.in-Some.is at c.in_ok-spot.ensures) (rw c.in_default-2.is at c.in_ok-line.ensures)

pub overflow_add-inlinee : goal.overflow_add-inlinee
overflow_add-inlinee c =
    let a = c.args in
    omega (
      arith,
      (inlinee_steps crate_rule a.area.now a.walk).lies (rw c.in-Some.is at c.in_ok-spot.ensures),
      line_lies _ _ _ _ (rw c.in-Some-2.is at c.in_ok-line.ensures),
    )

pub returns : goal.returns
returns c =
    (inlinee_steps _ _ _).read (rw c.in-Some.is at c.in_ok-spot.ensures) (rw c.in-Some-2.is at c.in_ok-line.ensures)
