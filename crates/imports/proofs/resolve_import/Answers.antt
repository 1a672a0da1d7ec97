-- What is found lies in the area, and the part that is lent is the body that is looked into.
use Rattle.std.proofs.Common.{arith, ◌∙◌}
use Rattle.std.proofs.Math.Nat.{add-sub_cancel_left}
use Rattle.std.proofs.lemmas.Result.{err_from_is_err_and}
use Rattle.find.specs.FindLaws.{first_in_lem}
use Rattle.table.specs.CollectLaws.{of_found, of_none, of_refused}
use Rattle.body.specs.Imports.{modules}
use Rattle.imports.specs.Imports.{ref_of}
use Rattle.imports.specs.ImportsLaws.{ref_empty}
use Rattle.imports.proofs.resolve_import.Goals as goal

pub returns-in_err-span : goal.returns-in_err-span
returns-in_err-span c =
    let p = err_from_is_err_and c.from_residual.result c.from_residual.ensures.1 in
    rw (p.1, p.2) (of_refused modules (ref_of c.args.index) c.args.area.now _ _ c.in_err-span.ensures)

pub overflow_add-span : goal.overflow_add-span
overflow_add-span c = omega (arith, first_in_lem _ _ _ _ (rw c.in-Some.is at c.in_ok-span.ensures))

pub slice_bounds-resolve_in-end : goal.slice_bounds-resolve_in-end
slice_bounds-resolve_in-end c = omega (arith, first_in_lem _ _ _ _ (rw c.in-Some.is at c.in_ok-span.ensures))

pub returns-in-Some : goal.returns-in-Some
returns-in-Some c =
    c.resolve_in.ensures
    ∙ of_found modules (ref_of c.args.index) c.args.area.now _ _ _ (rw c.in-Some.is at c.in_ok-span.ensures) (add-sub_cancel_left _ _)

pub returns-in-None : goal.returns-in-None
returns-in-None c =
    c.checked.ensures ∙ ref_empty _ ∙ of_none modules (ref_of c.args.index) c.args.area.now _ (rw c.in-None.is at c.in_ok-span.ensures)
