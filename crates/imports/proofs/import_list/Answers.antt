-- What is found lies in the area, and the part that is lent is the body whose places are listed.
use Rattle.std.proofs.Common.{arith}
use Rattle.std.proofs.lemmas.Result.{err_from_is_err_and}
use Rattle.imports.specs.ListedLaws.{list_none, list_unfound, found_fits, part_fits}
use Rattle.imports.proofs.import_list.Goals as goal

pub returns-in_err-span-clause-result_value : goal.returns-in_err-span-clause-result_value
returns-in_err-span-clause-result_value c =
    let p = err_from_is_err_and c.from_residual.result c.from_residual.ensures.1 in
    rw (p.1, p.2) (list_unfound _ c.args.places.now _ _ c.in_err-span.ensures).0

pub returns-in_err-span-clause-places_after : goal.returns-in_err-span-clause-places_after
returns-in_err-span-clause-places_after c = (list_unfound _ c.args.places.now _ _ c.in_err-span.ensures).1

pub overflow_add-span : goal.overflow_add-span
overflow_add-span c = omega (arith, found_fits _ _ _ _ (rw c.in-Some.is at c.in_ok-span.ensures))

pub slice_bounds-list_in-end : goal.slice_bounds-list_in-end
slice_bounds-list_in-end c = omega (arith, found_fits _ _ _ _ (rw c.in-Some.is at c.in_ok-span.ensures))

pub list_in-requires : goal.list_in-requires
list_in-requires c = part_fits _ _ _ _ (rw c.in-Some.is at c.in_ok-span.ensures)

pub returns-in-None-clause-result_value : goal.returns-in-None-clause-result_value
returns-in-None-clause-result_value c = (list_none _ c.args.places.now _ (rw c.in-None.is at c.in_ok-span.ensures)).0

pub returns-in-None-clause-places_after : goal.returns-in-None-clause-places_after
returns-in-None-clause-places_after c = (list_none _ c.args.places.now _ (rw c.in-None.is at c.in_ok-span.ensures)).1
