-- What is found lies in the area, and the part that is lent is the body whose pairs are counted.
use Rattle.std.proofs.Common.{arith, ◌∙◌, List, length}
use Rattle.std.proofs.Math.Nat.{add-sub_cancel_left}
use Rattle.std.proofs.lemmas.Result.{err_from_is_err_and}
use Rattle.walk.specs.Listing.{gave}
use Rattle.find.specs.FindLaws.{first_in_lem}
use Rattle.table.specs.CollectLaws.{of_found, of_none, of_refused}
use Rattle.body.specs.Exports.{Pair, pairs}
use Rattle.exports.proofs.export_count.Goals as goal

pub returns-in_err-span : goal.returns-in_err-span
returns-in_err-span c =
    let p = err_from_is_err_and c.from_residual.result c.from_residual.ensures.1 in
    rw (p.1, p.2) (of_refused pairs (λ (bs : List Pair). gave (length bs)) c.args.area.now _ _ c.in_err-span.ensures)

pub overflow_add-span : goal.overflow_add-span
overflow_add-span c = omega (arith, first_in_lem _ _ _ _ (rw c.in-Some.is at c.in_ok-span.ensures))

pub slice_bounds-count_in-end : goal.slice_bounds-count_in-end
slice_bounds-count_in-end c = omega (arith, first_in_lem _ _ _ _ (rw c.in-Some.is at c.in_ok-span.ensures))

pub returns-in-Some : goal.returns-in-Some
returns-in-Some c =
    c.count_in.ensures
    ∙ of_found pairs (λ (bs : List Pair). gave (length bs)) c.args.area.now _ _ _ (rw c.in-Some.is at c.in_ok-span.ensures) (add-sub_cancel_left _ _)

pub returns-in-None : goal.returns-in-None
returns-in-None c = of_none pairs (λ (bs : List Pair). gave (length bs)) c.args.area.now _ (rw c.in-None.is at c.in_ok-span.ensures)
