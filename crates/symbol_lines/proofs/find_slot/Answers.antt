-- What the slot names is what `found_body` finds, and so what the search without the list does; each way on and out is a law of `best_of` at that.
use Rattle.std.proofs.Common.{arith, ap, sym, ◌∙◌}
use Rattle.std.proofs.lemmas.Result.{err_from_is_err_and}
use native.Mathlib.Nat.{add-sub_cancel_left}
use Rattle.lines.specs.SlotsLaws.{slot_inside, slot_scans}
use Rattle.lines.specs.Told.{told_named}
use Rattle.body_list.specs.SearchLaws.{located_right, located_known}
use Rattle.symbol_lines.specs.SymbolLaws.{best_of, turn_hit, turn_on, turn_refused, turn_end}
use Rattle.symbol_lines.proofs.find_slot.Goals as goal

pub returns-in_err-span : goal.returns-in_err-span
returns-in_err-span c =
    let l = c.loop-i in
    let x = located_right _ _ _ _ _ _ _ l.invariant.2 c.find_body-found.result c.find_body-found.ensures in
    let p = err_from_is_err_and c.from_residual.result c.from_residual.ensures.1 in
    rw (p.1, p.2) (turn_refused _ _ _ _ _ _ _ _ l.invariant.1 (omega arith) _ _ (rw c.in_err-span.was at x) ∙ l.invariant.0)

pub overflow_add-end : goal.overflow_add-end
overflow_add-end c =
    let x = located_right _ _ _ _ _ _ _ c.loop-i.invariant.2 c.find_body-found.result c.find_body-found.ensures in
    omega (arith, slot_inside _ _ _ _ _ _ (rw c.in_ok-span.was at x))

pub slice_bounds-header_of-end : goal.slice_bounds-header_of-end
slice_bounds-header_of-end c =
    let x = located_right _ _ _ _ _ _ _ c.loop-i.invariant.2 c.find_body-found.result c.find_body-found.ensures in
    omega (arith, slot_inside _ _ _ _ _ _ (rw c.in_ok-span.was at x))

pub returns-then-is_at : goal.returns-then-is_at
returns-then-is_at c =
    let l = c.loop-i in
    let x = located_right _ _ _ _ _ _ _ l.invariant.2 c.find_body-found.result c.find_body-found.ensures in
    let e = rw c.in_ok-span.was at x in
    turn_hit _ _ _ _ _ _ _ _ l.invariant.1 (omega arith) _ _ _ _ e (add-sub_cancel_left _ _) c.header_of-head.ensures
    (sym c.is_at.ensures ∙ c.if-is_at.true) ∙ l.invariant.0

pub loop-i-preserved : goal.loop-i-preserved
loop-i-preserved c =
    let l = c.loop-i in
    let x = located_right _ _ _ _ _ _ _ l.invariant.2 c.find_body-found.result c.find_body-found.ensures in
    let e = rw c.in_ok-span.was at x in (
      ap (best_of _ _ _) c.better_slot-best.ensures
          ∙ turn_on _ _ _ _ _ _ _ _ l.invariant.1 (omega arith) _ _ _ _ e (add-sub_cancel_left _ _) c.header_of-head.ensures
          (sym c.is_at.ensures ∙ c.if-is_at.false) ∙ l.invariant.0,
      slot_scans _ _ _ _ _ l.invariant.1 _ e,
      located_known _ _ _ _ _ _ _ l.invariant.2 c.find_body-found.result c.find_body-found.ensures _ (ap told_named (sym c.in_ok-span.was)),
    )

pub returns : goal.returns
returns c = turn_end _ _ _ _ _ _ _ (omega arith) _ ∙ c.loop-i.invariant.0
