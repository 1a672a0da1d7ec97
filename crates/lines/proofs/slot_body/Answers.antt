-- Each way out is a case of `slot_at`.
use Rattle.std.proofs.Common.{arith}
use Rattle.std.proofs.lemmas.Result.{err_from_is_err_and}
use Rattle.lines.specs.SlotsLaws.{slot_missing, slot_is}
use Rattle.lines.proofs.slot_body.Goals as goal

pub returns-then-slots-slot : goal.returns-then-slots-slot
returns-then-slots-slot c = slot_missing _ _ _ _ _ (omega arith)

pub returns-in_err-span : goal.returns-in_err-span
returns-in_err-span c =
    let p = err_from_is_err_and c.from_residual.result c.from_residual.ensures.1 in
    rw (p.1, p.2) (slot_is _ _ _ _ _ (omega arith) _ _ c.scan_from.ensures c.in_err-span.ensures)

pub returns-in-Some : goal.returns-in-Some
returns-in-Some c = slot_is _ _ _ _ _ (omega arith) _ _ c.scan_from.ensures (rw c.in-Some.is at c.in_ok-span.ensures)

pub returns-in-None : goal.returns-in-None
returns-in-None c = slot_is _ _ _ _ _ (omega arith) _ _ c.scan_from.ensures (rw c.in-None.is at c.in_ok-span.ensures)
