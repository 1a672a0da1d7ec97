-- A zero before the names' end is a name, no other one is.
use Rattle.std.proofs.Common.{arith}
use Rattle.std.proofs.Math.Nat.{add-sub_cancel_left}
use Rattle.strings.specs.StringsLaws.{names_part, name_found, name_cut}
use Rattle.strings.proofs.name_at.Goals as goal

pub overflow_add-table : goal.overflow_add-table
overflow_add-table c = omega (arith, names_part _ _ _ c.in_ok-table.ensures)

pub slice_bounds-zero_from-end : goal.slice_bounds-zero_from-end
slice_bounds-zero_from-end c = omega (arith, names_part _ _ _ c.in_ok-table.ensures)

pub returns-then-end-table : goal.returns-then-end-table
returns-then-end-table c = name_found _ _ _ _ _ _ c.in_ok-table.ensures (add-sub_cancel_left _ _) c.zero_from-end.ensures c.if-end-table.true

pub returns-else-end-table : goal.returns-else-end-table
returns-else-end-table c = name_cut _ _ _ _ _ _ c.in_ok-table.ensures (add-sub_cancel_left _ _) c.zero_from-end.ensures c.if-end-table.false
