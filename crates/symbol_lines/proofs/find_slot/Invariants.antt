-- The slots from the i-th on, and else the best so far, decide as all slots do; a search for a body may begin at `scan`, and what is known is true.
use Rattle.std.proofs.Common.{◌≡◌}
use Rattle.kinds.specs.Kind.{crate_rule}
use Rattle.lines.specs.Slots.{body_at, named, Scans}
use Rattle.body_list.specs.Search.{Right}
use Rattle.symbol_lines.specs.Symbol.{slot_in}
use Rattle.symbol_lines.specs.Told.{told_best}
use Rattle.symbol_lines.specs.SymbolLaws.{slot_from, best_of}
use Rattle.symbol_lines.proofs.find_slot.Given as goal

abbrev pub invariant-loop-i : goal.invariant-loop-i
invariant-loop-i l =
    (best_of l.section l.offset (slot_from crate_rule l.area l.slots l.n l.i) (told_best l.best) ≡ slot_in l.section l.offset (named (body_at crate_rule l.area) l.n l.slots))
    × Scans crate_rule l.area l.scan × Right crate_rule l.area l.bodies l.known l.scan
