-- The invariant: the block keeps its length and its used part lies in it, what was counted and what is left are the text's lines, and the last of these is
-- the text's last. The measure is what is left to do.
use Rattle.std.proofs.Common.{◌≡◌, ◌+◌, ◌≤◌, length}
use Rattle.kinds.specs.Kind.{crate_rule}
use Rattle.listing.specs.Dump.{sheet_size}
use Rattle.listing.specs.DumpLaws.{lines_from}
use Rattle.listing.specs.LessLaws.{text_left}
use Rattle.listing.specs.declared.TextWalk.TheVariants.{Head}
use Rattle.dump.specs.LineLaws.{last_size}
use Rattle.dump.proofs.print_lines.Given as goal

abbrev pub invariant-loop-len : goal.invariant-loop-len
invariant-loop-len g l =
    (length l.block ≡ length l.initial.block) × (l.used ≤ length l.block)
    × (l.lines + sheet_size (lines_from crate_rule l.area l.slots l.walk) ≡ sheet_size (lines_from crate_rule l.area l.slots Head))
    × (last_size l.last (lines_from crate_rule l.area l.slots l.walk) ≡ last_size 0 (lines_from crate_rule l.area l.slots Head))

abbrev pub decreases-loop-len : goal.decreases-loop-len
decreases-loop-len g l = text_left crate_rule l.area l.walk
