-- n and the line subsections from p on are those of the area, and n is at most p; the measure is what is left of the area.
use Rattle.std.proofs.Common.{◌≡◌, ◌-◌, ◌≤◌, length}
use Rattle.kinds.specs.Kind.{crate_rule}
use Rattle.lines.specs.Lines.{plus, count_of, count_lines, lines_from}
use Rattle.lines.proofs.count_lines.Given as goal

abbrev pub invariant-loop-sub : goal.invariant-loop-sub
invariant-loop-sub l = (plus l.n (count_of (lines_from crate_rule l.area l.p)) ≡ count_lines crate_rule l.area) × (l.n ≤ l.p)

abbrev pub decreases-loop-sub : goal.decreases-loop-sub
decreases-loop-sub l = length l.area - l.p
