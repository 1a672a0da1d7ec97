-- The lines so far are markers, and those behind them are counted.
use Rattle.std.proofs.Common.{◌≡◌, ◌+◌, ◌-◌, ◌*◌}
use Rattle.body_lines.specs.BodyLines.{count_markers}
use Rattle.body_lines.proofs.count_markers.Given as goal

abbrev pub invariant-loop-i : goal.invariant-loop-i
invariant-loop-i l = l.i + count_markers l.area (l.p.line + 8 * l.i) (l.p.lines - l.i) ≡ count_markers l.area l.p.line l.p.lines
