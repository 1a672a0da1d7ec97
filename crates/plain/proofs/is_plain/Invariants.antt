-- What is plain from `at` on is what is plain of the whole area, the subsection before it being the last so far; the measure is what is left of the area.
use Rattle.std.proofs.Common.{length, ◌-◌, ◌≤◌}
use Rattle.plain.specs.Told.{told_last}
use Rattle.plain.specs.PlainLaws.{Scanned}
use Rattle.plain.proofs.is_plain.Given as goal

abbrev pub invariant-loop-at : goal.invariant-loop-at
invariant-loop-at l = (l.at ≤ length l.area) × Scanned l.area l.at (told_last l.last)

abbrev pub decreases-loop-at : goal.decreases-loop-at
decreases-loop-at l = length l.area - l.at
