-- How far the turns have come (`Turning`); the measure is what is left to do, which each turn lessens.
use Rattle.std.proofs.Common.{◌≡◌, ◌/◌, length}
use Rattle.kinds.specs.Kind.{crate_rule}
use Rattle.line_state_words.specs.LineWords.{record_size}
use Rattle.line_walk.specs.Next.{todo}
use Rattle.many_lines.specs.BodiesLaws.{Turning}
use Rattle.many_lines.proofs.turns.Given as goal

abbrev pub invariant-loop-n : goal.invariant-loop-n
invariant-loop-n l =
    Turning crate_rule l.area l.slots l.fn.from.n l.fn.from.walk l.initial.out l.n l.walk l.exact l.out × (l.room ≡ length l.initial.out / record_size)

abbrev pub decreases-loop-n : goal.decreases-loop-n
decreases-loop-n l = todo crate_rule l.area l.walk
