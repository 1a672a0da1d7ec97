-- The walk came from where it began to a place of a body, or to between two (`Comes`), with room for another record, and what is known is so; the measure
-- is the subsections left, and whether it is inside one.
use Rattle.std.proofs.Common.{◌/◌, ◌<◌, ◌≤◌, length}
use Rattle.refusal.specs.Told.{longest}
use Rattle.kinds.specs.Kind.{crate_rule}
use Rattle.line_state_words.specs.LineWords.{record_size}
use Rattle.many_lines.specs.Bodies.{Knows, walk_at, stands_at}
use Rattle.many_lines.specs.BodiesLaws.{to_go, Comes}
use Rattle.many_lines.proofs.bodies_on.Given as goal

abbrev pub invariant-loop-inside : goal.invariant-loop-inside
invariant-loop-inside l =
    Comes crate_rule l.area l.slots l.fn.from.n (stands_at l.fn.from) l.initial.out l.n (walk_at l.inside l.p l.t) l.out
    × Knows crate_rule l.area l.bodies l.known l.t.scan × (l.n < length l.initial.out / record_size) × (length l.area ≤ longest)

abbrev pub decreases-loop-inside : goal.decreases-loop-inside
decreases-loop-inside l = to_go l.inside l.t.left
