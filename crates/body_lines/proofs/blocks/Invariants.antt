-- The walk stands in the same body, with room for another record (`BlocksPut`); the measure is the bytes behind the next block, and the lines left.
use Rattle.std.proofs.Common.{◌+◌, ◌-◌, ◌*◌}
use Rattle.kinds.specs.Kind.{crate_rule}
use Rattle.body_lines.specs.BodyLinesLaws.{BlocksPut}
use Rattle.body_lines.proofs.blocks.Given as goal

abbrev pub invariant-loop-held : goal.invariant-loop-held
invariant-loop-held l =
    let x = l.fn.first in
    BlocksPut crate_rule l.area l.room x.place x.held x.n l.initial.out l.x l.out

abbrev pub decreases-loop-held : goal.decreases-loop-held
decreases-loop-held l = l.x.place.end - l.x.place.next + 2 * l.x.place.lines
