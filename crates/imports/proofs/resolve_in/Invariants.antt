-- The answer from the place on, with what was found before it, is the answer of the whole body. The measure is what is left of it.
use Rattle.std.proofs.Common.{◌≡◌, ◌-◌, ◌≤◌, length}
use Rattle.walk.specs.Pick.{on_gave}
use Rattle.body.specs.Imports.{modules}
use Rattle.table.specs.Collect.{collected}
use Rattle.imports.specs.Imports.{ref_of}
use Rattle.imports.specs.Told.{told_resolved}
use Rattle.imports.specs.ImportsLaws.{Sought}
use Rattle.imports.proofs.resolve_in.Given as goal

abbrev pub invariant-loop-module : goal.invariant-loop-module
invariant-loop-module l =
    (Sought l.body l.index l.n (told_resolved l.best) l.at ≡ on_gave (ref_of l.index) (collected (modules l.body))) × (l.n ≤ l.at) × (l.at ≤ length l.body)

abbrev pub decreases-loop-module : goal.decreases-loop-module
decreases-loop-module l = length l.body - l.at
