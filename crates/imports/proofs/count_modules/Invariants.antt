-- The number of modules from the place on, with those before it, is that of the whole body. The measure is what is left of it.
use Rattle.std.proofs.Common.{◌≡◌, ◌-◌, ◌≤◌, length}
use Rattle.body.specs.Imports.{modules}
use Rattle.table.specs.Collect.{listing_count}
use Rattle.imports.specs.ListedLaws.{CountFrom}
use Rattle.imports.proofs.count_modules.Given as goal

abbrev pub invariant-loop-next : goal.invariant-loop-next
invariant-loop-next l = (CountFrom l.body l.n l.at ≡ listing_count (modules l.body)) × (l.n ≤ l.at) × (l.at ≤ length l.body)

abbrev pub decreases-loop-next : goal.decreases-loop-next
decreases-loop-next l = length l.body - l.at
