-- What is still to be stored leads to the slots that are wanted, and fits in. The measure is what is left of the body.
use Rattle.std.proofs.Common.{◌≡◌, ◌+◌, ◌-◌, ◌≤◌, length}
use Rattle.imports.specs.ListedLaws.{places_from, store_all}
use Rattle.imports.proofs.put_places.Given as goal

abbrev pub invariant-loop-next : goal.invariant-loop-next
invariant-loop-next l =
    (store_all (places_from l.start l.body l.at) l.n l.places ≡ store_all (places_from l.start l.body 0) 0 l.initial.places)
    × (l.n + length (places_from l.start l.body l.at) ≤ length l.places) × (length l.places ≡ length l.initial.places) × (l.at ≤ length l.body)

abbrev pub decreases-loop-next : goal.decreases-loop-next
decreases-loop-next l = length l.body - l.at
