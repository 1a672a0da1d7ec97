-- The last from p on, or else the best so far, is the last of the area; the measure is what is left of the area.
use Rattle.std.proofs.Common.{◌≡◌, ◌-◌, length, Ok}
use Rattle.kinds.specs.Kind.{crate_rule}
use Rattle.find.specs.Find.{last_sub}
use Rattle.find.specs.FindLaws.{Best}
use Rattle.find.specs.Told.{told_found}
use Rattle.find.proofs.last_of.Given as goal

abbrev pub invariant-loop-sub : goal.invariant-loop-sub
invariant-loop-sub l = Best crate_rule l.area l.wanted l.p (told_found (Ok l.best)) ≡ last_sub crate_rule l.wanted l.area

abbrev pub decreases-loop-sub : goal.decreases-loop-sub
decreases-loop-sub l = length l.area - l.p
