-- Where the walk stands is read off what `sub_at` answered.
use Rattle.std.proofs.Common.{ap}
use Rattle.area.specs.Subs.{crate_step, place_behind}
use Rattle.area.specs.SubsLaws.{stepped}
use Rattle.area.proofs.SubWalk.step.Goals as goal

pub returns-in-Ok-Some : goal.returns-in-Ok-Some
returns-in-Ok-Some c = stepped _ _ _ (rw c.in-Ok-Some.field-0-is at c.in-Ok-Some.ensures)

pub returns-in-Ok-None : goal.returns-in-Ok-None
returns-in-Ok-None c = stepped _ _ _ (rw c.in-Ok-None.field-0-is at c.in-Ok-None.ensures)

pub returns-in-Err : goal.returns-in-Err
returns-in-Err c = stepped _ _ _ c.in-Err.ensures
