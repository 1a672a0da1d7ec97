-- A subsection or a refusal is a line, and behind the subsections come the files.
use Rattle.std.proofs.Common.{arith}
use Rattle.printed.specs.PrintedLaws.{short_fits, sub_fits, refused_fits}
use Rattle.listing.specs.StepLaws.{stage_gives, stage_none, stage_refuses}
use Rattle.listing.proofs.subs_step.Goals as goal

pub returns-in-Ok-Some : goal.returns-in-Ok-Some
returns-in-Ok-Some c =
    let e = rw c.in-Ok-Some.field-0-is at c.in-Ok-Some.ensures in
    stage_gives _ _ _ _ _ _ _ _ _ _ e (omega arith) (short_fits (sub_fits _ _ (grind arith) (grind arith))) c.put_sub.ensures c.line_of.ensures

pub returns-in-Ok-None : goal.returns-in-Ok-None
returns-in-Ok-None c =
    let e = rw c.in-Ok-None.field-0-is at c.in-Ok-None.ensures in
    stage_none _ _ _ _ _ _ _ e c.files_step.ensures

pub returns-in-Err : goal.returns-in-Err
returns-in-Err c =
    stage_refuses _ _ _ _ _ _ _ _ _ c.in-Err.ensures (omega arith) (short_fits (refused_fits c.in-Err.no_sub)) c.put_refused.ensures c.line_of-in-Err.ensures
