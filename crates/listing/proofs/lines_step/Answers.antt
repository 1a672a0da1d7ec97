-- A record, the end, or a refusal is a line.
use Rattle.std.proofs.Common.{arith}
use Rattle.printed.specs.PrintedLaws.{short_fits, end_fits, refused_fits}
use Rattle.listing.specs.StepLaws.{line_shown_lem, stage_gives, stage_none, stage_refuses}
use Rattle.listing.proofs.lines_step.Goals as goal

pub returns-in-Ok-Some : goal.returns-in-Ok-Some
returns-in-Ok-Some c =
    let e = rw c.in-Ok-Some.field-0-is at c.in-Ok-Some.ensures in
    let p = c.put_record.ensures in
    stage_gives _ _ _ _ _ _ _ _ _ _ e (omega arith) p.r_len_bound p.result_after c.line_of.ensures

pub returns-in-Ok-None : goal.returns-in-Ok-None
returns-in-Ok-None c =
    let e = rw c.in-Ok-None.field-0-is at c.in-Ok-None.ensures in
    stage_none _ _ _ _ _ _ _ e (line_shown_lem _ _ _ _ _ _ (omega arith) (short_fits end_fits) c.put_end.ensures c.line_of-in-Ok-None.ensures)

pub returns-in-Err : goal.returns-in-Err
returns-in-Err c =
    stage_refuses _ _ _ _ _ _ _ _ _ c.in-Err.ensures (omega arith) (short_fits (refused_fits c.in-Err.why)) c.put_refused.ensures c.line_of-in-Err.ensures
