-- A file or a refusal is a line, and behind the files come the records.
use Rattle.std.proofs.Common.{arith}
use Rattle.word.specs.Word.{Bytes}
use Rattle.printed.specs.PrintedLaws.{short_fits, refused_fits}
use Rattle.listing.specs.StepLaws.{stage_none, stage_refuses, file_line_lem}
use Rattle.listing.proofs.files_step.Goals as goal

pub returns-in-Ok-Some : goal.returns-in-Ok-Some
returns-in-Ok-Some c =
    let e = rw c.in-Ok-Some.field-0-is at c.in-Ok-Some.ensures in
    let bytes : Bytes c.args.area.now = λ i. omega (arith, c.type_inv.area i) in
    file_line_lem _ _ _ _ _ _ _ _ _ _ _ e bytes (omega arith) (omega arith) (omega arith) c.checksum_bytes-bytes.ensures.2 c.put_file-place.ensures
    c.line_of.ensures

pub returns-in-Ok-None : goal.returns-in-Ok-None
returns-in-Ok-None c =
    let e = rw c.in-Ok-None.field-0-is at c.in-Ok-None.ensures in
    stage_none _ _ _ _ _ _ _ e c.lines_step.ensures

pub returns-in-Err : goal.returns-in-Err
returns-in-Err c =
    stage_refuses _ _ _ _ _ _ _ _ _ c.in-Err.ensures (omega arith) (short_fits (refused_fits c.in-Err.why)) c.put_refused.ensures c.line_of-in-Err.ensures
