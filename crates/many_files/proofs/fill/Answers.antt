-- Each turn puts a file (`put_file_lem`); the loop ends at no other file, or where the room is full.
use Rattle.std.proofs.Common.{arith}
use Rattle.kinds.specs.Kind.{crate_rule}
use Rattle.walk.specs.Listing.{none, refuses}
use Rattle.files.specs.Files.{file_step}
use Rattle.files.proofs.FilesLaws.{file_leads}
use Rattle.answer_words.specs.FillLaws.{fill_full}
use Rattle.many_files.specs.Files.{file_size, file_words}
use Rattle.many_files.specs.FileWordsLaws.{file_length, file_words_lem}
use Rattle.many_files.specs.FilesLaws.{put_file_lem, put_ended}
use Rattle.many_files.proofs.fill.Goals as goal

pub overflow_cast-e : goal.overflow_cast-e
overflow_cast-e c = omega (arith, file_leads _ _ _ _ _ (rw c.in-Ok-Some.field-0-is at c.in-Ok-Some.ensures))

pub overflow_cast-e-in-Ok-Some : goal.overflow_cast-e-in-Ok-Some
overflow_cast-e-in-Ok-Some c = omega (arith, file_leads _ _ _ _ _ (rw c.in-Ok-Some.field-0-is at c.in-Ok-Some.ensures))

pub loop-n-preserved : goal.loop-n-preserved
loop-n-preserved c =
    let e = rw c.in-Ok-Some.field-0-is at c.in-Ok-Some.ensures in
    let ws = file_words_lem _ _ _ _ _ c.number-k.ensures _ in
    put_file_lem crate_rule _ _ _ c.loop-n.invariant _ _ e (omega arith) ws c.put32.ensures

pub returns-in-Ok-None : goal.returns-in-Ok-None
returns-in-Ok-None c =
    let e = rw c.in-Ok-None.field-0-is at c.in-Ok-None.ensures in
    let q = put_ended crate_rule _ _ _ c.loop-n.invariant (omega arith) none e tt c.ended.ensures in
    record { result_value = q.0; out_after = q.1 }

pub returns-in-Err : goal.returns-in-Err
returns-in-Err c =
    let q = put_ended crate_rule _ _ _ c.loop-n.invariant (omega arith) (refuses _) c.in-Err.ensures tt c.ended-in-Err.ensures in
    record { result_value = q.0; out_after = q.1 }

pub returns : goal.returns
returns c =
    let q = fill_full file_size file_words file_length (file_step crate_rule _) _ _ c.loop-n.invariant (omega arith) (omega arith) (omega arith) in
    record { result_value = q.0; out_after = q.1 }
