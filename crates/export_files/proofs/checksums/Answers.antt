-- The words of the part that `checksum_body` tells, or of the empty one.
use Rattle.files.proofs.FilesLaws.{part_found, part_none, part_refused}
use Rattle.answer_words.specs.Given.{reply_given, span_words}
use Rattle.answer_words.specs.GivenLaws.{gives_as}
use Rattle.export_files.proofs.checksums.Goals as goal

pub returns-in-Ok-Some : goal.returns-in-Ok-Some
returns-in-Ok-Some c = gives_as (reply_given span_words) (part_found _ _ _ (rw c.in-Ok-Some.field-0-is at c.in-Ok-Some.ensures)) c.put.ensures

pub returns-in-Ok-None : goal.returns-in-Ok-None
returns-in-Ok-None c = gives_as (reply_given span_words) (part_none _ _ (rw c.in-Ok-None.field-0-is at c.in-Ok-None.ensures)) c.put-in-Ok-None.ensures

pub returns-in-Err : goal.returns-in-Err
returns-in-Err c = gives_as (reply_given span_words) (part_refused _ _ _ c.in-Err.ensures) c.put_refusal.ensures
