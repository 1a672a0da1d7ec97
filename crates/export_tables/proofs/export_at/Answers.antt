-- Where there is no such export no words are put.
use Rattle.answer_words.specs.Given.{reply_given}
use Rattle.answer_words.specs.GivenLaws.{gives_as, gives_none}
use Rattle.export_tables.specs.Calls.{export_words}
use Rattle.export_tables.proofs.export_at.Goals as goal

pub returns-in-Ok-None : goal.returns-in-Ok-None
returns-in-Ok-None c = gives_as (reply_given export_words) (rw c.in-Ok-None.field-0-is at c.in-Ok-None.ensures) (gives_none _)
