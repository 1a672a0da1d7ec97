-- Where there is no such word none is put.
use Rattle.answer_words.specs.Given.{one, reply_given}
use Rattle.answer_words.specs.GivenLaws.{gives_as, gives_none}
use Rattle.export_tables.proofs.word.Goals as goal

pub returns-in-Ok-None : goal.returns-in-Ok-None
returns-in-Ok-None c = gives_as (reply_given one) (rw c.in-Ok-None.field-0-is at c.in-Ok-None.ensures) (gives_none _)
