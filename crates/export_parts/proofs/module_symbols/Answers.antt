-- An answer of no words.
use Rattle.answer_words.specs.Given.{reply_given}
use Rattle.answer_words.specs.GivenLaws.{gives_as, gives_nothing}
use Rattle.export_parts.specs.Calls.{yes}
use Rattle.export_parts.proofs.module_symbols.Goals as goal

pub returns-in-Ok : goal.returns-in-Ok
returns-in-Ok c = gives_as (reply_given yes) c.in-Ok.ensures (gives_nothing _ _)
