-- Where nothing is found no words are put.
use Rattle.std.proofs.Common.{rules, ◌≡◌, None}
use Rattle.answer_words.specs.GivenLaws.{gives_none}
use Rattle.export_tables.proofs.put_lookup.Goals as goal

pub returns-in-Ok-None : goal.returns-in-Ok-None
returns-in-Ok-None c =
    let n : c.in-Ok-None.field-0 ≡ None = search rules in
    rw (c.in-Ok-None.is, n) (gives_none _)
