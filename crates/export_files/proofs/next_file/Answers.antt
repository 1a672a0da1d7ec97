-- Where the walk is over no words are put.
use Rattle.std.proofs.Common.{ap, ◌∙◌}
use Rattle.kinds.specs.Kind.{crate_rule}
use Rattle.files.specs.Files.{file_step}
use Rattle.answer_words.specs.Given.{step_given}
use Rattle.answer_words.specs.GivenLaws.{gives_as, gives_none}
use Rattle.answer_words.specs.TableWords.{table_state_size, table_words}
use Rattle.many_files.specs.Files.{file_words}
use Rattle.export_files.proofs.next_file.Goals as goal

pub returns-in-Ok-None : goal.returns-in-Ok-None
returns-in-Ok-None c =
    let e = rw c.in-Ok-None.field-0-is at c.in-Ok-None.ensures in
    gives_as (step_given table_state_size (table_words file_words)) (e ∙ ap (file_step crate_rule _) c.walk_in.ensures) (gives_none _)
