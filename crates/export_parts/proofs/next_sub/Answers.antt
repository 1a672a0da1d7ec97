-- Where the walk is over no words are put.
use Rattle.std.proofs.Common.{ap, ◌∙◌}
use Rattle.kinds.specs.Kind.{crate_rule}
use Rattle.area.specs.Subs.{step_at}
use Rattle.answer_words.specs.Given.{step_given}
use Rattle.answer_words.specs.GivenLaws.{gives_as, gives_none}
use Rattle.export_parts.specs.Calls.{sub_state_size, sub_words}
use Rattle.export_parts.proofs.next_sub.Goals as goal

pub returns-in-Ok-None : goal.returns-in-Ok-None
returns-in-Ok-None c =
    let e = rw c.in-Ok-None.field-0-is at c.in-Ok-None.ensures in
    gives_as (step_given sub_state_size sub_words) (e ∙ ap (step_at crate_rule _) c.state_word.ensures) (gives_none _)
