-- Words that name no reading are no walk.
use Rattle.kinds.specs.Kind.{crate_rule}
use Rattle.answer_words.specs.Given.{step_given}
use Rattle.answer_words.specs.GivenLaws.{gives_unchosen}
use Rattle.line_state_words.specs.LineWords.{state_size, line_words}
use Rattle.line_walk.specs.Next.{next_of}
use Rattle.export_lines.proofs.next_line.Goals as goal

pub returns-in-None : goal.returns-in-None
returns-in-None c =
    let a = c.args in
    gives_unchosen (λ w. step_given state_size line_words (next_of crate_rule a.area.now a.slots.now w)) _ c.in-None.ensures
