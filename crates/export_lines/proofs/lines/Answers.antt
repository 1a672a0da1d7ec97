-- Words that name no reading are no walk.
use Rattle.std.proofs.Common.{length}
use Rattle.kinds.specs.Kind.{crate_rule}
use Rattle.answer_words.specs.GivenLaws.{gives_unchosen}
use Rattle.answer_words.specs.FillGiven.{fill_given}
use Rattle.line_state_words.specs.LineWords.{state_size, line_walk_words}
use Rattle.many_lines.specs.Lines.{lines_of}
use Rattle.export_lines.specs.Calls.{over_walk}
use Rattle.export_lines.proofs.lines.Goals as goal

pub returns-in-None-clause-gives : goal.returns-in-None-clause-gives
returns-in-None-clause-gives c =
    let a = c.args in
    let n = length a.records.now in
    gives_unchosen (λ w. fill_given state_size over_walk line_walk_words a.out.now (lines_of crate_rule a.area.now a.slots.now n w)) _ c.in-None.ensures
