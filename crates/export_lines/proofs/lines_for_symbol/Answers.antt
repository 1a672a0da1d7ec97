-- A number that names no reading is told.
use Rattle.kinds.specs.Kind.{crate_rule}
use Rattle.symbol_lines.specs.Symbol.{symbol_walk}
use Rattle.line_state_words.specs.LineWords.{line_walk_words}
use Rattle.answer_words.specs.Given.{reply_given}
use Rattle.answer_words.specs.GivenLaws.{gives_unchosen}
use Rattle.export_lines.proofs.lines_for_symbol.Goals as goal

pub returns-in_default : goal.returns-in_default
returns-in_default c =
    let a = c.args in
    gives_unchosen (λ how. reply_given line_walk_words (symbol_walk how crate_rule a.area.now a.slots.now a.section a.offset)) _ c.in_default.ensures
