-- Without room, and where there is no record.
use Rattle.std.proofs.Common.{arith, refl, length}
use Rattle.kinds.specs.Kind.{crate_rule}
use Rattle.answer_words.specs.GivenLaws.{gives_none}
use Rattle.answer_words.specs.FillGivenLaws.{fill_short, fill_given_lem}
use Rattle.line_state_words.specs.LineWords.{state_size, line_walk_words, record_words}
use Rattle.many_lines.specs.Lines.{lines_of}
use Rattle.export_lines.specs.Calls.{over_walk}
use Rattle.export_lines.proofs.lines_from.Goals as goal

pub returns-then-out-lt-ASKED-clause-gives : goal.returns-then-out-lt-ASKED-clause-gives
returns-then-out-lt-ASKED-clause-gives c =
    let a = c.args in
    (fill_short state_size over_walk line_walk_words record_words a.out.now a.records.now (lines_of crate_rule a.area.now a.slots.now (length a.records.now) a.walk) (omega arith)).0

pub returns-in-Ok-None-clause-gives : goal.returns-in-Ok-None-clause-gives
returns-in-Ok-None-clause-gives c =
    let a = c.args in
    let k = c.in-Ok-None in
    let e = rw k.field-0-is at k.ensures.result_value in
    (fill_given_lem state_size over_walk line_walk_words record_words a.out.now a.records.now (lines_of crate_rule a.area.now a.slots.now (length a.records.now)) (omega arith) refl e k.ensures.out_after
    (gives_none _)).0
