-- The state, and the number behind it, are put at once.
use Rattle.std.proofs.Common.{arith, ap, ◌∙◌}
use Rattle.answer_words.specs.GivenLaws.{gives_status}
use Rattle.answer_words.specs.FillGiven.{answer_status}
use Rattle.export_lines.specs.CallsLaws.{gives_count}
use Rattle.export_lines.proofs.put_lines.Goals as goal

pub returns : goal.returns
returns c =
    let a = c.args in
    gives_status (c.answer_status-status.ensures ∙ ap answer_status c.is_over.ensures)
    (gives_count a.out.now _ _ a.next a.count _ _ _ (omega arith) c.put_line_walk.ensures c.put.ensures)
