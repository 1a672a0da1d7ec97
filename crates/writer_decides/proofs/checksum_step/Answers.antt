-- Where the step goes on, the rule says the size, so that the padding is two bytes.
use Rattle.std.proofs.Common.{rules, ◌∙◌, length}
use Rattle.writer_decides.specs.Calls.{room}
use Rattle.writer_decides.specs.CallLaws.{checksum_need}
use Rattle.writer_decides.proofs.checksum_step.Goals as goal

pub returns : goal.returns
returns c =
    let a = c.args in
    let need = checksum_need a.kind (length a.bytes.now) _ (room (length a.buf.now) a.written c.in_ok-last.last.header c.in_ok-last.last.mark) c.checksum_rule.ensures in
    let e = c.plain_room.ensures ∙ need in
    search (rules, e)
