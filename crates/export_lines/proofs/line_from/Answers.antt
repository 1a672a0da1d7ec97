-- One record by a call with room for one.
use Rattle.std.proofs.Common.{refl, replicate}
use Rattle.kinds.specs.Kind.{crate_rule}
use Rattle.line_state_words.specs.LineWords.{record_size, state_size, line_words}
use Rattle.answer_words.specs.Given.{step_given}
use Rattle.answer_words.specs.GivenLaws.{gives_as, gives_none}
use Rattle.export_lines.specs.OneLaws.{one_none, one_refused, one_line}
use Rattle.export_lines.proofs.line_from.Goals as goal

pub returns-in-Ok-Some : goal.returns-in-Ok-Some
returns-in-Ok-Some c =
    let k = c.in-Ok-Some in
    let e = rw k.field-0-is at k.ensures.result_value in
    one_line crate_rule _ _ (replicate record_size 0) refl _ _ _ _ e k.ensures.out_after _ _ _ c.put_line.ensures

pub returns-in-Ok-None : goal.returns-in-Ok-None
returns-in-Ok-None c =
    let k = c.in-Ok-None in
    let e = rw k.field-0-is at k.ensures.result_value in
    gives_as (step_given state_size line_words) (one_none crate_rule _ _ (replicate record_size 0) refl _ e) (gives_none _)

pub returns-in-Err : goal.returns-in-Err
returns-in-Err c =
    gives_as (step_given state_size line_words) (one_refused crate_rule _ _ (replicate record_size 0) refl _ _ c.in-Err.ensures.result_value) c.put_refusal.ensures
