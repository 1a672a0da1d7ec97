-- What the answers of this crate tell. Source: document 01, "Refusal numbers", and the values that it names for each.
-- Definitions only; contracts of inner calls alone cite them.
use Rattle.std.specs.Prelude.{Option, None, Some, Result, Ok, Err}
use Rattle.walk.specs.Listing.{item, pass, over, fail, Reply}
use Rattle.refusal.specs.Told.{Told, told}
use Rattle.refusal.specs.Answers.{told_result, told_reply}
use Rattle.refusal.specs.declared.Refusal.{Refusal}
use Rattle.line_record.specs.declared.LineRecord.{LineRecord}
use Rattle.line_step.specs.Turn.{LineMove}
use Rattle.line_step.specs.declared.Place.{Place}
use Rattle.line_step.specs.declared.Turn.{Turn}
use Rattle.line_step.specs.declared.Turn.TheVariants as turn

abbrev pub told_next_block : Result (Option Place) Refusal → Reply Place Told
told_next_block = told_reply (λ p. p)

abbrev pub told_end_body : Result (Option LineRecord) Refusal → Reply (Option LineRecord) Told
told_end_body = told_result (λ o. o)

abbrev pub told_entered : Result Place Refusal → Reply Place Told
told_entered = told_result (λ p. p)

abbrev pub told_turn : Result (Option Turn) Refusal → LineMove
told_turn (Ok (Some (turn.Line r w))) = item r w
told_turn (Ok (Some (turn.Pass w))) = pass w
told_turn (Ok None) = over
told_turn (Err r) = fail (told r)
