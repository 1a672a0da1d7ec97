-- Nothing is lost in what the answers of this crate tell: no second one tells the same.
use Rattle.std.specs.Prelude.{◌≡◌, refl, Option, None, Some, Result, Ok, Err}
use Rattle.std.proofs.Common.{ap}
use Rattle.walk.specs.Listing.{item, pass, over, fail, Reply}
use Rattle.refusal.specs.Told.{Told}
use Rattle.refusal.specs.Untold.{untold, untold_told, untold_result, untold_result_lem, untold_reply, untold_reply_lem}
use Rattle.refusal.specs.declared.Refusal.{Refusal}
use Rattle.line_record.specs.declared.LineRecord.{LineRecord}
use Rattle.line_step.specs.Turn.{LineMove}
use Rattle.line_step.specs.declared.Place.{Place}
use Rattle.line_step.specs.declared.Turn.{Turn}
use Rattle.line_step.specs.declared.Turn.TheVariants as turn
use Rattle.line_step.specs.Told.{told_next_block, told_end_body, told_entered, told_turn}

abbrev pub untold_next_block : Reply Place Told → Result (Option Place) Refusal
untold_next_block = untold_reply (λ p. p) (λ p. p) (λ p. refl)

pub untold_next_block_lem : (k : Result (Option Place) Refusal) → untold_next_block (told_next_block k) ≡ k
untold_next_block_lem = untold_reply_lem (λ p. p) (λ p. p) (λ p. refl)

abbrev pub untold_end_body : Reply (Option LineRecord) Told → Result (Option LineRecord) Refusal
untold_end_body = untold_result (λ o. o) (λ o. o) (λ o. refl)

pub untold_end_body_lem : (k : Result (Option LineRecord) Refusal) → untold_end_body (told_end_body k) ≡ k
untold_end_body_lem = untold_result_lem (λ o. o) (λ o. o) (λ o. refl)

abbrev pub untold_entered : Reply Place Told → Result Place Refusal
untold_entered = untold_result (λ p. p) (λ p. p) (λ p. refl)

pub untold_entered_lem : (k : Result Place Refusal) → untold_entered (told_entered k) ≡ k
untold_entered_lem = untold_result_lem (λ p. p) (λ p. p) (λ p. refl)

abbrev pub untold_turn : LineMove → Result (Option Turn) Refusal
untold_turn (item r w) = Ok (Some (turn.Line r w))
untold_turn (pass w) = Ok (Some (turn.Pass w))
untold_turn over = Ok None
untold_turn (fail t) = Err (untold t)

pub untold_turn_lem : (u : Result (Option Turn) Refusal) → untold_turn (told_turn u) ≡ u
untold_turn_lem (Ok (Some (turn.Line r w))) = refl
untold_turn_lem (Ok (Some (turn.Pass w))) = refl
untold_turn_lem (Ok None) = refl
untold_turn_lem (Err r) = ap Err (untold_told r)
