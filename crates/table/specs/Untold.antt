-- Nothing is lost in what the answers of this crate tell: no second one tells the same.
use Rattle.std.specs.Prelude.{◌≡◌, refl, ℕ, Option, Result}
use Rattle.walk.specs.Listing.{Reply}
use Rattle.refusal.specs.Told.{Told}
use Rattle.refusal.specs.Untold.{untold_reply, untold_reply_lem}
use Rattle.refusal.specs.declared.Refusal.{Refusal}
use Rattle.table.specs.Table.{Place}
use Rattle.table.specs.declared.Spot.{Spot}
use Rattle.table.specs.Told.{told_place, told_spot, told_word}

abbrev pub untold_place : Place → Spot
untold_place q = record { start = q.start; len = q.len; at = q.at }

abbrev pub untold_spot : Reply Place Told → Result (Option Spot) Refusal
untold_spot = untold_reply told_place untold_place (λ q. refl)

pub untold_spot_lem : (f : Result (Option Spot) Refusal) → untold_spot (told_spot f) ≡ f
untold_spot_lem = untold_reply_lem told_place untold_place (λ q. refl)

abbrev pub untold_word : Reply ℕ Told → Result (Option ℕ) Refusal
untold_word = untold_reply (λ w. w) (λ w. w) (λ w. refl)

pub untold_word_lem : (h : Result (Option ℕ) Refusal) → untold_word (told_word h) ≡ h
untold_word_lem = untold_reply_lem (λ w. w) (λ w. w) (λ w. refl)
