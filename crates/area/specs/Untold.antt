-- Nothing is lost in what the answers of this crate tell: no second one tells the same.
use Rattle.std.specs.Prelude.{ℕ, ◌≡◌, refl, Option, Result}
use Rattle.walk.specs.Listing.{Answer}
use Rattle.refusal.specs.Told.{Told}
use Rattle.refusal.specs.Untold.{untold_answer, untold_answer_lem}
use Rattle.refusal.specs.declared.Refusal.{Refusal}
use Rattle.area.specs.Subs.{Sub}
use Rattle.area.specs.declared as code
use Rattle.area.specs.Told.{told_sub, told_step}

abbrev pub untold_sub : Sub → code.Sub.Sub
untold_sub b = record { kind = b.kind; start = b.start; len = b.len }

abbrev pub untold_step : Answer ℕ Sub Told → Result (Option (code.Sub.Sub × ℕ)) Refusal
untold_step = untold_answer told_sub untold_sub (λ b. refl)

pub untold_step_lem : (h : Result (Option (code.Sub.Sub × ℕ)) Refusal) → untold_step (told_step h) ≡ h
untold_step_lem = untold_answer_lem told_sub untold_sub (λ b. refl)
