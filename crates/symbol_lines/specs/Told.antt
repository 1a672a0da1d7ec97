-- What the answers of this crate tell. Source: document 01, "Refusal numbers", and the values that it names for each.
-- Definitions only; a reader must believe them, but for `told_best`, `told_symbol_slot`: no public contract cites them.
use Rattle.std.specs.Prelude.{ℕ, Option, Result, Ok}
use Rattle.walk.specs.Listing.{Reply}
use Rattle.refusal.specs.Told.{Told}
use Rattle.refusal.specs.Answers.{told_result, told_reply}
use Rattle.refusal.specs.declared.Refusal.{Refusal}
use Rattle.line_step.specs.declared.LineWalk.{LineWalk}

abbrev pub told_symbol_slot : Result (Option ℕ) Refusal → Reply ℕ Told
told_symbol_slot = told_reply (λ i. i)

-- of the best slot so far, if there is one
abbrev pub told_best : Option ℕ → Reply ℕ Told
told_best b = told_symbol_slot (Ok b)

abbrev pub told_symbol : Result LineWalk Refusal → Reply LineWalk Told
told_symbol = told_result (λ w. w)
