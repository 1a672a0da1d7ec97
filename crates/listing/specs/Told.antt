-- What the answer of this crate tells. Source: document 01, "Refusal numbers", and the values that it names for each.
-- Definitions only; a reader must believe them.
use Rattle.std.specs.Prelude.{ℕ, Option, Result}
use Rattle.walk.specs.Listing.{Answer}
use Rattle.refusal.specs.Told.{Told}
use Rattle.refusal.specs.Answers.{told_answer}
use Rattle.refusal.specs.declared.Refusal.{Refusal}
use Rattle.listing.specs.declared.TextWalk.{TextWalk}

abbrev pub told_text : Result (Option (ℕ × TextWalk)) Refusal → Answer TextWalk ℕ Told
told_text = told_answer (λ n. n)
