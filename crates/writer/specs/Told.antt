-- What the answer of this crate tells. Source: document 01, "Refusal numbers", and the values that it names for each.
-- Definitions only; a reader must believe them.
use Rattle.std.specs.Prelude.{ℕ, Result}
use Rattle.walk.specs.Listing.{Reply}
use Rattle.refusal.specs.Told.{Told}
use Rattle.refusal.specs.Answers.{told_result}
use Rattle.refusal.specs.declared.Refusal.{Refusal}

abbrev pub told_wrote : Result ℕ Refusal → Reply ℕ Told
told_wrote = told_result (λ n. n)
