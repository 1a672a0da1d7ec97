-- What the answer of this crate tells. Source: document 01, "Refusal numbers", and the values that it names for each.
-- Definitions only; a reader must believe them.
use Rattle.std.specs.Prelude.{ℕ, Option, Result}
use Rattle.walk.specs.Listing.{Answer}
use Rattle.refusal.specs.Told.{Told}
use Rattle.refusal.specs.Answers.{told_answer}
use Rattle.refusal.specs.declared.Refusal.{Refusal}
use Rattle.table.specs.declared.TableWalk.{TableWalk}

abbrev pub told_files : Result (Option (ℕ × TableWalk)) Refusal → Answer TableWalk ℕ Told
told_files = told_answer (λ n. n)
