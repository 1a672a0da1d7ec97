-- Nothing is lost in what the answer of this crate tells: no second one tells the same.
use Rattle.std.specs.Prelude.{ℕ, ◌≡◌, refl, Option, Result}
use Rattle.walk.specs.Listing.{Answer}
use Rattle.refusal.specs.Told.{Told}
use Rattle.refusal.specs.Untold.{untold_answer, untold_answer_lem}
use Rattle.refusal.specs.declared.Refusal.{Refusal}
use Rattle.line_step.specs.declared.LineWalk.{LineWalk}
use Rattle.many_lines.specs.Told.{told_lines}

abbrev pub untold_lines : Answer LineWalk ℕ Told → Result (Option (ℕ × LineWalk)) Refusal
untold_lines = untold_answer (λ n. n) (λ n. n) (λ n. refl)

pub untold_lines_lem : (x : Result (Option (ℕ × LineWalk)) Refusal) → untold_lines (told_lines x) ≡ x
untold_lines_lem = untold_answer_lem (λ n. n) (λ n. n) (λ n. refl)
