-- Nothing is lost in what the answer of this crate tells: no second one tells the same.
use Rattle.std.specs.Prelude.{ℕ, ◌≡◌, refl, Option, Result}
use Rattle.walk.specs.Listing.{Answer}
use Rattle.refusal.specs.Told.{Told}
use Rattle.refusal.specs.Untold.{untold_answer, untold_answer_lem}
use Rattle.refusal.specs.declared.Refusal.{Refusal}
use Rattle.table.specs.declared.TableWalk.{TableWalk}
use Rattle.many_files.specs.Told.{told_files}

abbrev pub untold_files : Answer TableWalk ℕ Told → Result (Option (ℕ × TableWalk)) Refusal
untold_files = untold_answer (λ n. n) (λ n. n) (λ n. refl)

pub untold_files_lem : (x : Result (Option (ℕ × TableWalk)) Refusal) → untold_files (told_files x) ≡ x
untold_files_lem = untold_answer_lem (λ n. n) (λ n. n) (λ n. refl)
