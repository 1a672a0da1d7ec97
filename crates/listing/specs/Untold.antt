-- Nothing is lost in what the answer of this crate tells: no second one tells the same.
use Rattle.std.specs.Prelude.{ℕ, ◌≡◌, refl, Option, Result}
use Rattle.walk.specs.Listing.{Answer}
use Rattle.refusal.specs.Told.{Told}
use Rattle.refusal.specs.Untold.{untold_answer, untold_answer_lem}
use Rattle.refusal.specs.declared.Refusal.{Refusal}
use Rattle.listing.specs.declared.TextWalk.{TextWalk}
use Rattle.listing.specs.Told.{told_text}

abbrev pub untold_text : Answer TextWalk ℕ Told → Result (Option (ℕ × TextWalk)) Refusal
untold_text = untold_answer (λ n. n) (λ n. n) (λ n. refl)

pub untold_text_lem : (x : Result (Option (ℕ × TextWalk)) Refusal) → untold_text (told_text x) ≡ x
untold_text_lem = untold_answer_lem (λ n. n) (λ n. n) (λ n. refl)
