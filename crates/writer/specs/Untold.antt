-- Nothing is lost in what the answer of this crate tells: no second one tells the same.
use Rattle.std.specs.Prelude.{ℕ, ◌≡◌, refl, Result}
use Rattle.walk.specs.Listing.{Reply}
use Rattle.refusal.specs.Told.{Told}
use Rattle.refusal.specs.Untold.{untold_result, untold_result_lem}
use Rattle.refusal.specs.declared.Refusal.{Refusal}
use Rattle.writer.specs.Told.{told_wrote}

abbrev pub untold_wrote : Reply ℕ Told → Result ℕ Refusal
untold_wrote = untold_result (λ n. n) (λ n. n) (λ n. refl)

pub untold_wrote_lem : (w : Result ℕ Refusal) → untold_wrote (told_wrote w) ≡ w
untold_wrote_lem = untold_result_lem (λ n. n) (λ n. n) (λ n. refl)
