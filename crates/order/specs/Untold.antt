-- Nothing is lost in what the answer of this crate tells: no second one tells the same.
use Rattle.std.specs.Prelude.{ℕ, ◌≡◌, refl, Result}
use Rattle.walk.specs.Listing.{Reply}
use Rattle.refusal.specs.Told.{Told}
use Rattle.refusal.specs.Untold.{untold_result, untold_result_lem}
use Rattle.refusal.specs.declared.Refusal.{Refusal}
use Rattle.order.specs.Told.{told_ordered}

abbrev pub untold_ordered : Reply ℕ Told → Result ℕ Refusal
untold_ordered = untold_result (λ n. n) (λ n. n) (λ n. refl)

pub untold_ordered_lem : (k : Result ℕ Refusal) → untold_ordered (told_ordered k) ≡ k
untold_ordered_lem = untold_result_lem (λ n. n) (λ n. n) (λ n. refl)
