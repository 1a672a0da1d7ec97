-- Nothing is lost in what the answers of this crate tell: no second one tells the same.
use Rattle.std.specs.Prelude.{◌≡◌, refl, Result}
use Rattle.walk.specs.Listing.{Reply}
use Rattle.refusal.specs.Told.{Told}
use Rattle.refusal.specs.Untold.{untold_result, untold_result_lem}
use Rattle.refusal.specs.declared.Refusal.{Refusal}
use Rattle.line_step.specs.declared.LineWalk.{LineWalk}
use Rattle.symbol_lines.specs.Told.{told_symbol}

abbrev pub untold_symbol : Reply LineWalk Told → Result LineWalk Refusal
untold_symbol = untold_result (λ w. w) (λ w. w) (λ w. refl)

pub untold_symbol_lem : (x : Result LineWalk Refusal) → untold_symbol (told_symbol x) ≡ x
untold_symbol_lem = untold_result_lem (λ w. w) (λ w. w) (λ w. refl)
