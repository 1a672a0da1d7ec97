-- Nothing is lost in what the answers of this crate tell: no second one tells the same.
use Rattle.std.specs.Prelude.{◌≡◌, refl, Option, None, Some}
use Rattle.std.proofs.Math.Option.{none, some}
use Rattle.std.proofs.Math.Option as option
use Rattle.line_record.specs.declared.EndLines.{EndLines}
use Rattle.line_step.specs.declared.LineWalk.{LineWalk}
use Rattle.line_state_words.specs.Told.{told_how, told_walk_in}

abbrev pub untold_how : option.Option EndLines → Option EndLines
untold_how (some x) = Some x
untold_how none = None

pub untold_how_lem : (x : Option EndLines) → untold_how (told_how x) ≡ x
untold_how_lem (Some y) = refl
untold_how_lem None = refl

abbrev pub untold_walk_in : option.Option LineWalk → Option LineWalk
untold_walk_in (some w) = Some w
untold_walk_in none = None

pub untold_walk_in_lem : (x : Option LineWalk) → untold_walk_in (told_walk_in x) ≡ x
untold_walk_in_lem (Some w) = refl
untold_walk_in_lem None = refl
