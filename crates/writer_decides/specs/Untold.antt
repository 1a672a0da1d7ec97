-- Nothing is lost in what the answer of this crate tells: no second one tells the same.
use Rattle.std.specs.Prelude.{◌≡◌, refl, Result, Ok, Err}
use Rattle.std.proofs.Common.{ap}
use Rattle.refusal.specs.Untold.{untold, untold_told}
use Rattle.refusal.specs.declared.Refusal.{Refusal}
use Rattle.writer_decides.specs.Calls.{Act, goes, stops}
use Rattle.writer_decides.specs.declared.Go.{Go}
use Rattle.writer_decides.specs.Told.{told_act}

abbrev pub untold_act : Act → Result Go Refusal
untold_act (goes h m n) = Ok (record { header = h; mark = m; next = n })
untold_act (stops t) = Err (untold t)

pub untold_act_lem : (a : Result Go Refusal) → untold_act (told_act a) ≡ a
untold_act_lem (Ok g) = refl
untold_act_lem (Err r) = ap Err (untold_told r)
