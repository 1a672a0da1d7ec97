-- Nothing is lost in what the answers of this crate tell: no second one tells the same.
use Rattle.std.specs.Prelude.{◌≡◌, refl}
use Rattle.std.specs.Prelude as code
use Rattle.std.proofs.Math.Option.{Option, none, some}
use Rattle.plain.specs.Plain.{Last}
use Rattle.plain.specs.declared as own
use Rattle.plain.specs.Told.{told_plain}

abbrev pub untold_plain : Option Last → code.Option own.Last.Last
untold_plain (some l) = code.Some (record { header = l.header; kind = l.kind; mark = l.mark })
untold_plain none = code.None

pub untold_plain_lem : (a : code.Option own.Last.Last) → untold_plain (told_plain a) ≡ a
untold_plain_lem (code.Some l) = refl
untold_plain_lem code.None = refl
