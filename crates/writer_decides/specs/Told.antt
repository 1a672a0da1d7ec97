-- What the answer of this crate tells. Source: document 01, "Refusal numbers", and the values that it names for each.
-- Definitions only; contracts of inner calls alone cite them.
use Rattle.std.specs.Prelude.{Result, Ok, Err}
use Rattle.refusal.specs.Told.{told}
use Rattle.refusal.specs.declared.Refusal.{Refusal}
use Rattle.writer_decides.specs.Calls.{Act, goes, stops}
use Rattle.writer_decides.specs.declared.Go.{Go}

abbrev pub told_act : Result Go Refusal → Act
told_act (Ok g) = goes g.header g.mark g.next
told_act (Err r) = stops (told r)
