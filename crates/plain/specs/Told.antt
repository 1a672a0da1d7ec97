-- What the answers of this crate tell. Source: document 01, "Refusal numbers", and the values that it names for each.
-- Definitions only; a reader must believe them, but for `told_mark`: no public contract cites it.
use Rattle.std.specs.Prelude.{ℕ}
use Rattle.std.specs.Prelude as code
use Rattle.std.proofs.Math.Option.{Option, none, some}
use Rattle.plain.specs.Plain.{Last}
use Rattle.plain.specs.declared as own

abbrev pub told_last : own.Last.Last → Last
told_last l = record { header = l.header; kind = l.kind; mark = l.mark }

abbrev pub told_mark : code.Option ℕ → Option ℕ
told_mark code.None = none
told_mark (code.Some m) = some m

abbrev pub told_plain : code.Option own.Last.Last → Option Last
told_plain code.None = none
told_plain (code.Some l) = some (told_last l)
