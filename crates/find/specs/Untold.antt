-- Nothing is lost in what the answer of this crate tells: no second one tells the same.
use Rattle.std.specs.Prelude.{◌≡◌, refl, Option, Result}
use Rattle.walk.specs.Listing.{Reply}
use Rattle.refusal.specs.Told.{Told}
use Rattle.refusal.specs.Untold.{untold_reply, untold_reply_lem}
use Rattle.refusal.specs.declared.Refusal.{Refusal}
use Rattle.find.specs.Find.{Span}
use Rattle.find.specs.declared as code
use Rattle.find.specs.Told.{told_span, told_found}

abbrev pub untold_span : Span → code.Span.Span
untold_span a = record { start = a.start; len = a.len }

abbrev pub untold_found : Reply Span Told → Result (Option code.Span.Span) Refusal
untold_found = untold_reply told_span untold_span (λ a. refl)

pub untold_found_lem : (f : Result (Option code.Span.Span) Refusal) → untold_found (told_found f) ≡ f
untold_found_lem = untold_reply_lem told_span untold_span (λ a. refl)
