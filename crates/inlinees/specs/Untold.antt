-- Nothing is lost in what the answers of this crate tell: no second one tells the same.
use Rattle.std.specs.Prelude.{ℕ, ◌≡◌, refl, Option, Result}
use Rattle.walk.specs.Listing.{Answer}
use Rattle.refusal.specs.Told.{Told}
use Rattle.refusal.specs.Untold.{untold_answer, untold_answer_lem}
use Rattle.refusal.specs.declared.Refusal.{Refusal}
use Rattle.table.specs.declared.TableWalk.{TableWalk}
use Rattle.inlinees.specs.Inlinees.{SourceLine}
use Rattle.inlinees.specs.declared as code
use Rattle.inlinees.specs.Told.{told_one_line, told_source_line, told_inlinee}

abbrev pub untold_one_line : SourceLine → code.SourceLine.SourceLine
untold_one_line e = record { inlinee = e.inlinee; file = e.file; line = e.line; extra = e.extra; count = e.count }

abbrev pub untold_line : Answer ℕ SourceLine Told → Result (Option (code.SourceLine.SourceLine × ℕ)) Refusal
untold_line = untold_answer told_one_line untold_one_line (λ e. refl)

pub untold_line_lem : (h : Result (Option (code.SourceLine.SourceLine × ℕ)) Refusal) → untold_line (told_source_line h) ≡ h
untold_line_lem = untold_answer_lem told_one_line untold_one_line (λ e. refl)

abbrev pub untold_inlinee : Answer TableWalk SourceLine Told → Result (Option (code.SourceLine.SourceLine × TableWalk)) Refusal
untold_inlinee = untold_answer told_one_line untold_one_line (λ e. refl)

pub untold_inlinee_lem : (h : Result (Option (code.SourceLine.SourceLine × TableWalk)) Refusal) → untold_inlinee (told_inlinee h) ≡ h
untold_inlinee_lem = untold_answer_lem told_one_line untold_one_line (λ e. refl)
