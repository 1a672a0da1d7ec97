-- What the answers of this crate tell. Source: document 01, "Refusal numbers", and the values that it names for each.
-- Definitions only; a reader must believe them, but for `untold_header`: no public contract cites it.
use Rattle.std.specs.Prelude.{ℕ, Option, Result}
use Rattle.walk.specs.Listing.{Answer, Reply}
use Rattle.refusal.specs.Told.{Told}
use Rattle.refusal.specs.Answers.{told_result, told_answer}
use Rattle.refusal.specs.declared.Refusal.{Refusal}
use Rattle.body.specs.Lines.{LineHead}
use Rattle.find.specs.Find.{Span}
use Rattle.find.specs.Told.{told_span}
use Rattle.find.specs.declared as find
use Rattle.lines.specs.Blocks.{LineBlock}
use Rattle.lines.specs.declared.LineHeader.{LineHeader}
use Rattle.lines.specs.declared.Block.{Block}

abbrev pub told_header : LineHeader → LineHead
told_header h = record { offset = h.offset; section = h.section; flags = h.flags; code = h.code }

-- the header that tells it
abbrev pub untold_header : LineHead → LineHeader
untold_header h = record { offset = h.offset; section = h.section; flags = h.flags; code = h.code }

abbrev pub told_line_block : Block → LineBlock
told_line_block b = record { file = b.file; count = b.count; start = b.start }

abbrev pub told_block : Result (Option (Block × ℕ)) Refusal → Answer ℕ LineBlock Told
told_block = told_answer told_line_block

abbrev pub told_counted : Result ℕ Refusal → Reply ℕ Told
told_counted = told_result (λ n. n)

abbrev pub told_named : Result find.Span.Span Refusal → Reply Span Told
told_named = told_result told_span
