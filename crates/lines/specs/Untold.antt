-- Nothing is lost in what the answers of this crate tell: no second one tells the same.
use Rattle.std.specs.Prelude.{ℕ, ◌≡◌, refl, Option, Result}
use Rattle.walk.specs.Listing.{Answer, Reply}
use Rattle.refusal.specs.Told.{Told}
use Rattle.refusal.specs.Untold.{untold_result, untold_result_lem, untold_answer, untold_answer_lem}
use Rattle.refusal.specs.declared.Refusal.{Refusal}
use Rattle.find.specs.Find.{Span}
use Rattle.find.specs.Told.{told_span}
use Rattle.find.specs.Untold.{untold_span}
use Rattle.find.specs.declared as find
use Rattle.lines.specs.Blocks.{LineBlock}
use Rattle.lines.specs.declared.LineHeader.{LineHeader}
use Rattle.lines.specs.declared.Block.{Block}
use Rattle.lines.specs.Told.{told_header, untold_header, told_line_block, told_block, told_counted, told_named}

pub untold_header_lem : (h : LineHeader) → untold_header (told_header h) ≡ h
untold_header_lem h = refl

abbrev pub untold_line_block : LineBlock → Block
untold_line_block b = record { file = b.file; count = b.count; start = b.start }

abbrev pub untold_block : Answer ℕ LineBlock Told → Result (Option (Block × ℕ)) Refusal
untold_block = untold_answer told_line_block untold_line_block (λ b. refl)

pub untold_block_lem : (k : Result (Option (Block × ℕ)) Refusal) → untold_block (told_block k) ≡ k
untold_block_lem = untold_answer_lem told_line_block untold_line_block (λ b. refl)

abbrev pub untold_counted : Reply ℕ Told → Result ℕ Refusal
untold_counted = untold_result (λ n. n) (λ n. n) (λ n. refl)

pub untold_counted_lem : (k : Result ℕ Refusal) → untold_counted (told_counted k) ≡ k
untold_counted_lem = untold_result_lem (λ n. n) (λ n. n) (λ n. refl)

abbrev pub untold_named : Reply Span Told → Result find.Span.Span Refusal
untold_named = untold_result told_span untold_span (λ a. refl)

pub untold_named_lem : (k : Result find.Span.Span Refusal) → untold_named (told_named k) ≡ k
untold_named_lem = untold_result_lem told_span untold_span (λ a. refl)
