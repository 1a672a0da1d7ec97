-- The block at a place of a line body, as code reads it: where its lines stand. That these blocks, taken for their words, are those of the body
-- is `blocks_are` of BlocksLaws. Source: cvinfo.h, `CV_DebugSLinesFileBlockHeader_t`; document 01, "Line subsections", for the order of the
-- tests, and "a place past the lent bytes is 1".
-- Definitions only; `blocks_are` (lines BlocksLaws) says what they mean.
use Rattle.std.specs.Prelude.{ℕ, ◌+◌, ◌-◌, ◌*◌, List, Bool, cond, length, drop, ltb, eqb}
use Rattle.word.specs.Word.{u32_at}
use Rattle.walk.specs.Listing.{Listing, Answer, gives, none, refuses, moved, all}
use Rattle.refusal.specs.Told.{Told, told}
use Rattle.refusal.specs.declared.Refusal.TheVariants as why
use Rattle.body.specs.Words.{words_in}
use Rattle.body.specs.Lines.{Block, columns_of, line_bytes, block_head_size}

-- a block as an answer tells it: its file, the number of its lines, and where they begin
pub record LineBlock : Type 0 where
  pub file : ℕ
  pub count : ℕ
  pub start : ℕ

unfoldable pub block_at : Bool → List ℕ → ℕ → Answer ℕ LineBlock Told
block_at c b p =
    cond (ltb (length b) p) (refuses (told why.Cut))
    (cond (eqb (length b - p) 0) none
    (cond (ltb (length b - p) block_head_size) (refuses (told why.Cut))
    (cond (ltb (u32_at b (p + 8)) block_head_size) (refuses (told why.BlockSize))
    (cond (ltb (length b - p) (u32_at b (p + 8))) (refuses (told why.Cut))
    (cond (ltb (u32_at b (p + 8) - block_head_size) (line_bytes c (u32_at b (p + 4)))) (refuses (told why.BlockSize))
    (gives (record { file = u32_at b p; count = u32_at b (p + 4); start = p + block_head_size }) (p + u32_at b (p + 8))))))))

-- all blocks of a line body from a place on
unfoldable pub blocks_from : Bool → List ℕ → ℕ → Listing LineBlock Told
blocks_from c b = all (λ (p : ℕ). moved (block_at c b p)) (λ (p : ℕ). length b - p)

-- a block with its words in place of where they stand
abbrev pub worded : Bool → List ℕ → LineBlock → Block
worded c b k = record {
  file = k.file;
  lines = words_in (2 * k.count) (drop k.start b);
  columns = words_in (columns_of c k.count) (drop (k.start + 8 * k.count) b);
}
