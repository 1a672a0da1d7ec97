-- The body of a LINES subsection: a header, and blocks one after the other. Source: cvinfo.h, `CV_DebugSLinesHeader_t` (offCon, segCon
-- u16, flags u16, cbCon), `CV_LINES_HAVE_COLUMNS` (bit 0), `CV_DebugSLinesFileBlockHeader_t` (offFile, nLines, cbBlock, which counts this
-- header; then nLines of `CV_Line_t`, then, with columns, nLines of `CV_Column_t`); document 01, "Line subsections", for the order of the
-- tests: header whole 1, size at least 12 else 7, data present 1, lines and columns inside the data else 7; bytes over are ignored.
-- Definitions only; a reader must believe them, but for `line_head_bytes`, `block_bytes`: `decided` (round_trip DecidedHolds) says what these mean.
use Rattle.std.specs.Prelude.{ℕ, ◌+◌, ◌-◌, ◌*◌, ◌/◌, ◌%◌, List, ◌++◌, Bool, true, false, cond, length, drop, ltb, eqb}
use Rattle.word.specs.Word.{u16_at, u32_at, le16, le32}
use Rattle.walk.specs.Listing.{Move, item, over, fail, Listing, all}
use Rattle.refusal.specs.Told.{Told, told}
use Rattle.refusal.specs.declared.Refusal.TheVariants as why
use Rattle.body.specs.Words.{words_in, word_bytes}

pub record LineHead : Type 0 where
  pub offset : ℕ
  pub section : ℕ
  pub flags : ℕ
  pub code : ℕ

-- the bytes of a line body's header
abbrev pub line_head_size : ℕ
line_head_size = 12

abbrev pub line_head : List ℕ → LineHead
line_head s = record { offset = u32_at s 0; section = u16_at s 4; flags = u16_at s 6; code = u32_at s 8 }

-- do lines have columns? Bit 0 of the header's flags
abbrev pub columned : ℕ → Bool
columned flags = eqb (flags % 2) 1

-- a raw block: its file, the words of its lines in pairs, and the words of its columns, the start in the low half
pub record Block : Type 0 where
  pub file : ℕ
  pub lines : List ℕ
  pub columns : List ℕ

-- how many column words n lines have, and the bytes of n lines with their columns
abbrev pub columns_of : Bool → ℕ → ℕ
columns_of true n = n
columns_of false n = 0

abbrev pub line_bytes : Bool → ℕ → ℕ
line_bytes c n = 8 * n + 4 * columns_of c n

-- the bytes of a block's header
abbrev pub block_head_size : ℕ
block_head_size = 12

unfoldable pub block_bite : Bool → List ℕ → Move (List ℕ) Block Told
block_bite c s =
    cond (eqb (length s) 0) over
    (cond (ltb (length s) block_head_size) (fail (told why.Cut))
    (cond (ltb (u32_at s 8) block_head_size) (fail (told why.BlockSize))
    (cond (ltb (length s) (u32_at s 8)) (fail (told why.Cut))
    (cond (ltb (u32_at s 8 - block_head_size) (line_bytes c (u32_at s 4))) (fail (told why.BlockSize))
    (item (record {
      file = u32_at s 0;
      lines = words_in (2 * u32_at s 4) (drop block_head_size s);
      columns = words_in (columns_of c (u32_at s 4)) (drop (block_head_size + 8 * u32_at s 4) s);
    }) (drop (u32_at s 8) s))))))

unfoldable pub blocks : Bool → List ℕ → Listing Block Told
blocks c = all (block_bite c) length

-- the bytes of a line body's header, and of a block that is exactly filled
abbrev pub line_head_bytes : LineHead → List ℕ
line_head_bytes h = le32 h.offset ++ (le16 h.section ++ (le16 h.flags ++ le32 h.code))

abbrev pub block_bytes : Block → List ℕ
block_bytes b =
    le32 b.file
    ++ (le32 (length b.lines / 2)
    ++ (le32 (block_head_size + 4 * length b.lines + 4 * length b.columns) ++ (word_bytes b.lines ++ word_bytes b.columns)))
