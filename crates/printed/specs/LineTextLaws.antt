-- Laws of a record's line: it is not longer than `short_line`.
use Rattle.std.specs.Prelude.{◌≤◌, ◌≡◌, refl, length, ℕ, Option, None, Some}
use Rattle.std.proofs.Common.{arith, length-append}
use Rattle.text.specs.Text.{ascii, glyph, numeral_in, numeral, joined}
use Rattle.line_record.specs.Told.{told_line_kind, told_length, told_column}
use Rattle.line_record.specs.declared.LineKind.{LineKind}
use Rattle.line_record.specs.declared.LineKind.TheVariants.{Expression, Statement}
use Rattle.line_record.specs.declared.LineRecord.{LineRecord}
use Rattle.printed.specs.PrintedLaws.{Short, short_line, decimal_short, hex_short}
use Rattle.printed.specs.LineText.{length_text, side_text, kind_text, record_line}

abbrev pub ShortLength : Option ℕ → Type 0
ShortLength None = Unit {0}
ShortLength (Some n) = Short n

abbrev pub ShortColumn : Option ℕ → Type 0
ShortColumn None = Unit {0}
ShortColumn (Some n) = Short n

abbrev pub ShortRecord : LineRecord → Type 0
ShortRecord r =
    Short r.section × Short r.offset × ShortLength r.length × Short r.file × Short r.start_line × Short r.end_line
    × ShortColumn r.column_start × ShortColumn r.column_end × Short r.body

length_short : (l : Option ℕ) → ShortLength l → length (length_text (told_length l)) ≤ 20
unfolding ascii
length_short None h = omega arith
length_short (Some n) h = decimal_short n h

side_short : (c : Option ℕ) → ShortColumn c → length (side_text (told_column c)) ≤ 20
side_short None h = omega arith
side_short (Some n) h = decimal_short n h

kind_short : (k : LineKind) → length (kind_text (told_line_kind k)) ≤ 3
unfolding ascii
kind_short Statement = omega arith
kind_short Expression = omega arith

pub record_fits : (r : LineRecord) → ShortRecord r → length (joined (record_line r)) ≤ short_line
unfolding ascii
record_fits r h =
    simp length-append
    (omega (
      arith,
      decimal_short r.section h.0,
      hex_short r.offset h.1,
      length_short r.length h.2,
      decimal_short r.file h.3,
      decimal_short r.start_line h.4,
      decimal_short r.end_line h.5,
      side_short r.column_start h.6,
      side_short r.column_end h.7,
      kind_short r.kind,
      decimal_short r.body h.8,
    ))

-- ---- the lines of document 01's example

abbrev line_of : Option ℕ → Option ℕ → Option ℕ → LineKind → LineRecord
line_of l a b k =
    record { section = 1; offset = 0x1000; length = l; file = 0; start_line = 10; end_line = 10; column_start = a; column_end = b; kind = k; body = 40 }

pub example : (joined (record_line (line_of (Some 8) None None Statement)) ≡ ascii "line 1:1000 len 8 file 0 10-10 - st @40\n")
    × (joined (record_line (line_of None (Some 3) (Some 7) Expression)) ≡ ascii "line 1:1000 len - file 0 10-10 3-7 ex @40\n")
unfolding ascii numeral numeral_in glyph
example = (refl, refl)
