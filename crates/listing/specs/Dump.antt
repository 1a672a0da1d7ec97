-- The text of an area, as `c13dump` prints it. Source: document 01, "Sheet lines to try": a head line, the subsections, the files, the line records
-- with their end lines by the crate's reading, the end; a refusal prints its number in place of the rest; above 65,536 bytes there is number 11 alone.
-- Definitions only; a reader must believe them.
use Rattle.std.specs.Prelude.{ℕ, suc, ◌≤◌, ◌≡◌, List, [], ◌∷◌, ◌++◌, Bool, true, false, cond, length, ltb}
use Rattle.walk.specs.Listing.{Listing, more, ends, fails, mapped, and_then, Reply, gave, nothing, refused}
use Rattle.refusal.specs.Told.{Told, told}
use Rattle.refusal.specs.declared.Refusal.TheVariants as why
use Rattle.kinds.specs.Kind.{Sort}
use Rattle.area.specs.Subs.{Sub, subs_from}
use Rattle.find.specs.Find.{same}
use Rattle.lines.specs.Lines.{count_lines}
use Rattle.files.specs.Files.{File, files_in, file_spelt}
use Rattle.line_record.specs.declared.EndLines.TheVariants.{Crate}
use Rattle.line_walk.specs.Meaning.{area_records}
use Rattle.text.specs.Text.{joined}
use Rattle.printed.specs.Printed.{Pieces, head_line, sub_line, file_line, end_of_text, refused_line}
use Rattle.printed.specs.LineText.{record_line}

abbrev pub most_bytes : ℕ
most_bytes = 65536

-- the line of a subsection, and of a file of the area s, whose index is its entry's byte offset in the body
abbrev pub sub_row : Sub → Pieces
sub_row b = sub_line b.kind b.len

abbrev pub file_row : List ℕ → File → Pieces
file_row s f = file_line f.index f.info.name f.info.kind (file_spelt s f).bytes

-- the last line: the end, or the refusal's number
abbrev pub refusal : Told → Pieces
refusal t = refused_line t.number

unfoldable pub closing : Listing Pieces Told → Listing Pieces Told
closing (more x l) = more x (closing l)
closing ends = more end_of_text ends
closing (fails t) = more (refusal t) ends

-- the lines behind the head: the subsections, the files and the line records, to their end or to the first refusal
abbrev pub sheet_rows : (ℕ → Sort) → List ℕ → Listing Pieces Told
sheet_rows rule s =
    and_then (mapped sub_row same (subs_from rule s 0))
    (and_then (mapped (file_row s) same (files_in rule s)) (mapped record_line same (area_records Crate rule s)))

-- THE LINES of the text
unfoldable pub sheet_lines : (ℕ → Sort) → List ℕ → Listing Pieces Told
sheet_lines rule s =
    cond (ltb most_bytes (length s)) (more (refusal (told why.TooLong)) ends) (more (head_line (length s)) (closing (sheet_rows rule s)))

-- whether a listing is refused, and whether the text is
abbrev pub ends_refused : {B R : Type 0} → Listing B R → Bool
ends_refused (more b l) = ends_refused l
ends_refused ends = false
ends_refused (fails r) = true

unfoldable pub sheet_refused : (ℕ → Sort) → List ℕ → Bool
sheet_refused rule s = cond (ltb most_bytes (length s)) true (ends_refused (sheet_rows rule s))

-- the bytes of lines, one line after the other
unfoldable pub sheet_bytes : Listing Pieces Told → List ℕ
sheet_bytes (more x l) = joined x ++ sheet_bytes l
sheet_bytes ends = []
sheet_bytes (fails t) = []

-- THE TEXT
abbrev pub text_of : (ℕ → Sort) → List ℕ → List ℕ
text_of rule s = sheet_bytes (sheet_lines rule s)

-- ---- what a caller of a walk over the lines of the text has

-- the bytes of the lines in replies
unfoldable pub spoken : List (Reply Pieces Told) → List ℕ
spoken [] = []
spoken (gave x ∷ rs) = joined x ++ spoken rs
spoken (nothing ∷ rs) = spoken rs
spoken (refused t ∷ rs) = spoken rs

-- how many lines a listing has
unfoldable pub sheet_size : Listing Pieces Told → ℕ
sheet_size (more x l) = suc (sheet_size l)
sheet_size ends = 0
sheet_size (fails t) = 0

-- the slots xs suffice for every line subsection of the area s
abbrev pub Room : (ℕ → Sort) → List ℕ → List ℕ → Type 0
Room rule s xs = (n : ℕ) → gave n ≡ count_lines rule s → n ≤ length xs
