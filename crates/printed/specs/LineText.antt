-- The line of a line record in `c13dump`'s text, as its pieces. Source: document 01, "Sheet lines to try", as amended by [9] of document 02: the code
-- offset in hex, other numbers in decimal; columns as start-end, an unset length as -, the kinds of line by their words, the body's position behind an @.
-- Definitions only; a reader must believe them.
use Rattle.std.specs.Prelude.{ℕ, List, [], ◌∷◌, ◌++◌, get_or}
use Rattle.std.proofs.Math.Option.{Option, none, some}
use Rattle.text.specs.Text.{ascii, decimal, hex}
use Rattle.line_record.specs.Told.{told_line_kind, told_length, told_column}
use Rattle.line_record.specs.declared.LineRecord.{LineRecord}
use Rattle.printed.specs.Printed.{Pieces}

abbrev pub length_text : Option ℕ → List ℕ
length_text none = ascii "-"
length_text (some n) = decimal n

-- a column that is unset is left out, so that a line without columns has the - alone
abbrev pub side_text : Option ℕ → List ℕ
side_text none = []
side_text (some n) = decimal n

-- the word of a line's kind, by its number
abbrev pub kind_text : ℕ → List ℕ
kind_text kind = get_or (ascii " ex" ∷ ascii " st" ∷ []) kind []

-- line 1:1000 len 8
abbrev pub address_pieces : LineRecord → Pieces
address_pieces r =
    ascii "line " ∷ decimal r.section ∷ ascii ":" ∷ hex r.offset ∷ ascii " len " ∷ length_text (told_length r.length) ∷ []

--  file 0 10-10
abbrev pub source_pieces : LineRecord → Pieces
source_pieces r =
    ascii " file " ∷ decimal r.file ∷ ascii " " ∷ decimal r.start_line ∷ ascii "-" ∷ decimal r.end_line ∷ []

--  st @40
abbrev pub origin_pieces : LineRecord → Pieces
origin_pieces r = kind_text (told_line_kind r.kind) ∷ ascii " @" ∷ decimal r.body ∷ ascii "\n" ∷ []

-- line 1:1000 len 8 file 0 10-10 - st @40
abbrev pub record_line : LineRecord → Pieces
record_line r =
    address_pieces r
    ++ (source_pieces r
    ++ (ascii " "
    ∷ side_text (told_column r.column_start)
    ∷ ascii "-"
    ∷ side_text (told_column r.column_end)
    ∷ origin_pieces r))
