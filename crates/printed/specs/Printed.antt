-- The lines of `c13dump`'s text, each as its pieces. Source: document 01, "Sheet lines to try": kinds, code offsets and checksum bytes in hex, other
-- numbers in decimal; no bytes as -, the kinds of checksum by their words. The line of a line record is in LineText.
-- Definitions only; a reader must believe them.
use Rattle.std.specs.Prelude.{ℕ, List, [], ◌∷◌, cond, length, get_or, eqb}
use Rattle.text.specs.Text.{ascii, decimal, hex, hex_bytes}

-- no line is longer (`..-fits` of PrintedLaws)
abbrev pub longest_line : ℕ
longest_line = 1024

abbrev pub Pieces : Type 0
Pieces = List (List ℕ)

-- c13 80 bytes
abbrev pub head_line : ℕ → Pieces
head_line len = ascii "c13 " ∷ decimal len ∷ ascii " bytes\n" ∷ []

-- sub f4 24
abbrev pub sub_line : ℕ → ℕ → Pieces
sub_line kind len = ascii "sub " ∷ hex kind ∷ ascii " " ∷ decimal len ∷ ascii "\n" ∷ []

-- the word of a checksum's kind, by its number
abbrev pub checksum_word : ℕ → List ℕ
checksum_word kind = get_or (ascii "none" ∷ ascii "md5" ∷ ascii "sha1" ∷ ascii "sha256" ∷ []) kind []

unfoldable pub bytes_text : List ℕ → List ℕ
bytes_text bytes = cond (eqb (length bytes) 0) (ascii "-") (hex_bytes bytes)

-- file 0 name 1 md5 000102030405060708090a0b0c0d0e0f
abbrev pub file_line : ℕ → ℕ → ℕ → List ℕ → Pieces
file_line at name kind bytes =
    ascii "file " ∷ decimal at ∷ ascii " name " ∷ decimal name ∷ ascii " " ∷ checksum_word kind ∷ ascii " " ∷ bytes_text bytes ∷ ascii "\n" ∷ []

abbrev pub end_of_text : Pieces
end_of_text = ascii "end\n" ∷ []

-- refused 11
abbrev pub refused_line : ℕ → Pieces
refused_line number = ascii "refused " ∷ decimal number ∷ ascii "\n" ∷ []
