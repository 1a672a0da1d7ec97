-- Laws of the lines: how a checksum's bytes print, that no line is longer than `longest_line` and that one without a checksum is much shorter, and what
-- a line is that was made at the start of a line of its own.
use Rattle.std.specs.Prelude.{ℕ, zero, suc, ◌+◌, ◌*◌, ◌≤◌, ◌<◌, ◌≡◌, refl, List, [], ◌∷◌, ◌++◌, cond, length, take, replicate, eqb}
use Rattle.std.proofs.Common.{sym, ap, ◌∙◌, arith, length-append, length-take}
use Rattle.std.proofs.lemmas.List.{length-replicate}
use Rattle.walk.specs.Cases.{tests, by_cases, both_ways}
use Rattle.text.specs.Text.{ascii, glyph, numeral_in, numeral, decimal, hex, hex_bytes, Next, at, Page, page, piece_written, joined}
use Rattle.text.specs.PageLaws.{written_all, pieces_stand, joined_append}
use Rattle.text.specs.TextLaws.{length_below, hex_length}
use Rattle.refusal.specs.Told.{told, number_of}
use Rattle.refusal.specs.declared.Refusal.{Refusal}
use Rattle.refusal.specs.declared.Refusal.TheVariants as why
use Rattle.kinds.specs.Kind.{FILE_CHECKSUMS}
use Rattle.printed.specs.Printed.{longest_line, Pieces, head_line, sub_line, checksum_word, bytes_text, file_line, end_of_text, refused_line}

pub bytes_none : (bytes : List ℕ) → length bytes ≡ 0 → ascii "-" ≡ bytes_text bytes
unfolding bytes_text
bytes_none bytes h = simp tests

pub bytes_some : (bytes : List ℕ) → (length bytes ≡ 0 → ⊥) → hex_bytes bytes ≡ bytes_text bytes
unfolding bytes_text
bytes_some bytes h = simp tests

-- how long the text of a checksum of n bytes is
unfoldable pub text_size : ℕ → ℕ
text_size n = cond (eqb n 0) 1 (2 * n)

pub size_none : (n : ℕ) → n ≡ 0 → 1 ≡ text_size n
unfolding text_size
size_none n h = simp tests

pub size_some : (n : ℕ) → (n ≡ 0 → ⊥) → 2 * n ≡ text_size n
unfolding text_size
size_some n h = simp tests

pub text_size_lem : (bytes : List ℕ) → length (bytes_text bytes) ≡ text_size (length bytes)
unfolding bytes_text text_size ascii
text_size_lem bytes = both_ways length (eqb (length bytes) 0) (λ e. refl) (λ e. hex_length bytes)

-- a refusal's line, its number told
pub refused_is : (p q : Page) (n m : ℕ) → q ≡ written_all (refused_line n) p → n ≡ m → q ≡ written_all (refused_line m) p
refused_is p q n m e f = e ∙ ap (λ (k : ℕ). written_all (refused_line k) p) f

-- ---- how long a line is: numbers of 64 bits have at most 20 digits, or 16 in hex

abbrev pub Short : ℕ → Type 0
Short n = n < 18446744073709551616

pub decimal_short : (n : ℕ) → Short n → length (decimal n) ≤ 20
decimal_short n h = length_below 10 (omega arith) 19 n (omega arith)

pub hex_short : (n : ℕ) → Short n → length (hex n) ≤ 16
hex_short n h = length_below 16 (omega arith) 15 n (omega arith)

-- no line without a checksum is longer
abbrev pub short_line : ℕ
short_line = 256

pub short_fits : {n : ℕ} → n ≤ short_line → n ≤ longest_line
short_fits h = omega arith

pub head_fits : (len : ℕ) → Short len → length (joined (head_line len)) ≤ short_line
unfolding ascii
head_fits len h = simp length-append (omega (arith, decimal_short len h))

pub sub_fits : (kind len : ℕ) → Short kind → Short len → length (joined (sub_line kind len)) ≤ short_line
unfolding ascii
sub_fits kind len h g = simp length-append (omega (arith, hex_short kind h, decimal_short len g))

word_short : (k : ℕ) → length (checksum_word k) ≤ 6
unfolding ascii
word_short zero = omega arith
word_short (suc zero) = omega arith
word_short (suc (suc zero)) = omega arith
word_short (suc (suc (suc zero))) = omega arith
word_short (suc (suc (suc (suc k)))) = omega arith

bytes_short : (bytes : List ℕ) → length bytes ≤ 255 → length (bytes_text bytes) ≤ 510
unfolding bytes_text ascii
bytes_short bytes h =
    by_cases (λ (x : List ℕ). length x ≤ 510) (eqb (length bytes) 0) (λ e. omega arith) (λ e. omega (arith, hex_length bytes))

-- what stands in a file's line before its checksum
abbrev pub file_head : ℕ → ℕ → ℕ → Pieces
file_head index name kind =
    ascii "file " ∷ decimal index ∷ ascii " name " ∷ decimal name ∷ ascii " " ∷ checksum_word kind ∷ ascii " " ∷ []

pub file_head_fits : (index name kind : ℕ) → Short index → Short name → length (joined (file_head index name kind)) ≤ short_line
unfolding ascii
file_head_fits index name kind h g = simp length-append (omega (arith, decimal_short index h, decimal_short name g, word_short kind))

pub file_fits : (index name kind : ℕ) (bytes : List ℕ) → Short index → Short name → length bytes ≤ 255
    → length (joined (file_line index name kind bytes)) ≤ longest_line
unfolding ascii
file_fits index name kind bytes h g l =
    simp length-append (omega (arith, decimal_short index h, decimal_short name g, word_short kind, bytes_short bytes l))

pub end_fits : length (joined end_of_text) ≤ short_line
unfolding ascii
end_fits = omega arith

number_short : (w : Refusal) → Short (number_of (told w))
number_short why.Cut = omega arith
number_short (why.UnknownKind kind) = omega arith
number_short (why.UnknownChecksumKind kind) = omega arith
number_short why.ExportLength = omega arith
number_short (why.NotACrossModuleRef index) = omega arith
number_short (why.CrossModuleRefNotFound index) = omega arith
number_short why.BlockSize = omega arith
number_short why.OffsetTooLarge = omega arith
number_short why.UnsortedExports = omega arith
number_short why.NoRoom = omega arith
number_short why.TooLong = omega arith
number_short why.OldFormat = omega arith
number_short why.NoStringTable = omega arith
number_short why.HashVersion = omega arith
number_short why.ModuleSizes = omega arith
number_short why.WrongPlace = omega arith
number_short why.NotPlain = omega arith
number_short (why.NoFile index) = omega arith
number_short why.WrongSlot = omega arith

pub refused_fits : (w : Refusal) → length (joined (refused_line (number_of (told w)))) ≤ short_line
unfolding ascii
refused_fits w = simp length-append (omega (arith, decimal_short (number_of (told w)) (number_short w)))

-- ---- a line that was made at the start of a line of its own, y; `made` is the place behind it

module _ (x : Pieces) (y : List ℕ) (made : Next) (fits : length (joined x) ≤ short_line)
    (e : page y made ≡ written_all x (page (replicate short_line 0) (at 0))) where
  pub made_is : (made ≡ at (length (joined x))) × (take (length (joined x)) y ≡ joined x)
  made_is = pieces_stand x (replicate short_line 0) y made (omega (arith, length-replicate {A = ℕ} short_line 0)) e

  pub made_size : (n : ℕ) → made ≡ at n → n ≡ length (joined x)
  made_size n h = let m = made_is.0 in cc

  pub made_within : (n : ℕ) → made ≡ at n → n ≤ length y
  made_within n h = omega (arith, made_size n h, length-take (length (joined x)) y, ap length made_is.1)

  pub made_line : (n : ℕ) → made ≡ at n → take n y ≡ joined x
  made_line n h = ap (λ (k : ℕ). take k y) (made_size n h) ∙ made_is.1

  -- q is the page p with the line put
  pub line_put : (p q : Page) → ((n : ℕ) → made ≡ at n → q ≡ piece_written (take n y) p) → q ≡ piece_written (joined x) p
  line_put p q f = f (length (joined x)) made_is.0 ∙ ap (λ (xs : List ℕ). piece_written xs p) made_is.1

-- what stands around a file's checksum, with it
pub around_size : (head bytes : List ℕ) → length head + (text_size (length bytes) + 1) ≡ length (joined (head ∷ bytes_text bytes ∷ ascii "\n" ∷ []))
unfolding ascii
around_size head bytes = simp length-append (omega (arith, text_size_lem bytes))

pub file_parts : (index name kind : ℕ) (head bytes : List ℕ) → head ≡ joined (file_head index name kind)
    → joined (head ∷ bytes_text bytes ∷ ascii "\n" ∷ []) ≡ joined (file_line index name kind bytes)
file_parts index name kind head bytes e =
    ap (λ (l : List ℕ). l ++ joined (bytes_text bytes ∷ ascii "\n" ∷ [])) e
    ∙ sym (joined_append (file_head index name kind) (bytes_text bytes ∷ ascii "\n" ∷ []))

-- ---- the lines of document 01's example

pub example : (joined (head_line 80) ≡ ascii "c13 80 bytes\n")
    × (joined (sub_line FILE_CHECKSUMS 24) ≡ ascii "sub f4 24\n")
    × (joined (file_line 0 1 1 (0 ∷ 1 ∷ 2 ∷ 3 ∷ 4 ∷ 5 ∷ 6 ∷ 7 ∷ 8 ∷ 9 ∷ 10 ∷ 11 ∷ 12 ∷ 13 ∷ 14 ∷ 15 ∷ []))
    ≡ ascii "file 0 name 1 md5 000102030405060708090a0b0c0d0e0f\n")
    × (joined (file_line 24 1 0 []) ≡ ascii "file 24 name 1 none -\n")
    × (joined end_of_text ≡ ascii "end\n")
    × (joined (refused_line 11) ≡ ascii "refused 11\n")
unfolding ascii numeral numeral_in glyph hex_bytes bytes_text
example = (refl, refl, refl, refl, refl, refl)
