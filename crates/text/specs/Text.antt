-- Numbers and bytes as text, and text put into a lent buffer. Source: document 01, "Sheet lines to try": kinds, offsets and checksum bytes in hex,
-- other numbers in decimal; "Refusal numbers": 10 for a lent room that is too small, which then stays as found. Text is the list of its ASCII codes.
-- Definitions only; a reader must believe them, but for `Next` to `piece_written`: contracts of inner calls alone cite these.
use Rattle.std.specs.Prelude.{ℕ, zero, suc, ◌+◌, ◌/◌, ◌%◌, List, [], ◌∷◌, ◌++◌, cond, length, ltb, leb}
use Prim.Native.Char.{code}
use Prim.Native.String.{String}
use Prim.Native.String as string
use Rattle.word.specs.Word.{put}
use Rattle.refusal.specs.Told.{Told, told}
use Rattle.refusal.specs.declared.Refusal.TheVariants as why

-- the codes of a text
unfoldable pub ascii : String → List ℕ
ascii string.[] = []
ascii (string.◌∷◌ c s) = code c ∷ ascii s

-- ---- numbers

-- a digit: 0 to 9, then a to f
unfoldable pub glyph : ℕ → ℕ
glyph d = cond (ltb d 10) (48 + d) (87 + d)

-- the digits of n in base b, no zero in front; at most k of them stand before the last (`numeral_one` and `numeral_more` of TextLaws have no such number)
unfoldable pub numeral_in : ℕ → ℕ → ℕ → List ℕ
numeral_in b zero n = glyph n ∷ []
numeral_in b (suc k) n =
    let longer = numeral_in b k (n / b) ++ (glyph (n % b) ∷ []) in
    cond (ltb n b) (glyph n ∷ []) longer

unfoldable pub numeral : ℕ → ℕ → List ℕ
numeral b n = numeral_in b n n

abbrev pub decimal : ℕ → List ℕ
decimal = numeral 10

abbrev pub hex : ℕ → List ℕ
hex = numeral 16

-- ---- bytes, two digits each

abbrev pub hex_byte : ℕ → List ℕ
hex_byte b = glyph (b / 16) ∷ glyph (b % 16) ∷ []

unfoldable pub hex_bytes : List ℕ → List ℕ
hex_bytes [] = []
hex_bytes (b ∷ bs) = hex_byte b ++ hex_bytes bs

-- ---- a page: what the buffer holds, and where the next piece goes

pub data Next : Type 0 where
  at : ℕ → Next
  stopped : Told → Next

pub record Page : Type 0 where
  pub bytes : List ℕ
  pub next : Next

abbrev pub page : List ℕ → Next → Page
page b x = record { bytes = b; next = x }

-- the place, if n bytes fit there
unfoldable pub room_at : ℕ → ℕ → Next → Next
room_at len n (at p) = cond (leb (p + n) len) (at p) (stopped (told why.NoRoom))
room_at len n (stopped t) = stopped t

abbrev pub put_at : List ℕ → List ℕ → Next → Page
put_at xs b (at p) = page (put b p xs) (at (p + length xs))
put_at xs b (stopped t) = page b (stopped t)

-- a piece xs, put: whole where it fits, else nothing, and then nothing more is put
unfoldable pub piece_written : List ℕ → Page → Page
piece_written xs q = put_at xs q.bytes (room_at (length q.bytes) (length xs) q.next)

-- the text that pieces make, one behind the other
abbrev pub joined : List (List ℕ) → List ℕ
joined [] = []
joined (xs ∷ xss) = xs ++ joined xss
