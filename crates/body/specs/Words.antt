-- Runs of words of four bytes: as bytes spell them, and as bytes are made of them. Source: document 01, "Area and subsections": words are
-- little-endian.
-- Definitions only; a reader must believe them, but for `word_bytes`: `decided` (round_trip DecidedHolds) says what it means.
use Rattle.std.specs.Prelude.{ℕ, zero, suc, List, [], ◌∷◌, ◌++◌, drop}
use Rattle.word.specs.Word.{u32_at, le32}

-- the first n words of s
unfoldable pub words_in : ℕ → List ℕ → List ℕ
words_in zero s = []
words_in (suc n) s = u32_at s 0 ∷ words_in n (drop 4 s)

-- the bytes of words
unfoldable pub word_bytes : List ℕ → List ℕ
word_bytes [] = []
word_bytes (w ∷ ws) = le32 w ++ word_bytes ws
