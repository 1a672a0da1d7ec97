-- An item of the full reading as an answer tells it: its numbers, and where its words or bytes stand in the area; and the item that it is.
-- Source: document 01, "Writer and plain areas" (the items are the calls of the writer) and "What must change shape" (kind, start and length).
-- Definitions only; a reader must believe them.
use Rattle.std.specs.Prelude.{ℕ, ◌*◌, List, [], take, drop}
use Rattle.body.specs.Words.{words_in}
use Rattle.body.specs.Lines.{LineHead}
use Rattle.body.specs.Exports.{Pair}
use Rattle.reading.specs.Reading.{Item}
use Rattle.reading.specs.Reading as reading

-- where the column words of a block start, if it has any
pub data ToldColumns : Type 0 where
  columns_at : ℕ → ToldColumns
  no_columns : ToldColumns

pub data ToldItem : Type 0 where
  open_lines : LineHead → ToldItem
  block : (file count lines : ℕ) → ToldColumns → ToldItem
  open_checksums : ToldItem
  checksum : (name kind start len : ℕ) → ToldItem
  open_inlinees : ℕ → ToldItem
  inlinee : (inlinee file line start count : ℕ) → ToldItem
  open_imports : ToldItem
  imports : (name start count : ℕ) → ToldItem
  open_exports : ToldItem
  exports : Pair → ToldItem
  opaque : (kind start len : ℕ) → ToldItem

-- n words at a place of the area, and n bytes
abbrev pub words_at : List ℕ → ℕ → ℕ → List ℕ
words_at s p n = words_in n (drop p s)

abbrev pub span_at : List ℕ → ℕ → ℕ → List ℕ
span_at s p n = take n (drop p s)

abbrev pub columns_in : List ℕ → ℕ → ToldColumns → List ℕ
columns_in s n (columns_at p) = words_at s p n
columns_in s n no_columns = []

-- the item that is told
abbrev pub item_of : List ℕ → ToldItem → Item
item_of s (open_lines h) = reading.open_lines h
item_of s (block file n lines c) = reading.block (record { file = file; lines = words_at s lines (2 * n); columns = columns_in s n c })
item_of s open_checksums = reading.open_checksums
item_of s (checksum name kind start len) = reading.checksum (record { name = name; kind = kind; bytes = span_at s start len })
item_of s (open_inlinees x) = reading.open_inlinees x
item_of s (inlinee i file line start n) = reading.inlinee (record { inlinee = i; file = file; line = line; extra = words_at s start n })
item_of s open_imports = reading.open_imports
item_of s (imports name start n) = reading.imports (record { name = name; words = words_at s start n })
item_of s open_exports = reading.open_exports
item_of s (exports p) = reading.exports p
item_of s (opaque kind start len) = reading.opaque kind (span_at s start len)
