-- The record at a place of a typed body, as an item; places count from the area's start, where the body stands. Each body is read by the step
-- of its own crate. Source: document 01, "Writer and plain areas": each typed body raw, so that a checksum of kind 0 has its bytes here.
-- Definitions only; `walk_reads` (reading_walk ReadingLaws) says what they mean.
use Rattle.std.specs.Prelude.{ℕ, ◌+◌, ◌-◌, ◌*◌, List, Bool, true, false, take, drop, get_or}
use Rattle.walk.specs.Listing.{Answer, gives, none, refuses, Reply, gave, nothing, refused}
use Rattle.refusal.specs.Told.{Told}
use Rattle.table.specs.Table.{Place}
use Rattle.body.specs.Lines.{line_head, columned}
use Rattle.lines.specs.Blocks.{LineBlock, block_at}
use Rattle.checksums.specs.Entry.{Entry, entry_at}
use Rattle.inlinees.specs.Inlinees.{SourceLine, source_line_at}
use Rattle.imports.specs.Imports.{ModuleAt, module_at}
use Rattle.exports.specs.Exports.{pair_at}
use Rattle.reading_record.specs.Item.{ToldColumns, columns_at, no_columns, ToldItem, block, checksum, inlinee, imports, exports}
use Rattle.reading_record.specs.declared.ItemWalk.{ItemWalk}
use Rattle.reading_record.specs.declared.ItemWalk.TheVariants as walk
use Rattle.reading_record.specs.declared.TypedBody.{TypedBody}
use Rattle.reading_record.specs.declared.TypedBody.TheVariants as typed

abbrev pub ItemAnswer : Type 0
ItemAnswer = Answer ItemWalk ToldItem Told

-- an answer's record as an item
abbrev pub as_item : {B : Type 0} → (B → ToldItem) → Answer ℕ B Told → Answer ℕ ToldItem Told
as_item f (gives r x) = gives (f r) x
as_item f none = none
as_item f (refuses t) = refuses t

-- whether the blocks of the line body b have columns
abbrev pub with_columns : List ℕ → Bool
with_columns b = columned (line_head b).flags

abbrev pub columns_from : Bool → ℕ → ToldColumns
columns_from true p = columns_at p
columns_from false p = no_columns

-- a block of it: its columns stand behind its lines
abbrev pub block_item : List ℕ → ℕ → LineBlock → ToldItem
block_item b start k = block k.file k.count (start + k.start) (columns_from (with_columns b) (start + k.start + 8 * k.count))

-- an entry of the checksum body b: its size stands two bytes before its bytes, also of one of kind 0
abbrev pub checksum_item : List ℕ → ℕ → Entry → ToldItem
checksum_item b start e = checksum e.name e.kind (start + e.start) (get_or b (e.start - 2) 0)

abbrev pub inlinee_item : ℕ → SourceLine → ToldItem
inlinee_item start e = inlinee e.inlinee e.file e.line (start + e.extra) e.count

abbrev pub module_item : ℕ → ModuleAt → ToldItem
module_item start m = imports m.name (start + m.words) m.count

-- THE RECORD at a place of the body b, which stands at start
abbrev pub record_at : TypedBody → List ℕ → ℕ → ℕ → Answer ℕ ToldItem Told
record_at typed.Lines b start at = as_item (block_item b start) (block_at (with_columns b) b at)
record_at typed.Checksums b start at = as_item (checksum_item b start) (entry_at b at)
record_at typed.Inlinees b start at = as_item (inlinee_item start) (source_line_at b at)
record_at typed.Imports b start at = as_item (module_item start) (module_at b at)
record_at typed.Exports b start at = as_item exports (pair_at b at)

-- and the walk behind it, in the body of len bytes at start
abbrev pub in_walk : TypedBody → ℕ → ℕ → Answer ℕ ToldItem Told → ItemAnswer
in_walk k start len (gives i x) = gives i (walk.In k start len x)
in_walk k start len none = none
in_walk k start len (refuses t) = refuses t

-- in a body of the area s that is held against it
abbrev pub record_in_body : List ℕ → TypedBody → Reply Place Told → ItemAnswer
record_in_body s k (gave q) = in_walk k q.start q.len (record_at k (take q.len (drop q.start s)) q.start q.at)
record_in_body s k nothing = none
record_in_body s k (refused t) = refuses t
