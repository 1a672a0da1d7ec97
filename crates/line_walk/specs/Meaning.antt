-- What the line walk means: the line bodies that the list names, one after the other, as events; and the records that these events settle, their end lines by
-- the one reading that the caller names. There is no state in it, and no place but where each body starts, which its records are given. Source: document 01,
-- "Line subsections", amended by [9]: each record has the position of its subsection's body; markers give no record but use up their column entry; one record
-- is held back until its end is known; the ends are the next non-marker line's offset, then section offset plus code size when a subsection's blocks are done,
-- this also when a later subsection had no line; 8 at a subsection's end only if a record is held.
-- Definitions only; a reader must believe them.
use Rattle.std.specs.Prelude.{ℕ, ◌+◌, List, [], ◌∷◌, cond, length, drop, ltb}
use Rattle.walk.specs.Listing.{Listing, more, ends, fails, before, Reply, gave, nothing, refused}
use Rattle.refusal.specs.Told.{Told, told}
use Rattle.refusal.specs.declared.Refusal.TheVariants as why
use Rattle.kinds.specs.Kind.{Sort}
use Rattle.body.specs.Lines.{LineHead, line_head_size, line_head, columned, Block, blocks}
use Rattle.line_record.specs.Record.{max_offset, head_source, entry_of, closed_at}
use Rattle.line_record.specs.declared.EndLines.{EndLines}
use Rattle.line_record.specs.declared.LineRecord.{LineRecord}
use Rattle.line_record.specs.declared.LineSource.{LineSource}
use Rattle.lines.specs.Lines.{Body}
use Rattle.lines.specs.Slots.{list_of}
use Rattle.order.specs.Order.{in_order}

-- ---- events: a line, with its record, whose length is unset; or the end of the blocks of a subsection with this header

pub data Event : Type 0 where
  line : LineRecord → Event
  done : LineHead → Event

abbrev pub Events : Type 0
Events = Listing Event Told

-- an entry, and then l: a marker gives nothing, a refusal ends the events
abbrev pub entry_then : Reply LineRecord Told → Events → Events
entry_then (gave r) l = more (line r) l
entry_then nothing l = l
entry_then (refused t) l = fails t

abbrev pub behind : List ℕ → List ℕ
behind [] = []
behind (w ∷ ws) = ws

-- the lines of a block, offset and flags of each, with a column word for each if there are columns; and then l
unfoldable pub lines_then : LineSource → List ℕ → List ℕ → Events → Events
lines_then source (offset ∷ flags ∷ ws) cs l = entry_then (entry_of source offset flags cs) (lines_then source ws (behind cs) l)
lines_then source (offset ∷ []) cs l = l
lines_then source [] cs l = l

-- the blocks of a subsection whose body starts at a, its end, and then l
unfoldable pub blocks_then : EndLines → ℕ → LineHead → Listing Block Told → Events → Events
blocks_then how a h (more k ks) l = lines_then (head_source how a h k.file) k.lines k.columns (blocks_then how a h ks l)
blocks_then how a h ends l = more (done h) l
blocks_then how a h (fails t) l = fails t

-- a line body, and then l
unfoldable pub body_then : EndLines → Body → Events → Events
body_then how b l =
    cond (ltb (length b.bytes) line_head_size) (fails (told why.Cut))
    (blocks_then how b.start (line_head b.bytes) (blocks (columned (line_head b.bytes).flags) (drop line_head_size b.bytes)) l)

unfoldable pub events_of : EndLines → Listing Body Told → Events
events_of how (more b l) = body_then how b (events_of how l)
events_of how ends = ends
events_of how (fails t) = fails t

-- ---- records

abbrev pub Records : Type 0
Records = Listing LineRecord Told

-- the records of events, the record o being held back until its end is known
unfoldable pub settle_one : LineRecord → Events → Records
settle_one o (more (line r) l) = more (closed_at r.section r.offset o) (settle_one r l)
settle_one o (more (done h) l) =
    cond (ltb max_offset (h.offset + h.code)) (fails (told why.OffsetTooLarge)) (settle_one (closed_at h.section (h.offset + h.code) o) l)
settle_one o ends = more o ends
settle_one o (fails t) = fails t

-- the records of events where no record is held back yet
unfoldable pub settle : Events → Records
settle (more (line r) l) = settle_one r l
settle (more (done h) l) = settle l
settle ends = ends
settle (fails t) = fails t

-- THE RECORDS of an area s and a list v
abbrev pub records_of : EndLines → (ℕ → Sort) → List ℕ → List ℕ → Records
records_of how rule s v = settle (events_of how (list_of rule s v))

-- THE RECORDS of an area alone: of its line bodies in ascending (section, offset), equal keys in area order
abbrev pub area_records : EndLines → (ℕ → Sort) → List ℕ → Records
area_records how rule s = settle (events_of how (before (in_order rule s) ends))
