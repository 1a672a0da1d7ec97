-- A line record in words, and a state of the line walk: its tag (0 new, 1 between two subsections, 2 inside one); the next slot, how many subsections are left,
-- how far the area has been searched, 1 and the record held back or 0; and of the place the header's four fields, where its body starts and ends, the next
-- block, the file, the lines left, the next line and the next column. Where a state lacks a part its words are 0. The last word of a state is its reading of
-- end lines: 0 the crate's, 1 the low bits, 2 the delta.
-- Read back, a word too large for its field counts modulo the field's size, and a tag above the last is the last. But a word that names no reading is no
-- reading, and its state no walk.
-- Source: docs/DECISIONS.md, 32, 59, 61 and 62.
-- Definitions only; a reader must believe them, but for `u16_of` to `line_walk_in`, `no_record` to `line_walk_words`: `walk_begins`, `walk_none`,
-- `state_read` (line_state_words ReadBackLaws) say what these mean.
use Rattle.std.specs.Prelude.{ℕ, ◌+◌, ◌%◌, List, [], ◌∷◌, ◌++◌, cond, get_or, replicate, eqb, Option, None, Some}
use Rattle.std.proofs.Math.Option.{none, some}
use Rattle.std.proofs.Math.Option as option
use Rattle.line_record.specs.Told.{told_length, told_column, told_line_kind}
use Rattle.line_record.specs.declared.EndLines.{EndLines}
use Rattle.line_record.specs.declared.EndLines.TheVariants.{Crate, LowBits, Delta}
use Rattle.line_record.specs.declared.LineKind.{LineKind}
use Rattle.line_record.specs.declared.LineKind.TheVariants as kind
use Rattle.line_record.specs.declared.LineRecord.{LineRecord}
use Rattle.lines.specs.declared.LineHeader.{LineHeader}
use Rattle.line_step.specs.declared.Rest.{Rest}
use Rattle.line_step.specs.declared.Place.{Place}
use Rattle.line_step.specs.declared.LineWalk.{LineWalk}
use Rattle.line_step.specs.declared.LineWalk.TheVariants as walk

-- ---- how many words

abbrev pub record_size : ℕ
record_size = 13

-- where in a state it says whether a record is held back; that record stands behind the word
abbrev pub held_at : ℕ
held_at = 4

-- a state without its place, which stands behind the rest
abbrev pub rest_size : ℕ
rest_size = held_at + 1 + record_size

abbrev pub place_size : ℕ
place_size = 11

-- where it says how end lines are read, behind these
abbrev pub how_at : ℕ
how_at = rest_size + place_size

abbrev pub state_size : ℕ
state_size = how_at + 1

-- ---- a reading of end lines

abbrev pub how_word : EndLines → ℕ
how_word Crate = 0
how_word LowBits = 1
how_word Delta = 2

-- the reading that a number names; any other number names none
unfoldable pub how_named : ℕ → option.Option EndLines
how_named n = cond (eqb n 0) (some Crate) (cond (eqb n 1) (some LowBits) (cond (eqb n 2) (some Delta) none))

-- ---- a record

-- a number that may be missing: 0 and 0 without it, else 1 and the number
abbrev pub option_words : option.Option ℕ → List ℕ
option_words none = 0 ∷ 0 ∷ []
option_words (some n) = 1 ∷ n ∷ []

abbrev pub record_words : LineRecord → List ℕ
record_words r =
    r.section
    ∷ r.offset
    ∷ (option_words (told_length r.length)
    ++ (r.file
    ∷ r.start_line
    ∷ r.end_line
    ∷ (option_words (told_column r.column_start) ++ (option_words (told_column r.column_end) ++ (told_line_kind r.kind ∷ r.body ∷ [])))))

-- ---- read back

abbrev pub u16_of : ℕ → ℕ
u16_of x = x % 0x1_0000

abbrev pub u32_of : ℕ → ℕ
u32_of x = x % 0x1_0000_0000

abbrev pub length_of : ℕ → ℕ → Option ℕ
length_of t n = cond (eqb t 0) None (Some (u32_of n))

abbrev pub column_of : ℕ → ℕ → Option ℕ
column_of t n = cond (eqb t 0) None (Some (u32_of n))

abbrev pub kind_in : ℕ → LineKind
kind_in t = cond (eqb t 0) kind.Expression kind.Statement

-- the record that is held back
abbrev pub record_in : List ℕ → LineRecord
record_in o =
    record {
      section = u16_of (get_or o 5 0);
      offset = u32_of (get_or o 6 0);
      length = length_of (get_or o 7 0) (get_or o 8 0);
      file = u32_of (get_or o 9 0);
      start_line = u32_of (get_or o 10 0);
      end_line = u32_of (get_or o 11 0);
      column_start = column_of (get_or o 12 0) (get_or o 13 0);
      column_end = column_of (get_or o 14 0) (get_or o 15 0);
      kind = kind_in (get_or o 16 0);
      body = u32_of (get_or o 17 0);
    }

unfoldable pub held_in : List ℕ → Option LineRecord
held_in o = cond (eqb (get_or o held_at 0) 0) None (Some (record_in o))

abbrev pub rest_in : List ℕ → Rest
rest_in o = record { slot = get_or o 1 0; left = get_or o 2 0; scan = get_or o 3 0; held = held_in o }

abbrev pub head_in : List ℕ → LineHeader
head_in o = record { offset = u32_of (get_or o 18 0); section = u16_of (get_or o 19 0); flags = u16_of (get_or o 20 0); code = u32_of (get_or o 21 0) }

abbrev pub place_in : EndLines → List ℕ → Place
place_in how o =
    record {
      head = head_in o;
      how = how;
      body = get_or o 22 0;
      end = get_or o 23 0;
      next = get_or o 24 0;
      file = u32_of (get_or o 25 0);
      lines = get_or o 26 0;
      line = get_or o 27 0;
      column = get_or o 28 0;
    }

unfoldable pub walk_by : EndLines → List ℕ → LineWalk
walk_by how o =
    cond (eqb (get_or o 0 0) 0) (walk.New how)
    (cond (eqb (get_or o 0 0) 1) (walk.Between how (rest_in o))
    (walk.Inside (place_in how o) (rest_in o)))

abbrev pub walk_if : List ℕ → option.Option EndLines → option.Option LineWalk
walk_if o none = none
walk_if o (some how) = some (walk_by how o)

abbrev pub line_walk_in : List ℕ → option.Option LineWalk
line_walk_in o = walk_if o (how_named (get_or o how_at 0))

-- ---- put

abbrev no_record : List ℕ
no_record = replicate record_size 0

abbrev pub held_words : Option LineRecord → List ℕ
held_words None = 0 ∷ no_record
held_words (Some r) = 1 ∷ record_words r

abbrev pub rest_words : Rest → List ℕ
rest_words t = t.slot ∷ t.left ∷ t.scan ∷ held_words t.held

abbrev pub place_words : Place → List ℕ
place_words p =
    p.head.offset
    ∷ p.head.section
    ∷ p.head.flags
    ∷ p.head.code
    ∷ p.body
    ∷ p.end
    ∷ p.next
    ∷ p.file
    ∷ p.lines
    ∷ p.line
    ∷ p.column
    ∷ []

abbrev pub no_place : List ℕ
no_place = replicate place_size 0

abbrev pub part_words : LineWalk → List ℕ
part_words (walk.New how) = replicate how_at 0
part_words (walk.Between how t) = 1 ∷ (rest_words t ++ no_place)
part_words (walk.Inside p t) = 2 ∷ (rest_words t ++ place_words p)

-- how a walk reads end lines
abbrev pub walk_how : LineWalk → EndLines
walk_how (walk.New how) = how
walk_how (walk.Between how t) = how
walk_how (walk.Inside p t) = p.how

abbrev pub line_walk_words : LineWalk → List ℕ
line_walk_words w = part_words w ++ (how_word (walk_how w) ∷ [])

-- a step: the next state, and the record
abbrev pub line_words : LineRecord → LineWalk → List ℕ
line_words r w = line_walk_words w ++ record_words r
