-- One step of the full reading, from any state. Source: document 01, "Writer and plain areas" and "Area and subsections": refusals come in the
-- order of the bytes, 11 first; a body is read before the next header is; an ignored subsection gives nothing.
-- Definitions only; `walk_reads` (reading_walk ReadingLaws) says what they mean.
use Rattle.std.specs.Prelude.{ℕ, ◌+◌, ◌%◌, List, cond, length, take, drop, ltb, eqb}
use Rattle.word.specs.Word.{u32_at}
use Rattle.walk.specs.Listing.{Answer, gives, none, refuses, Reply, gave, nothing, refused}
use Rattle.refusal.specs.Told.{Told, told}
use Rattle.refusal.specs.declared.Refusal.TheVariants as why
use Rattle.kinds.specs.Kind.{LINES, FILE_CHECKSUMS, INLINEE_LINES, CROSS_SCOPE_IMPORTS, CROSS_SCOPE_EXPORTS, Sort}
use Rattle.area.specs.Subs.{Sub, step_at}
use Rattle.table.specs.Table.{Place, spot_in}
use Rattle.body.specs.Lines.{line_head_size, line_head}
use Rattle.reading_record.specs.Item.{ToldItem, open_lines, open_checksums, open_inlinees, open_imports, open_exports, opaque}
use Rattle.reading_record.specs.Record.{ItemAnswer, record_at}
use Rattle.reading_record.specs.declared.ItemWalk.{ItemWalk}
use Rattle.reading_record.specs.declared.ItemWalk.TheVariants as walk
use Rattle.reading_record.specs.declared.TypedBody.{TypedBody}
use Rattle.reading_record.specs.declared.TypedBody.TheVariants as typed

-- what opens a body b that starts at a place of the area
unfoldable pub lines_opened : List ℕ → ℕ → ItemAnswer
lines_opened b start =
    cond (ltb (length b) line_head_size) (refuses (told why.Cut))
    (gives (open_lines (line_head b)) (walk.In typed.Lines start (length b) line_head_size))

unfoldable pub inlinees_opened : List ℕ → ℕ → ItemAnswer
inlinees_opened b start =
    cond (ltb (length b) 4) (refuses (told why.Cut))
    (gives (open_inlinees (u32_at b 0)) (walk.In typed.Inlinees start (length b) 4))

unfoldable pub exports_opened : List ℕ → ℕ → ItemAnswer
exports_opened b start =
    cond (eqb (length b % 8) 0) (gives open_exports (walk.In typed.Exports start (length b) 0)) (refuses (told why.ExportLength))

-- what opens a known subsection; behind it is `end`
unfoldable pub opened : List ℕ → ℕ → ℕ → ℕ → ItemAnswer
opened b kind start end =
    cond (eqb kind LINES) (lines_opened b start)
    (cond (eqb kind FILE_CHECKSUMS) (gives open_checksums (walk.In typed.Checksums start (length b) 0))
    (cond (eqb kind INLINEE_LINES) (inlinees_opened b start)
    (cond (eqb kind CROSS_SCOPE_IMPORTS) (gives open_imports (walk.In typed.Imports start (length b) 0))
    (cond (eqb kind CROSS_SCOPE_EXPORTS) (exports_opened b start)
    (gives (opaque kind start (length b)) (walk.Between end))))))

-- what opens the next one
abbrev pub open_sub : List ℕ → Answer ℕ Sub Told → ItemAnswer
open_sub s (gives b end) = opened (take b.len (drop b.start s)) b.kind b.start end
open_sub s none = none
open_sub s (refuses t) = refuses t

abbrev pub open_step : (ℕ → Sort) → List ℕ → ℕ → ItemAnswer
open_step rule s p = open_sub s (step_at rule s p)

-- the record a that was found in a body, or behind the last one what opens the next subsection
abbrev pub or_open : (ℕ → Sort) → List ℕ → TypedBody → ℕ → ℕ → Answer ℕ ToldItem Told → ItemAnswer
or_open rule s k start len (gives i x) = gives i (walk.In k start len x)
or_open rule s k start len none = open_step rule s (start + len)
or_open rule s k start len (refuses t) = refuses t

unfoldable pub record_step : (ℕ → Sort) → List ℕ → TypedBody → ℕ → ℕ → ℕ → ItemAnswer
record_step rule s k start len at = or_open rule s k start len (record_at k (take len (drop start s)) start at)

-- in a body that lies in the area
abbrev pub in_body : (ℕ → Sort) → List ℕ → TypedBody → Reply Place Told → ItemAnswer
in_body rule s k (gave q) = record_step rule s k q.start q.len q.at
in_body rule s k nothing = none
in_body rule s k (refused t) = refuses t

-- THE STEP from any state
abbrev pub item_step : (ℕ → Sort) → List ℕ → ItemWalk → ItemAnswer
item_step rule s (walk.Between p) = open_step rule s p
item_step rule s (walk.In k start len at) = in_body rule s k (spot_in s start len at)
