-- The files of an area: the entries of its last checksum subsection. Source: document 01, "Area and subsections" (files come from the last
-- checksum subsection of the whole area, after the line list's tests but 10), "Checksums, inlinees" (a file index is a byte offset into the body:
-- beyond it 1, at its end 18), "What must change shape" (kind, start and length, with one call that hands back the bytes) and number 11;
-- docs/DECISIONS.md: without a checksum subsection the body is empty.
-- Definitions only; a reader must believe them, but for `file_step`: `files_walk` (files FilesLaws) says what it means.
use Rattle.std.specs.Prelude.{ℕ, ◌+◌, ◌-◌, List, cond, length, ltb}
use Rattle.walk.specs.Listing.{Listing, Answer, gives, none, refuses, Reply, gave, nothing, refused}
use Rattle.walk.specs.Pick.{map_reply, on_gave}
use Rattle.refusal.specs.Told.{Told, told, longest}
use Rattle.refusal.specs.declared.Refusal.TheVariants as why
use Rattle.kinds.specs.Kind.{FILE_CHECKSUMS, Sort}
use Rattle.find.specs.Find.{same, Span, last_sub, bytes_at, held_span}
use Rattle.table.specs.Table.{Place, spot_in, table_step, table_of}
use Rattle.table.specs.declared.TableWalk.{TableWalk}
use Rattle.body.specs.Checksums.{Checksum}
use Rattle.checksums.specs.Entry.{Entry, entry_at, entries_from}
use Rattle.lines.specs.Lines.{count_lines}

-- a file of a walk: its index, and its entry, whose bytes are told by their place in the area
pub record File : Type 0 where
  pub index : ℕ
  pub info : Entry

-- an entry of the body at start, the place of its bytes counted from the area's start
abbrev pub entry_moved : ℕ → Entry → Entry
entry_moved start e = record { name = e.name; kind = e.kind; start = start + e.start; len = e.len }

-- its place in the body, 6 before its bytes, is the index
abbrev pub file_of : ℕ → Entry → File
file_of start e = record { index = e.start - 6; info = entry_moved start e }

-- the checksum body, if the tests over the area that come before it pass
unfoldable pub files_sub : (ℕ → Sort) → List ℕ → Reply Span Told
files_sub rule s = on_gave (λ (n : ℕ). last_sub rule FILE_CHECKSUMS s) (count_lines rule s)

-- one step of a walk over the files of an area
unfoldable pub file_step : (ℕ → Sort) → List ℕ → TableWalk → Answer TableWalk File Told
file_step rule s = table_step entry_at file_of (files_sub rule s) s

-- THE FILES of an area
abbrev pub files_in : (ℕ → Sort) → List ℕ → Listing File Told
files_in rule s = table_of (λ (b : List ℕ). entries_from b 0) file_of s (files_sub rule s)

-- what stands at index i of a body
abbrev pub at_index : ℕ → Answer ℕ Entry Told → Reply Entry Told
at_index i (gives e x) = gave e
at_index i none = refused (told (why.NoFile i))
at_index i (refuses t) = refused t

-- THE FILE at an index of a checksum body that is lent alone: its entry, whose bytes are told by their place in the body
unfoldable pub file_in : List ℕ → ℕ → Reply Entry Told
file_in b i = cond (ltb longest (length b)) (refused (told why.TooLong)) (at_index i (entry_at b i))

-- the part of the area that is its checksum body: without one it is empty
abbrev pub or_empty : Reply Span Told → Reply Span Told
or_empty (gave a) = gave a
or_empty nothing = gave (record { start = 0; len = 0 })
or_empty (refused t) = refused t

unfoldable pub checksum_part : (ℕ → Sort) → List ℕ → Reply Span Told
checksum_part rule s = or_empty (files_sub rule s)

-- THE FILE at an index of the body that is a part of an area, the place of its bytes counted from the area's start
abbrev pub file_in_part : List ℕ → ℕ → Reply Span Told → Reply Entry Told
file_in_part s i (gave a) = map_reply (entry_moved a.start) same (file_in (bytes_at s a) i)
file_in_part s i nothing = nothing
file_in_part s i (refused t) = refused t

unfoldable pub file_at : (ℕ → Sort) → List ℕ → ℕ → Reply Entry Told
file_at rule s i = file_in_part s i (checksum_part rule s)

-- a part of the area that is asked for: what does not lie in it, and every part of an area that is too long, is the empty one at its start
abbrev pub held : Reply Place Told → Span
held x = held_span (map_reply (λ (q : Place). record { start = q.start; len = q.len }) same x)

unfoldable pub part_of : List ℕ → ℕ → ℕ → Span
part_of s start len = held (spot_in s start len 0)

-- a file with its checksum's bytes in place of where they stand
abbrev pub file_spelt : List ℕ → File → Checksum
file_spelt s f = record { name = f.info.name; kind = f.info.kind; bytes = bytes_at s (part_of s f.info.start f.info.len) }
