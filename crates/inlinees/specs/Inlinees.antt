-- The inlinees as calls answer them: an entry, and where its extra files stand. Source: cvinfo.h, `CV_INLINEE_SOURCE_LINE_SIGNATURE`,
-- `InlineeSourceLine` and `InlineeSourceLineEx`, whose bytes crate `body` reads (`inlinee_bite`); document 01, "Checksums, inlinees": signature
-- u32, absent 1, then the entries; "Area and subsections": inlinees come from the first subsection of their kind; "a place past the lent bytes
-- is 1".
-- Definitions only; a reader must believe them, but for `head_size` to `inlinees_in`: `inlinees_walk`, `inlinees_mean` (inlinees InlineesLaws) say what these
-- mean.
use Rattle.std.specs.Prelude.{ℕ, ◌+◌, ◌-◌, ◌*◌, List, Bool, true, false, cond, length, drop, ltb}
use Rattle.word.specs.Word.{u32_at}
use Rattle.walk.specs.Listing.{Move, item, pass, over, fail, Listing, fails, moved, all, Answer, gives, none, refuses}
use Rattle.refusal.specs.Told.{Told, told}
use Rattle.refusal.specs.declared.Refusal.TheVariants as why
use Rattle.kinds.specs.Kind.{INLINEE_LINES, Sort}
use Rattle.find.specs.Find.{first_sub}
use Rattle.table.specs.Table.{table_step, table_of}
use Rattle.table.specs.declared.TableWalk.{TableWalk}
use Rattle.body.specs.Words.{words_in}
use Rattle.body.specs.Inlinees.{Inlinee, extended, inlinee_bite, inlinees}

-- an entry as an answer tells it: its extra files are `count` words from the place `extra` on
pub record SourceLine : Type 0 where
  pub inlinee : ℕ
  pub file : ℕ
  pub line : ℕ
  pub extra : ℕ
  pub count : ℕ

-- the bytes of an entry before its extra files: inlinee, file and line, and the count if the entries are extended
abbrev pub head_size : Bool → ℕ
head_size false = 12
head_size true = 16

-- the front of the bytes at p, and the place behind it
abbrev pub inlinee_placed : Bool → ℕ → Move (List ℕ) Inlinee Told → Answer ℕ SourceLine Told
inlinee_placed x p (item e t) =
    gives (record { inlinee = e.inlinee; file = e.file; line = e.line; extra = p + head_size x; count = length e.extra })
    (p + head_size x + 4 * length e.extra)
inlinee_placed x p (pass t) = none
inlinee_placed x p over = none
inlinee_placed x p (fail r) = refuses r

-- the entries stand behind the signature: a place inside it is that of the first one
unfoldable pub entry_place : ℕ → ℕ
entry_place p = cond (ltb p 4) 4 p

-- the entry at place p of the body b
unfoldable pub source_line_at : List ℕ → ℕ → Answer ℕ SourceLine Told
source_line_at b p =
    cond (ltb (length b) 4) (refuses (told why.Cut))
    (cond (ltb (length b) (entry_place p)) (refuses (told why.Cut))
    (inlinee_placed (extended (u32_at b 0)) (entry_place p) (inlinee_bite (extended (u32_at b 0)) (drop (entry_place p) b))))

-- THE ENTRIES of a body from a place on
unfoldable pub source_lines_from : List ℕ → ℕ → Listing SourceLine Told
source_lines_from b = all (λ (p : ℕ). moved (source_line_at b p)) (λ (p : ℕ). length b - entry_place p)

-- an entry of the body at start, its extra files counted from the area's start
abbrev pub show : ℕ → SourceLine → SourceLine
show start e = record { inlinee = e.inlinee; file = e.file; line = e.line; extra = start + e.extra; count = e.count }

-- one step of a walk over the inlinees of an area
unfoldable pub inlinee_step : (ℕ → Sort) → List ℕ → TableWalk → Answer TableWalk SourceLine Told
inlinee_step rule s = table_step source_line_at show (first_sub rule INLINEE_LINES s) s

-- THE INLINEES of an area
abbrev pub inlinees_in : (ℕ → Sort) → List ℕ → Listing SourceLine Told
inlinees_in rule s = table_of (λ (b : List ℕ). source_lines_from b 0) show s (first_sub rule INLINEE_LINES s)

-- an entry with its extra files in place of where they stand in s
abbrev pub inlinee_spelt : List ℕ → SourceLine → Inlinee
inlinee_spelt s e = record { inlinee = e.inlinee; file = e.file; line = e.line; extra = words_in e.count (drop e.extra s) }

-- what the bytes of a body say: the signature, and the entries behind it
unfoldable pub inlinees_of : List ℕ → Listing Inlinee Told
inlinees_of b = cond (ltb (length b) 4) (fails (told why.Cut)) (inlinees (extended (u32_at b 0)) (drop 4 b))
