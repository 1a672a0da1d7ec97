-- The line subsections of an area, after the tests over all of it, and a line body with its start. Source: cvinfo.h, `DEBUG_S_SUBSECTION_TYPE` (LINES
-- f2); document 01, "Line subsections": refusals 1 and 2 over the whole area in its order, a short line header giving 1 before what is behind it; slots
-- hold body positions.
-- Definitions only; a reader must believe them.
use Rattle.std.specs.Prelude.{ℕ, ◌+◌, List, cond, ltb}
use Rattle.walk.specs.Listing.{Listing, more, ends, fails, Reply, gave, nothing, refused}
use Rattle.walk.specs.Pick.{only}
use Rattle.refusal.specs.Told.{Told, told}
use Rattle.refusal.specs.declared.Refusal.TheVariants as why
use Rattle.kinds.specs.Kind.{LINES, Sort}
use Rattle.area.specs.Subs.{Sub, subs_from}
use Rattle.body.specs.Lines.{line_head_size}
use Rattle.find.specs.Find.{is, Span, bytes_at}

-- line subsections, up to the first one with too few bytes for its header
unfoldable pub headed : Listing Sub Told → Listing Sub Told
headed (more b l) = cond (ltb b.len line_head_size) (fails (told why.Cut)) (more b (headed l))
headed ends = ends
headed (fails t) = fails t

-- the line subsections from a place on, to the end of the area or the first refusal
abbrev pub lines_from : (ℕ → Sort) → List ℕ → ℕ → Listing Sub Told
lines_from rule s p = headed (only (is LINES) (subs_from rule s p))

-- the number of a listing's records, if it does not fail
abbrev pub plus : {R : Type 0} → ℕ → Reply ℕ R → Reply ℕ R
plus n (gave m) = gave (n + m)
plus n nothing = nothing
plus n (refused r) = refused r

unfoldable pub count_of : {B R : Type 0} → Listing B R → Reply ℕ R
count_of (more b l) = plus 1 (count_of l)
count_of ends = gave 0
count_of (fails r) = refused r

-- THE TESTS that come before every reading of lines, and how many line subsections there are
abbrev pub count_lines : (ℕ → Sort) → List ℕ → Reply ℕ Told
count_lines rule s = count_of (lines_from rule s 0)

-- a line body as the lines' meaning takes it: where in the area it starts, and its bytes. The start is handed on to its records; nothing else that the bytes
-- mean depends on it
pub record Body : Type 0 where
  pub start : ℕ
  pub bytes : List ℕ

-- the body at a place of the area
abbrev pub body_on : List ℕ → Span → Body
body_on s a = record { start = a.start; bytes = bytes_at s a }
