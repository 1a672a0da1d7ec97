-- An order list as its reader takes it: the line bodies that its slots name, one for each line subsection of the area. Source: document 01, "Line
-- subsections" (the walk repeats the list's tests but 10 and takes one slot a line subsection) and number 19 (a slot that is missing or names
-- no line body).
-- Definitions only; a reader must believe them, but for `scan_from` to `slot_at`: `walk_is` (line_walk WalkLaws) says what these mean; for `Scans`: no public
-- contract cites it.
use Rattle.std.specs.Prelude.{ℕ, zero, suc, ◌<◌, ◌≡◌, List, [], ◌∷◌, Bool, cond, ◌&&◌, length, get_or, ltb, leb, eqb}
use Rattle.walk.specs.Listing.{Listing, more, ends, fails, Reply, gave, nothing, refused}
use Rattle.walk.specs.Pick.{first_by, map_reply}
use Rattle.refusal.specs.Told.{Told, told}
use Rattle.refusal.specs.declared.Refusal.TheVariants as why
use Rattle.kinds.specs.Kind.{LINES, Sort}
use Rattle.area.specs.Subs.{Sub, subs_from}
use Rattle.find.specs.Find.{same, Span, span_of}
use Rattle.lines.specs.Lines.{count_lines, Body, body_on}

-- a line subsection whose body starts at v
abbrev pub starts_at : ℕ → Sub → Bool
starts_at v b = eqb b.start v && eqb b.kind LINES

-- where the line body that starts at v stands, among the subsections of a listing and of the area from p on
abbrev pub body_in : ℕ → Listing Sub Told → Reply Span Told
body_in v l = map_reply span_of same (first_by (starts_at v) l)

abbrev pub body_from : (ℕ → Sort) → List ℕ → ℕ → ℕ → Reply Span Told
body_from rule s p v = body_in v (subs_from rule s p)

-- the line body that starts at v, itself
abbrev pub body_at : (ℕ → Sort) → List ℕ → ℕ → Reply Body Told
body_at rule s v = map_reply (body_on s) same (body_from rule s 0 v)

-- what a slot names, and then l
abbrev pub name_then : {B : Type 0} → Reply B Told → Listing B Told → Listing B Told
name_then (gave b) l = more b l
name_then nothing l = fails (told why.WrongSlot)
name_then (refused t) l = fails t

-- what the first n slots name, f being what a position names
unfoldable pub named : {B : Type 0} → (ℕ → Reply B Told) → ℕ → List ℕ → Listing B Told
named f zero vs = ends
named f (suc n) [] = fails (told why.WrongSlot)
named f (suc n) (v ∷ vs) = name_then (f v) (named f n vs)

-- THE LINE BODIES OF A LIST v: after the tests over the area, as many slots as it has line subsections
abbrev pub list_in : (ℕ → Sort) → List ℕ → List ℕ → Reply ℕ Told → Listing Body Told
list_in rule s v (gave n) = named (body_at rule s) n v
list_in rule s v nothing = ends
list_in rule s v (refused t) = fails t

abbrev pub list_of : (ℕ → Sort) → List ℕ → List ℕ → Listing Body Told
list_of rule s v = list_in rule s v (count_lines rule s)

-- ---- one slot, as code reads it

-- a search for a body at v that may begin at p, if the body does not lie before that
unfoldable pub scan_from : ℕ → ℕ → ℕ
scan_from p v = cond (ltb p v) p 0

abbrev pub name_of : Reply Span Told → Reply Span Told
name_of (gave a) = gave a
name_of nothing = refused (told why.WrongSlot)
name_of (refused t) = refused t

-- where the line body stands that slot i of v names, the search for it beginning at p
unfoldable pub slot_at : (ℕ → Sort) → List ℕ → List ℕ → ℕ → ℕ → Reply Span Told
slot_at rule s v i p =
    cond (leb (length v) i) (refused (told why.WrongSlot)) (name_of (body_from rule s (scan_from p (get_or v i 0)) (get_or v i 0)))

-- a search from p finds each body behind p that a search from the area's start finds
abbrev pub Scans : (ℕ → Sort) → List ℕ → ℕ → Type 0
Scans rule s p = (v : ℕ) → p < v → body_from rule s p v ≡ body_from rule s 0 v
