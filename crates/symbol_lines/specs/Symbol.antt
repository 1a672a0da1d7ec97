-- The lines of a symbol at an offset of a section: the records of one line body of the list alone. Source: document 01, "Line subsections", as
-- mended by the crate: the list's first subsection at just this section and offset; else the last one in list order of the same section with a
-- smaller offset, whether or not it covers the offset; else none. The list's tests but 10 come first, and a slot on the way that is missing or
-- names no line body is 19. Their end lines are by the reading that the caller names.
-- Definitions only; a reader must believe them, but for `Numbered` to `symbol_walk`: `symbol_walk_lem`, `symbol_fails` (symbol_lines RecordsLaws) say what these
-- mean.
use Rattle.std.specs.Prelude.{ℕ, ◌+◌, List, Bool, cond, ◌&&◌, ltb, eqb}
use Rattle.walk.specs.Listing.{Listing, more, ends, fails, before, Reply, gave, nothing, refused}
use Rattle.walk.specs.Pick.{or_else, first_by, last_by, map_reply}
use Rattle.refusal.specs.Told.{Told}
use Rattle.kinds.specs.Kind.{Sort}
use Rattle.body.specs.Lines.{LineHead, line_head}
use Rattle.find.specs.Find.{same}
use Rattle.line_record.specs.declared.EndLines.{EndLines}
use Rattle.lines.specs.Lines.{Body}
use Rattle.lines.specs.Slots.{list_of}
use Rattle.order.specs.Order.{in_order}
use Rattle.line_step.specs.Turn.{fresh_rest}
use Rattle.line_step.specs.declared.LineWalk.{LineWalk}
use Rattle.line_step.specs.declared.LineWalk.TheVariants.{Between}
use Rattle.line_walk.specs.Meaning.{Records, body_then, settle}

-- does a header have just this section and offset? And does one stand before that offset in this section?
abbrev pub head_is : ℕ → ℕ → LineHead → Bool
head_is section offset h = eqb h.section section && eqb h.offset offset

abbrev pub head_before : ℕ → ℕ → LineHead → Bool
head_before section offset h = eqb h.section section && ltb h.offset offset

abbrev pub is_at : ℕ → ℕ → Body → Bool
is_at section offset b = head_is section offset (line_head b.bytes)

abbrev pub is_before : ℕ → ℕ → Body → Bool
is_before section offset b = head_before section offset (line_head b.bytes)

-- of the bodies of a list, the one that the symbol's lines stand in
abbrev pub symbol_body : ℕ → ℕ → Listing Body Told → Reply Body Told
symbol_body section offset l = or_else (first_by (is_at section offset) l) (last_by (is_before section offset) l)

-- the records of one body alone
abbrev pub body_records : EndLines → Reply Body Told → Records
body_records how (gave b) = settle (body_then how b ends)
body_records how nothing = ends
body_records how (refused t) = fails t

-- THE RECORDS of a symbol
abbrev pub symbol_records : EndLines → (ℕ → Sort) → List ℕ → List ℕ → ℕ → ℕ → Records
symbol_records how rule s v section offset = body_records how (symbol_body section offset (list_of rule s v))

-- the same of an area alone: over its line bodies in ascending (section, offset), equal keys in area order
abbrev pub area_symbol : EndLines → (ℕ → Sort) → List ℕ → ℕ → ℕ → Records
area_symbol how rule s section offset = body_records how (symbol_body section offset (before (in_order rule s) ends))

-- ---- the walk over a symbol's records: the slot of the body that they stand in

pub record Numbered : Type 0 where
  pub slot : ℕ
  pub body : Body

unfoldable pub numbered : ℕ → Listing Body Told → Listing Numbered Told
numbered i (more b l) = more (record { slot = i; body = b }) (numbered (i + 1) l)
numbered i ends = ends
numbered i (fails t) = fails t

abbrev pub slot_of : Numbered → ℕ
slot_of k = k.slot

abbrev pub at_slot : ℕ → ℕ → Numbered → Bool
at_slot section offset k = is_at section offset k.body

abbrev pub before_slot : ℕ → ℕ → Numbered → Bool
before_slot section offset k = is_before section offset k.body

abbrev pub slot_in : ℕ → ℕ → Listing Body Told → Reply ℕ Told
slot_in section offset l =
    map_reply slot_of same (or_else (first_by (at_slot section offset) (numbered 0 l)) (last_by (before_slot section offset) (numbered 0 l)))

-- the better of the slot i with the header h and the best slot y so far
abbrev pub better : ℕ → ℕ → LineHead → ℕ → Reply ℕ Told → Reply ℕ Told
better section offset h i y = cond (head_before section offset h) (gave i) y

-- the walk over the one subsection that a slot names; without a slot it is at its end
abbrev pub walk_of : EndLines → Reply ℕ Told → LineWalk
walk_of how (gave i) = Between how (fresh_rest i 1)
walk_of how nothing = Between how (fresh_rest 0 0)
walk_of how (refused t) = Between how (fresh_rest 0 0)

abbrev pub walk_to : EndLines → Reply ℕ Told → Reply LineWalk Told
walk_to how (gave i) = gave (walk_of how (gave i))
walk_to how nothing = gave (walk_of how nothing)
walk_to how (refused t) = refused t

abbrev pub symbol_walk : EndLines → (ℕ → Sort) → List ℕ → List ℕ → ℕ → ℕ → Reply LineWalk Told
symbol_walk how rule s v section offset = walk_to how (slot_in section offset (list_of rule s v))
