-- The order list of an area: where its line bodies start, in walk order. Source: document 01, "Line subsections": ascending (section, offset),
-- equal keys in area order; 10 if there are more line subsections than slots; the first slots then hold body positions in walk order, the rest
-- unchanged; and "lent memory stays as found" of a refused call.
-- Definitions only; a reader must believe them, but for `order_of`: `order_starts` (order BuiltLaws) says what it means.
use Rattle.std.specs.Prelude.{ℕ, ◌+◌, ◌*◌, List, map, length}
use Rattle.walk.specs.Listing.{Reply}
use Rattle.walk.specs.Pick.{only}
use Rattle.refusal.specs.Told.{Told}
use Rattle.kinds.specs.Kind.{LINES, Sort}
use Rattle.area.specs.Subs.{Sub, subs_from}
use Rattle.body.specs.Lines.{line_head}
use Rattle.find.specs.Find.{is, span_of}
use Rattle.lines.specs.Lines.{Body, body_on}
use Rattle.body_list.specs.BodyList.{listed, starts_from, body_list, slots_holding}
use Rattle.slot_key.specs.Sort.{sort_by}
use Rattle.slot_key.specs.Rank.{rank}

-- THE ORDER: by section, then by offset, then by position
abbrev pub order_of : (ℕ → Sort) → List ℕ → List ℕ
order_of rule s = sort_by (rank s) (starts_from rule s 0)

-- the answer of the order list for m slots: how many of them it takes
abbrev pub ordered : (ℕ → Sort) → List ℕ → ℕ → Reply ℕ Told
ordered rule s m = body_list rule s m

-- the slots after a call for the order list; they held xs before
abbrev pub slots_after : (ℕ → Sort) → List ℕ → List ℕ → List ℕ
slots_after rule s xs = slots_holding (order_of rule s) xs (ordered rule s (length xs))

-- ---- the line bodies of an area themselves, in walk order

abbrev pub body_of : List ℕ → Sub → Body
body_of s b = body_on s (span_of b)

abbrev pub line_bodies : (ℕ → Sort) → List ℕ → List Body
line_bodies rule s = map (body_of s) (listed (only (is LINES) (subs_from rule s 0)))

unfoldable pub key_of : Body → ℕ
key_of b = (line_head b.bytes).section * 0x1_0000_0000 + (line_head b.bytes).offset

abbrev pub in_order : (ℕ → Sort) → List ℕ → List Body
in_order rule s = sort_by key_of (line_bodies rule s)
