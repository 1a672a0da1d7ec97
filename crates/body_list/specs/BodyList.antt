-- The list of an area's line bodies: where they start, in the order of the area. Source: document 01, "Line subsections" (10 if there are more line
-- subsections than slots) and "lent memory stays as found" of a refused call.
-- Definitions only; a reader must believe them, but for `sub_start`, `starts_from`: `body_starts`, `order_starts` (order BuiltLaws) say what these mean.
use Rattle.std.specs.Prelude.{ℕ, List, [], ◌∷◌, ◌++◌, map, cond, length, drop, ltb}
use Rattle.walk.specs.Listing.{Listing, more, ends, fails, Reply, gave, nothing, refused}
use Rattle.walk.specs.Pick.{only}
use Rattle.refusal.specs.Told.{Told, told}
use Rattle.refusal.specs.declared.Refusal.TheVariants as why
use Rattle.kinds.specs.Kind.{LINES, Sort}
use Rattle.area.specs.Subs.{Sub, subs_from}
use Rattle.find.specs.Find.{is}
use Rattle.lines.specs.Lines.{count_lines}

-- the records of a listing, without its end
unfoldable pub listed : {B R : Type 0} → Listing B R → List B
listed (more b l) = b ∷ listed l
listed ends = []
listed (fails r) = []

-- where the line bodies from a place on start, in the order of the area
abbrev pub sub_start : Sub → ℕ
sub_start b = b.start

abbrev pub starts_from : (ℕ → Sort) → List ℕ → ℕ → List ℕ
starts_from rule s p = map sub_start (listed (only (is LINES) (subs_from rule s p)))

-- the answer for m slots: how many of them the list takes
abbrev pub in_room : ℕ → Reply ℕ Told → Reply ℕ Told
in_room m (gave n) = cond (ltb m n) (refused (told why.NoRoom)) (gave n)
in_room m nothing = nothing
in_room m (refused t) = refused t

abbrev pub body_list : (ℕ → Sort) → List ℕ → ℕ → Reply ℕ Told
body_list rule s m = in_room m (count_lines rule s)

-- the slots after an answer; they held xs before. With the answer n they are the list ys, and then xs without its first n; else xs
abbrev pub slots_holding : List ℕ → List ℕ → Reply ℕ Told → List ℕ
slots_holding ys xs (gave n) = ys ++ drop n xs
slots_holding ys xs nothing = xs
slots_holding ys xs (refused t) = xs

abbrev pub bodies_after : (ℕ → Sort) → List ℕ → List ℕ → List ℕ
bodies_after rule s xs = slots_holding (starts_from rule s 0) xs (body_list rule s (length xs))
