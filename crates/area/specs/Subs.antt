-- The subsections that a reading of an area sees: the known ones in order, up to the end or the first refusal. The rule for kinds is a parameter.
-- Source: document 01, "Area and subsections" and the sentences on number 11 and on a place past the lent bytes.
-- Definitions only; a reader must believe them, but for `first_of`, `step_at`: `steps_are` (area SubsLaws) says what these mean; for `place_behind` to
-- `crate_step`: `walk_steps` (area WalkLaws) says what these mean; for `bodies_in`, `bodies`: no public contract cites these.
use Rattle.std.specs.Prelude.{ℕ, ◌+◌, List, cond, length, drop, ltb}
use Rattle.walk.specs.Listing.{Listing, more, ends, fails, Answer, gives, none, refuses}
use Rattle.refusal.specs.Told.{Told, told, longest}
use Rattle.refusal.specs.declared.Refusal.TheVariants as why
use Rattle.area.specs.Parts.{Raw, Parts, parts}
use Rattle.kinds.specs.Kind.{Sort, on_sort, crate_rule}

-- a subsection as an answer tells it: its kind, and where its body stands
pub record Sub : Type 0 where
  pub kind : ℕ
  pub start : ℕ
  pub len : ℕ

abbrev pub sub_of : ℕ → Raw → Sub
sub_of p r = record { kind = r.kind; start = p + 8; len = length r.body }

-- the subsections of parts that start at place p. A header and a body come before the kind, since only whole subsections are parts
unfoldable pub placed : (ℕ → Sort) → ℕ → Parts → Listing Sub Told
placed rule p (more r l) =
    on_sort (rule r.kind)
    (more (sub_of p r) (placed rule (p + 8 + length r.body) l))
    (placed rule (p + 8 + length r.body) l)
    (fails (told (why.UnknownKind r.kind)))
placed rule p ends = ends
placed rule p (fails c) = fails (told why.Cut)

-- THE MEANING of an area from place p on
unfoldable pub subs_from : (ℕ → Sort) → List ℕ → ℕ → Listing Sub Told
subs_from rule s p =
    cond (ltb longest (length s)) (fails (told why.TooLong))
    (cond (ltb (length s) p) (fails (told why.Cut))
    (placed rule p (parts (drop p s))))

-- the first subsection of a listing, with the place behind it
abbrev pub first_of : Listing Sub Told → Answer ℕ Sub Told
first_of (more b l) = gives b (b.start + b.len)
first_of ends = none
first_of (fails r) = refuses r

abbrev pub step_at : (ℕ → Sort) → List ℕ → ℕ → Answer ℕ Sub Told
step_at rule s p = first_of (subs_from rule s p)

-- where a walk stands behind an answer: it stays at its end and at a refusal
abbrev pub place_behind : Answer ℕ Sub Told → ℕ → ℕ
place_behind (gives b x) p = x
place_behind none p = p
place_behind (refuses r) p = p

-- a step of a walk from place p on: the answer, and the place behind it
pub record WalkStep : Type 0 where
  pub answer : Answer ℕ Sub Told
  pub behind : ℕ

abbrev pub step_from : (ℕ → Sort) → List ℕ → ℕ → WalkStep
step_from rule s p = record { answer = step_at rule s p; behind = place_behind (step_at rule s p) p }

-- such a step by the crate's rule
unfoldable pub crate_step : List ℕ → ℕ → WalkStep
crate_step = step_from crate_rule

-- the meaning of parts, and of an area, without places: the bodies themselves, and a refusal's number alone
unfoldable pub bodies_in : (ℕ → Sort) → Parts → Listing Raw ℕ
bodies_in rule (more r l) = on_sort (rule r.kind) (more r (bodies_in rule l)) (bodies_in rule l) (fails 2)
bodies_in rule ends = ends
bodies_in rule (fails c) = fails 1

unfoldable pub bodies : (ℕ → Sort) → List ℕ → Listing Raw ℕ
bodies rule s = cond (ltb longest (length s)) (fails 11) (bodies_in rule (parts s))
