-- A table of an area, a walk over its records, and a word of a record that tells its words by place and number. A table is the body of one subsection,
-- which a finder gives, read by a step of its own: one definition for every table. Source: document 01, "Area and subsections" (without such a
-- subsection the answer is empty), "A walk that ended answers none again", number 11, and "a place past the lent bytes is 1".
-- Definitions only; a reader must believe them, but for `spot_new`, `spot_of` to `table_step`: `table_walk_lem` (table TableLaws) says what these mean.
use Rattle.std.specs.Prelude.{ℕ, ◌+◌, ◌*◌, List, cond, length, take, drop, ltb}
use Rattle.walk.specs.Listing.{Listing, ends, fails, mapped, Answer, gives, none, refuses, Reply, gave, nothing, refused}
use Rattle.walk.specs.Pick.{map_reply}
use Rattle.refusal.specs.Told.{Told, told, longest}
use Rattle.refusal.specs.declared.Refusal.TheVariants as why
use Rattle.find.specs.Find.{same, Span}
use Rattle.table.specs.declared.TableWalk.{TableWalk}
use Rattle.table.specs.declared.TableWalk.TheVariants as walk
use Rattle.body.specs.Words.{words_in}
use Rattle.table.specs.Collect.{of_nth}

-- a place in the body of len bytes at start
pub record Place : Type 0 where
  pub start : ℕ
  pub len : ℕ
  pub at : ℕ

abbrev pub spot_new : Reply Span Told → Reply Place Told
spot_new = map_reply (λ (a : Span). record { start = a.start; len = a.len; at = 0 }) same

unfoldable pub spot_in : List ℕ → ℕ → ℕ → ℕ → Reply Place Told
spot_in s start len at =
    cond (ltb longest (length s)) (refused (told why.TooLong))
    (cond (ltb (length s) (start + len)) (refused (told why.Cut))
    (gave (record { start = start; len = len; at = at })))

-- where the next record is looked for, f being what the finder says
abbrev pub spot_of : Reply Span Told → List ℕ → TableWalk → Reply Place Told
spot_of f s walk.New = spot_new f
spot_of f s (walk.In start len at) = spot_in s start len at

-- a record and the place behind it, as answers on the area have them
abbrev pub shifted : {B C : Type 0} → (ℕ → B → C) → ℕ → ℕ → Answer ℕ B Told → Answer TableWalk C Told
shifted show start len (gives b x) = gives (show start b) (walk.In start len x)
shifted show start len none = none
shifted show start len (refuses t) = refuses t

module _ {B C : Type 0} (step : List ℕ → ℕ → Answer ℕ B Told) (show : ℕ → B → C) where
  -- the record that stands at a spot
  abbrev pub read_at : List ℕ → Reply Place Told → Answer TableWalk C Told
  read_at s (gave q) = shifted show q.start q.len (step (take q.len (drop q.start s)) q.at)
  read_at s nothing = none
  read_at s (refused t) = refuses t

  -- one step of a walk over a table
  abbrev pub table_step : Reply Span Told → List ℕ → TableWalk → Answer TableWalk C Told
  table_step f s w = read_at s (spot_of f s w)

-- THE WHOLE TABLE: the records of the body, their places counted from the area's start; none without a body
abbrev pub table_of : {B C : Type 0} → (List ℕ → Listing B Told) → (ℕ → B → C) → List ℕ → Reply Span Told → Listing C Told
table_of list show s (gave a) = mapped (show a.start) same (list (take a.len (drop a.start s)))
table_of list show s nothing = ends
table_of list show s (refused t) = fails t

-- a table by the bytes of its body alone: what a body that a finder gives is read as
abbrev pub of_body : {D : Type 0} → (List ℕ → Listing D Told) → Reply (List ℕ) Told → Listing D Told
of_body f (gave b) = f b
of_body f nothing = ends
of_body f (refused t) = fails t

-- word i of the count words at a place of the area, as a record tells its words: these must lie in it, else 1
unfoldable pub word_in : List ℕ → ℕ → ℕ → ℕ → Reply ℕ Told
word_in s words count i =
    cond (ltb longest (length s)) (refused (told why.TooLong))
    (cond (ltb (length s) (words + 4 * count)) (refused (told why.Cut))
    (of_nth i (words_in count (drop words s)) nothing gave))
