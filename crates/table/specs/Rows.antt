-- The records of a body from a place on, each with the place at which it stands. A bite says what the front of bytes is (crate `body`), and
-- `size` how many bytes a record has; places count from the body's start. Source: document 01, "a place past the lent bytes is 1".
-- Definitions only; a reader must believe them, but for `row_of` to `rows_from`: `imports_walk` (imports ImportsLaws), `exports_walk` (exports ExportsLaws) say
-- what these mean.
use Rattle.std.specs.Prelude.{ℕ, ◌+◌, List, cond, length, drop, ltb}
use Rattle.walk.specs.Listing.{Move, item, pass, over, fail, Listing, more, ends, fails, all, Answer, gives, none, refuses}
use Rattle.refusal.specs.Told.{Told, told}
use Rattle.refusal.specs.declared.Refusal.TheVariants as why

-- records that stand one behind the other from place p on
module _ {B C : Type 0} (size : B → ℕ) (show : ℕ → B → C) where
  unfoldable pub rows_placed : ℕ → Listing B Told → Listing C Told
  rows_placed p (more r l) = more (show p r) (rows_placed (p + size r) l)
  rows_placed p ends = ends
  rows_placed p (fails t) = fails t

  -- the front of the bytes at p, and the place behind it
  abbrev pub row_of : ℕ → Move (List ℕ) B Told → Answer ℕ C Told
  row_of p (item r t) = gives (show p r) (p + size r)
  row_of p (pass t) = none
  row_of p over = none
  row_of p (fail t) = refuses t

module _ {B C : Type 0} (bite : List ℕ → Move (List ℕ) B Told) (size : B → ℕ) (show : ℕ → B → C) where
  -- the record at a place of the body b
  unfoldable pub row_at : List ℕ → ℕ → Answer ℕ C Told
  row_at b p = cond (ltb (length b) p) (refuses (told why.Cut)) (row_of size show p (bite (drop p b)))

  -- the records of the body b from a place on
  unfoldable pub rows_from : List ℕ → ℕ → Listing C Told
  rows_from b p = cond (ltb (length b) p) (fails (told why.Cut)) (rows_placed size show p (all bite length (drop p b)))
