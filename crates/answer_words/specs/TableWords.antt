-- A walk over a table in words: 0 and whatever behind it for a new one; else any other number, where the body starts, how long it is, and
-- the place in it. A word that is not there is 0. Source: docs/DECISIONS.md, 32.
-- Definitions only; a reader must believe them, but for `walk_in`, `walk_words`: `walk_new`, `table_read` (answer_words TableWordsLaws) say what these mean.
use Rattle.std.specs.Prelude.{ℕ, List, [], ◌∷◌, ◌++◌, Bool, false, cond, get_or, eqb}
use Rattle.table.specs.declared.TableWalk.{TableWalk}
use Rattle.table.specs.declared.TableWalk.TheVariants as walk

abbrev pub table_state_size : ℕ
table_state_size = 4

unfoldable pub walk_in : List ℕ → TableWalk
walk_in o = cond (eqb (get_or o 0 0) 0) walk.New (walk.In (get_or o 1 0) (get_or o 2 0) (get_or o 3 0))

abbrev pub walk_words : TableWalk → List ℕ
walk_words walk.New = 0 ∷ 0 ∷ 0 ∷ 0 ∷ []
walk_words (walk.In start len at) = 1 ∷ start ∷ len ∷ at ∷ []

-- whether a walk stands at the end of its body: behind a record nothing comes there
abbrev pub over_table : TableWalk → Bool
over_table walk.New = false
over_table (walk.In start len at) = eqb at len

-- a step of a walk over a table: f has the words of its record
abbrev pub table_words : {B : Type 0} → (B → List ℕ) → B → TableWalk → List ℕ
table_words f b w = walk_words w ++ f b
