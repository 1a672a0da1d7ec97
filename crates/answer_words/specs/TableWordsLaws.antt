-- Laws of a walk over a table in words: reading its state, and what is given of its step.
use Rattle.std.specs.Prelude.{ℕ, ◌≡◌, refl, List, [], ◌∷◌, ◌++◌, true, length, get_or}
use Rattle.std.proofs.Common.{sym, ap, ◌∙◌, arith, eq-eqb, ne_eqb}
use Rattle.word.specs.Word.{put}
use Rattle.table.specs.declared.TableWalk.{TableWalk}
use Rattle.table.specs.declared.TableWalk.TheVariants as walk
use Rattle.answer_words.specs.Given.{given, Gives}
use Rattle.answer_words.specs.GivenLaws.{gives_as}
use Rattle.answer_words.specs.TableWords.{table_state_size, walk_in, walk_words, over_table, table_words}

module _ (o : List ℕ) (n : ℕ) (e : n ≡ get_or o 0 0) where
  pub walk_new : n ≡ 0 → walk.New ≡ walk_in o
  unfolding walk_in
  walk_new z = rw (eq-eqb (get_or o 0 0) 0 (sym e ∙ z))

  pub walk_goes : (n ≡ 0 → ⊥) → (a b d : ℕ) → a ≡ get_or o 1 0 → b ≡ get_or o 2 0 → d ≡ get_or o 3 0 → walk.In a b d ≡ walk_in o
  unfolding walk_in
  walk_goes z a b d ea eb ed = rw (ne_eqb (get_or o 0 0) 0 (λ q. z (e ∙ q)), ea, eb, ed)

pub walk_length : (w : TableWalk) → length (walk_words w) ≡ table_state_size
walk_length walk.New = refl
walk_length (walk.In start len at) = refl

pub walk_is : {w v : TableWalk} → w ≡ v → walk_words w ≡ walk_words v
walk_is e = ap walk_words e

-- THE THEOREM: the words of a state are read back as that state, whatever stands behind them
pub table_read : (w : TableWalk) (ws : List ℕ) → walk_in (walk_words w ++ ws) ≡ w
unfolding walk_in
table_read walk.New ws = refl
table_read (walk.In start len at) ws = refl

-- the words of a state that is over are read back, whatever is put behind them
pub over_read : (w : TableWalk) (o ws : List ℕ) → over_table w ≡ true → walk_in (put o 0 (walk_words w ++ ws)) ≡ w
unfolding walk_in
over_read walk.New o ws e = absurd (let z : ◌≡◌ {A = ℕ} 0 1 = cc in omega arith)
over_read (walk.In start len at) o ws e = refl

-- the words of a step: those of the walk, and those of the record
pub gives_table : {B : Type 0} (f : B → List ℕ) (b : B) (w : TableWalk) {o left ws : List ℕ} {status r i j k l : ℕ}
    → walk_words w ≡ i ∷ j ∷ k ∷ l ∷ [] → f b ≡ ws → Gives o (given status 0 (i ∷ j ∷ k ∷ l ∷ ws)) r left → Gives o (given status 0 (table_words f b w)) r left
gives_table f b w {ws = ws} {status = status} e q h = gives_as (given status 0) (ap (λ x. x ++ ws) (sym e) ∙ ap (λ x. walk_words w ++ x) (sym q)) h
