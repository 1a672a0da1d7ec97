-- Names for the proofs of the lines of a body: what a call keeps that puts the records of a line walk into lent words, and many turns of the walk at once
-- by what they do to every such call. No second meaning of a walk is made: each is a turn of `turn_of`, one behind the other. FillLaws and TurnsLaws have
-- the laws. Definitions only; of public contracts that of `body_lines` alone cites them, through `BodyPut`.
use Rattle.std.specs.Prelude.{ℕ, ◌/◌, ◌≤◌, ◌≡◌, List, length}
use Rattle.walk.specs.Listing.{Answer}
use Rattle.refusal.specs.Told.{Told}
use Rattle.kinds.specs.Kind.{Sort}
use Rattle.line_state_words.specs.LineWords.{record_size, record_words}
use Rattle.line_step.specs.declared.LineWalk.{LineWalk}
use Rattle.line_walk.specs.Next.{todo, next_of}
use Rattle.answer_words.specs.Filling as fill

-- a call over the area s and the slots v, which begins at the walk w₀ with the words o₀
module _ (rule : ℕ → Sort) (s v : List ℕ) (w₀ : LineWalk) (o₀ : List ℕ) where
  -- what is told, and what the words are at the end
  abbrev pub Filled : Answer LineWalk ℕ Told → List ℕ → Type 0
  Filled a o = fill.Filled record_size record_words (next_of rule s v) w₀ o₀ a o

  -- n records are put, `last` is the walk behind the last of them, and the call stands at w
  abbrev pub Fills : ℕ → LineWalk → LineWalk → List ℕ → Type 0
  Fills n last w o = fill.Filling record_size record_words (next_of rule s v) w₀ o₀ n last w o

  -- n records are put, and the call stands at w; which walk is behind the last record is known where there is no more room: w itself
  pub record UnderWay (n : ℕ) (w : LineWalk) (o : List ℕ) : Type 0 where
    pub last : LineWalk
    pub fills : Fills n last w o
    pub full : length o₀ / record_size ≤ n → last ≡ w

-- every call that stands there, with room for so many records, comes to stand here, with no more to do
module _ (rule : ℕ → Sort) (s v : List ℕ) (room : ℕ) where
  pub record TurnsPut (n : ℕ) (w : LineWalk) (o : List ℕ) (n' : ℕ) (w' : LineWalk) (o' : List ℕ) : Type 0 where
    pub under_way : (w₀ : LineWalk) (o₀ : List ℕ) → length o₀ / record_size ≡ room → UnderWay rule s v w₀ o₀ n w o → UnderWay rule s v w₀ o₀ n' w' o'
    pub less : todo rule s w' ≤ todo rule s w
