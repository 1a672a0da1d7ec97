-- What an exported call answers: a status, and words that are put into the lent ones at a place. Where they do not fit the status is 3 and
-- nothing is put. Status 0: none. Status 1: an answer. Status 2: a refusal, whose number of document 01 and what it carries are the words. Status 5: a
-- number that should name a choice of the caller's names none; nothing is put.
-- Source: docs/DECISIONS.md, 32 and 59.
-- Definitions only; a reader must believe them.
use Rattle.std.specs.Prelude.{ℕ, ◌+◌, ◌≡◌, List, [], ◌∷◌, cond, length, leb}
use Rattle.std.proofs.Math.Option as option
use Rattle.word.specs.Word.{store}
use Rattle.walk.specs.Listing.{Answer, gives, none, refuses, Reply, gave, nothing, refused}
use Rattle.refusal.specs.Told.{Told, number_of, carried_of}
use Rattle.find.specs.Find.{Span}

pub record Given : Type 0 where
  pub status : ℕ
  pub at : ℕ
  pub words : List ℕ

abbrev pub given : ℕ → ℕ → List ℕ → Given
given s a ws = record { status = s; at = a; words = ws }

-- the status of a call that has the words o to put its answer into
unfoldable pub status_in : List ℕ → Given → ℕ
status_in o g = cond (leb (g.at + length g.words) (length o)) g.status 3

-- what a call returns, and what it leaves of the words o that it was lent
pub record Gives (o : List ℕ) (g : Given) (r : ℕ) (left : List ℕ) : Type 0 where
  pub status : r ≡ status_in o g
  pub words : left ≡ store o g.at g.words

-- nothing is put for none
abbrev pub none_given : Given
none_given = given 0 0 []

-- a refusal: its number, and what it carries or 0. It is put behind the k words of a walk's state, which stays, so that the walk refuses again
abbrev pub refusal_words : Told → List ℕ
refusal_words t = number_of t ∷ carried_of t ∷ []

abbrev pub refusal_size : ℕ
refusal_size = 2

abbrev pub refusal_given : ℕ → Told → Given
refusal_given k t = given 2 k (refusal_words t)

-- a step of a walk whose state is the first k words: f has the words of the next state and behind them those of the record
abbrev pub step_given : {S B : Type 0} → ℕ → (B → S → List ℕ) → Answer S B Told → Given
step_given k f (gives b s) = given 1 0 (f b s)
step_given k f none = none_given
step_given k f (refuses t) = refusal_given k t

-- the words of a number
abbrev pub one : ℕ → List ℕ
one n = n ∷ []

-- the words of a part of the lent bytes: its start and its length
abbrev pub span_words : Span → List ℕ
span_words a = a.start ∷ a.len ∷ []

-- one answer: f has its words
abbrev pub reply_given : {B : Type 0} → (B → List ℕ) → Reply B Told → Given
reply_given f (gave b) = given 1 0 (f b)
reply_given f nothing = none_given
reply_given f (refused t) = refusal_given 0 t

-- A call that changes other lent memory too asks for k words first, so that its answer fits. With fewer it changes nothing at all: a is what it
-- gives or leaves with k words, b without them, and its status is 3.
abbrev pub if_room : {A : Type 0} → ℕ → List ℕ → A → A → A
if_room k o a b = cond (leb k (length o)) a b

abbrev pub short_given : Given
short_given = given 3 0 []

-- A call that goes by a choice of the caller's: f has what it gives or leaves by the choice, and b is that where a number names none.
abbrev pub if_chosen : {C A : Type 0} → A → (C → A) → option.Option C → A
if_chosen b f option.none = b
if_chosen b f (option.some c) = f c

abbrev pub choice_given : Given
choice_given = given 5 0 []
