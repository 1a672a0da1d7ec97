-- What a call that gives many records gives, over any walk. Its state is the first k words of the lent words o, g having the words of a state; the
-- records go into other lent words x, f having the words of one; a is the answer in records. Status 4: an answer, and nothing comes behind it; `over` says
-- so of the state behind the last record. Where o has no room for the state and for a refusal nothing changes.
-- Source: docs/DECISIONS.md, 36.
-- Definitions only; a reader must believe them.
use Rattle.std.specs.Prelude.{ℕ, ◌+◌, List, [], ◌∷◌, ◌++◌, Bool, cond}
use Rattle.walk.specs.Listing.{Answer, gives, none, refuses}
use Rattle.refusal.specs.Told.{Told}
use Rattle.answer_words.specs.Given.{Given, given, none_given, refusal_size, refusal_given, if_room, short_given}
use Rattle.answer_words.specs.Fill.{counted, filled}

-- the next state, and behind it how many records there are
abbrev pub count_words : {S : Type 0} → (S → List ℕ) → ℕ → S → List ℕ
count_words g n w = g w ++ (n ∷ [])

-- the status of an answer, by whether nothing comes behind it
abbrev pub answer_status : Bool → ℕ
answer_status last = cond last 4 1

abbrev pub many_given : {S : Type 0} → ℕ → (S → Bool) → (S → List ℕ) → Answer S ℕ Told → Given
many_given k over g (gives n w) = given (answer_status (over w)) 0 (count_words g n w)
many_given k over g none = none_given
many_given k over g (refuses t) = refusal_given k t

-- the words of o that the call asks for
abbrev pub asked_size : ℕ → ℕ
asked_size k = k + refusal_size

abbrev pub fill_given : {S B : Type 0} → ℕ → (S → Bool) → (S → List ℕ) → List ℕ → Answer S (List B) Told → Given
fill_given k over g o a = if_room (asked_size k) o (many_given k over g (counted a)) short_given

-- the words x after the call
abbrev pub fill_left : {S B : Type 0} → ℕ → (B → List ℕ) → List ℕ → List ℕ → Answer S (List B) Told → List ℕ
fill_left k f o x a = if_room (asked_size k) o (filled f x a) x
