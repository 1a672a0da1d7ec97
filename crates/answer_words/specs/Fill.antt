-- Many records at once, in words: as many as the lent words have room for, k words each, at their start. Where the first step gives no record the
-- answer is that step's, and nothing is put. Where there is a record and no room for one it is refused with 10. Source: docs/DECISIONS.md, 36.
-- Definitions only; a reader must believe them.
use Rattle.std.specs.Prelude.{ℕ, ◌/◌, List, [], ◌∷◌, ◌++◌, cond, length, ltb}
use Rattle.word.specs.Word.{put}
use Rattle.walk.specs.Listing.{Answer, gives, none, refuses}
use Rattle.walk.specs.Many.{many_of}
use Rattle.refusal.specs.Told.{Told, told}
use Rattle.refusal.specs.declared.Refusal.TheVariants as why

-- the words of records, one behind the other; f has those of one
abbrev pub words_of : {B : Type 0} → (B → List ℕ) → List B → List ℕ
words_of f [] = []
words_of f (r ∷ rs) = f r ++ words_of f rs

-- what a call without room for a record answers, by what the first step answers
abbrev pub no_room : {S B : Type 0} → Answer S B Told → Answer S (List B) Told
no_room (gives r w) = refuses (told why.NoRoom)
no_room none = none
no_room (refuses t) = refuses t

-- what a call for many records answers of them: how many there are, and the state behind the last
abbrev pub counted : {S B : Type 0} → Answer S (List B) Told → Answer S ℕ Told
counted (gives rs w) = gives (length rs) w
counted none = none
counted (refuses t) = refuses t

-- the lent words o after a call for many records, f having the words of one
abbrev pub filled : {S B : Type 0} → (B → List ℕ) → List ℕ → Answer S (List B) Told → List ℕ
filled f o (gives rs w) = put o 0 (words_of f rs)
filled f o none = o
filled f o (refuses t) = o

-- the records of a walk from the state w on, with n words lent
unfoldable pub fill_of : {S B : Type 0} → ℕ → (S → Answer S B Told) → ℕ → S → Answer S (List B) Told
fill_of k next n w = cond (ltb n k) (no_room (next w)) (many_of next (n / k) w)
