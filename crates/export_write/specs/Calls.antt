-- What each writer call gives, and the buffer after it. The call is an item of the full reading, b the buffer, w the place behind what is written, and o
-- the lent words. A call changes the buffer only with room for a refusal in o.
-- Source: docs/DECISIONS.md, 32; document 01, "Refusal numbers": number 11 is tested first.
-- Definitions only; a reader must believe them.
use Rattle.std.specs.Prelude.{ℕ, List, [], ◌∷◌, cond, length, ltb}
use Rattle.std.proofs.Math.Option.{Option, none, some}
use Rattle.refusal.specs.Told.{told, longest}
use Rattle.refusal.specs.declared.Refusal.TheVariants as why
use Rattle.reading.specs.Reading.{Item}
use Rattle.plain.specs.Plain.{Last, plain_of}
use Rattle.writer_decides.specs.Calls.{answered, buffer_after}
use Rattle.answer_words.specs.Given.{Given, given, none_given, refusal_size, refusal_given, one, reply_given, if_room, short_given}

-- what a writer call gives: the place behind what is written then
unfoldable pub wrote_given : Item → List ℕ → ℕ → List ℕ → Given
wrote_given it b w o = if_room refusal_size o (reply_given one (answered it b w)) short_given

unfoldable pub buffer_left : Item → List ℕ → ℕ → List ℕ → List ℕ
buffer_left it b w o = if_room refusal_size o (buffer_after it b w) b

-- what is last in a plain area: its header's place, its kind and its mark, all 0 where there is none; an area that is not plain has no words
abbrev pub last_given : Option Last → Given
last_given (some l) = given 1 0 (l.header ∷ l.kind ∷ l.mark ∷ [])
last_given none = none_given

unfoldable pub plain_given : List ℕ → Given
plain_given s = cond (ltb longest (length s)) (refusal_given 0 (told why.TooLong)) (last_given (plain_of s))
