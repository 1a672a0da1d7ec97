-- EVERY CALL OF THE WRITER, in the words of plain areas: for every call, every buffer and every place, also one that no call answered, what is answered and
-- what is left. It says what `writer_decides` Calls means, which the contracts of the writer's functions cite.
--
-- To check what is said here a reader needs Listed.antt and InWords.antt of this crate (plain areas; `in_words` and `listed_in_words` of InWordsLaws say
-- that `Plain` is what document 01 says in words; above 16,777,216 bytes also Plain.antt of `plain`), Reading.antt of `reading` and, of Calls.antt of
-- `writer_decides`, `item_kind` and `limit`, and no proof. The statement is `Decided`; DecidedHolds.antt of proofs/ proves it. What stands behind the written
-- bytes is as it was: `Careful` of Demand. That the bytes of a plain area are those that the writer makes of what it lists is `MadeAgain` of Demand.
use Rattle.std.specs.Prelude.{ℕ, ◌<◌, ◌≤◌, ◌≡◌, ◌⊎◌, List, [], ◌∷◌, ◌++◌, true, length, take}
use Rattle.word.specs.Word.{Bytes}
use Rattle.walk.specs.Listing.{gave, refused, ends, before}
use Rattle.refusal.specs.Told.{told}
use Rattle.refusal.specs.declared.Refusal.TheVariants as why
use Rattle.kinds.specs.Kind.{crate_rule}
use Rattle.reading.specs.Reading.{Item, opens, reading}
use Rattle.plain.specs.Plain.{Plain}
use Rattle.writer_decides.specs.Calls.{item_kind, limit, answered, buffer_after}
use Rattle.round_trip.specs.Listed.{PlainAtAnyLength, items_in, kind_after}

-- the call it stands behind the calls xs: it opens a subsection, or is an entry of the kind of the last call
abbrev pub InPlace : List Item → Item → Type 0
InPlace xs it = (opens it ≡ true) ⊎ (kind_after 0 xs ≡ item_kind it)

-- s is plain, its length aside, and lists the calls xs and then it
abbrev pub ListsWith : List Item → Item → List ℕ → Type 0
ListsWith xs it s = PlainAtAnyLength s × (items_in s ≡ before (xs ++ (it ∷ [])) ends)

module _ (it : Item) (b : List ℕ) (w : ℕ) (xs : List Item) where
  -- number 16: an entry not of the last subsection's kind
  abbrev pub Is16 : Type 0
  Is16 = (InPlace xs it → ⊥) × (answered it b w ≡ refused (told why.WrongPlace))

  -- number 17: no area lists this, however long
  abbrev pub Is17 : Type 0
  Is17 = InPlace xs it × ((s : List ℕ) → ListsWith xs it s → ⊥) × (answered it b w ≡ refused (told why.NotPlain))

  -- number 10: an area that lists it exceeds the smaller of the buffer and the longest area
  abbrev pub Is10 : Type 0
  Is10 = (s : List ℕ) × ListsWith xs it s × (limit (length b) < length s) × (answered it b w ≡ refused (told why.NoRoom))

  -- accepted: an area that lists it is there, and the answer is the place behind it
  abbrev pub IsWritten : Type 0
  IsWritten =
      (s : List ℕ) × ListsWith xs it s × (length s ≤ limit (length b)) × (answered it b w ≡ gave (length s)) × (take (length s) (buffer_after it b w) ≡ s)

-- a place past the buffer or the longest area, or without a plain area before it, is 16; else what is before it reads as calls xs, and one of the four holds
abbrev pub Decided : Type 0
Decided =
    (it : Item) (b : List ℕ) (w : ℕ) → Bytes b
    → (((w ≤ limit (length b)) × Plain (take w b) → ⊥) → answered it b w ≡ refused (told why.WrongPlace))
    × (w ≤ limit (length b) → Plain (take w b)
    → (xs : List Item) × (reading crate_rule (take w b) ≡ before xs ends) × (Is16 it b w xs ⊎ (Is17 it b w xs ⊎ (Is10 it b w xs ⊎ IsWritten it b w xs))))
