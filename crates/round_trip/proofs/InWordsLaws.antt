-- Plain.antt of `plain` says of an area what InWords.antt of this crate says of it in the words of document 01.
use Rattle.std.specs.Prelude.{ℕ, ◌≤◌, List, length}
use Rattle.std.proofs.Common.{le-ltb}
use Rattle.refusal.specs.Told.{longest}
use Rattle.plain.specs.Plain.{plain_of, Plain}
use Rattle.plain.specs.LastLaws.{not_long}
use Rattle.round_trip.specs.Listed.{PlainAtAnyLength}
use Rattle.round_trip.specs.InWords.{PlainInWords}
use Rattle.round_trip.proofs.ToWordsLaws.{to_words}
use Rattle.round_trip.proofs.FromWordsLaws.{from_words}

-- THE THEOREM
pub in_words : (s : List ℕ) → (Plain s → PlainInWords s) × (PlainInWords s → Plain s)
in_words s = (to_words s, from_words s)

-- and what is plain, its length aside, is so in words where it is no longer than an area may be. Of a longer one the words say nothing, as it has no full
-- reading: it is asked for only where a call is refused with 10 or 17
pub listed_in_words : (s : List ℕ) → length s ≤ longest → (PlainAtAnyLength s → PlainInWords s) × (PlainInWords s → PlainAtAnyLength s)
unfolding plain_of
listed_in_words s h = (
  λ p. to_words s (p.0, rw (le-ltb longest (length s) h) p.1),
  λ q. let p = from_words s q in (p.0, not_long s p.0 p.1),
)
