-- DEMAND 3 on the writer. After any sequence of writer calls from an empty buffer, refused ones among them, the full reading of the bytes
-- written is exactly the list of accepted calls, in order. Each plain area, given room, is what the writer makes from its full reading.
--
-- To check what is said here a reader needs Run.antt of this crate (a run of calls), Calls.antt of `writer_decides` (what a call answers and leaves:
-- the contracts of the writer's functions cite it), Reading.antt of `reading` (the full reading), Plain.antt of `plain` (which areas are plain, and
-- which rules for kinds know theirs) and Listed.antt of this crate (the two, the length of an area aside), and no proof. The statements are the six
-- definitions; DemandHolds.antt of proofs/ proves them. What is said of a reading holds by every rule for kinds that knows the plain ones; the crate's is one
-- (`crate_knows`).
use Rattle.std.specs.Prelude.{ℕ, ◌≤◌, ◌≡◌, ◌⊎◌, List, [], ◌∷◌, ◌++◌, length, drop}
use Rattle.std.proofs.Math.Option.{none}
use Rattle.word.specs.Word.{Bytes}
use Rattle.walk.specs.Listing.{Reply, gave, refused, ends, before}
use Rattle.refusal.specs.Told.{Told, told}
use Rattle.refusal.specs.declared.Refusal.TheVariants as why
use Rattle.kinds.specs.Kind.{Sort}
use Rattle.reading.specs.Reading.{Item, reading}
use Rattle.plain.specs.Plain.{Plain, KnowsPlain}
use Rattle.writer_decides.specs.Calls.{answered, buffer_after}
use Rattle.round_trip.specs.Run.{run_calls, empty, written, accepted}
use Rattle.round_trip.specs.Listed.{PlainAtAnyLength, items_in}

-- any calls, over any buffer: what was written is read as the calls that were accepted, and refuses nothing
abbrev pub RoundTrip : Type 0
RoundTrip = (rule : ℕ → Sort) → KnowsPlain rule → (its : List Item) (b : List ℕ) → reading rule (written its b) ≡ before (accepted its b) ends

-- so the bytes determine the history: no two lists of accepted calls leave the same bytes
abbrev pub OneHistory : Type 0
OneHistory = (its its' : List Item) (b b' : List ℕ) → written its b ≡ written its' b' → accepted its b ≡ accepted its' b'

-- a plain area s, and a buffer with room for it: its full reading is a list of calls, and a run of them accepts each, ends behind s, and wrote s
abbrev pub MadeAgain : Type 0
MadeAgain =
    (rule : ℕ → Sort) → KnowsPlain rule → (s b : List ℕ) → Bytes s → Plain s → length s ≤ length b
    → (its : List Item) × (reading rule s ≡ before its ends) × (accepted its b ≡ its) × ((run_calls its (empty b)).at ≡ length s) × (written its b ≡ s)

-- each call alone: one that is refused changes nothing, one that is accepted changes nothing behind the place that it answers, and none gives 11
abbrev pub Careful : Type 0
Careful =
    (it : Item) (b : List ℕ) (w : ℕ)
    → ((t : Told) → answered it b w ≡ refused t → buffer_after it b w ≡ b) × ((n : ℕ) → answered it b w ≡ gave n → drop n (buffer_after it b w) ≡ drop n b)
    × ((t : Told) → answered it b w ≡ refused t → t.number ≡ 11 → ⊥)

-- any calls, over any buffer: what was written is plain
abbrev pub WrittenPlain : Type 0
WrittenPlain = (its : List Item) (b : List ℕ) → Plain (written its b)

-- number 17, exactly. After any calls, over any buffer, the next call is refused with 16 or 17 where no area that is plain, its length aside, lists the
-- accepted calls and then this one; with any other answer there is one. So where 16 is not given, 17 says that the longer area would not be plain, or
-- would not be read as this call, and says nothing of its length
abbrev pub next_answer : List Item → List ℕ → Item → Reply ℕ Told
next_answer its b it = answered it (run_calls its (empty b)).buf (run_calls its (empty b)).at

abbrev pub LongerPlain : List Item → List ℕ → Item → Type 0
LongerPlain its b it = (s : List ℕ) × PlainAtAnyLength s × (items_in s ≡ before (accepted its b ++ (it ∷ [])) ends)

abbrev pub NotPlainExactly : Type 0
NotPlainExactly =
    (its : List Item) (b : List ℕ) (it : Item)
    → ((next_answer its b it ≡ refused (told why.WrongPlace)) ⊎ (next_answer its b it ≡ refused (told why.NotPlain)) → LongerPlain its b it → ⊥)
    × ((next_answer its b it ≡ refused (told why.WrongPlace) → ⊥) → (next_answer its b it ≡ refused (told why.NotPlain) → ⊥) → LongerPlain its b it)
