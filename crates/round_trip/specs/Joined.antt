-- AREAS WRITTEN APART may be laid end to end. So who writes a long area need not hand all of it to each call, which tests what it is handed: each
-- subsection can be written as an area of its own into the free rest of the buffer.
--
-- To check what is said here a reader needs what Demand.antt of this crate names, and for `SameApart` also Apart.antt of this crate (a run that writes
-- apart), and no proof. The statements are `TwoJoined`, `AllJoined`, `PlainJoined` and `SameApart`; JoinedHolds.antt of proofs/ proves them. A call that was
-- refused is no part of an area: what is said of the area of a run is said of the calls that the run accepted.
use Rattle.std.specs.Prelude.{ℕ, ◌+◌, ◌≤◌, ◌≡◌, List, [], ◌∷◌, ◌++◌, length}
use Rattle.refusal.specs.Told.{longest}
use Rattle.reading.specs.Reading.{Item}
use Rattle.plain.specs.Plain.{Plain}
use Rattle.writer_decides.specs.Calls.{limit, answered}
use Rattle.round_trip.specs.Run.{run_calls, empty, written, accepted}
use Rattle.round_trip.specs.Apart.{answered_apart, run_apart, begun}

-- the calls its, from an empty area in the buffer c: each is accepted, and together they write s
abbrev pub Write : List Item → List ℕ → List ℕ → Type 0
Write its c s = (accepted its c ≡ its) × ((run_calls its (empty c)).at ≡ length s) × (written its c ≡ s)

-- two runs, each from an empty area in a buffer of its own, refused calls among them: the accepted calls of the one and then those of the other write the two
-- areas end to end, in any buffer that has room for both, as far as an area may reach
abbrev pub TwoJoined : Type 0
TwoJoined =
    (its its' : List Item) (b b' c : List ℕ) → length (written its b) + length (written its' b') ≤ limit (length c)
    → Write (accepted its b ++ accepted its' b') c (written its b ++ written its' b')

-- the same of any number of runs
pub record Piece : Type 0 where
  pub calls : List Item
  pub buf : List ℕ

abbrev pub calls_in : List Piece → List Item
calls_in [] = []
calls_in (p ∷ ps) = accepted p.calls p.buf ++ calls_in ps

abbrev pub bytes_in : List Piece → List ℕ
bytes_in [] = []
bytes_in (p ∷ ps) = written p.calls p.buf ++ bytes_in ps

abbrev pub AllJoined : Type 0
AllJoined = (ps : List Piece) (c : List ℕ) → length (bytes_in ps) ≤ limit (length c) → Write (calls_in ps) c (bytes_in ps)

-- and of plain areas, whoever wrote them
abbrev pub PlainJoined : Type 0
PlainJoined = (s t : List ℕ) → Plain s → Plain t → length s + length t ≤ longest → Plain (s ++ t)

-- any calls, over any buffer, refused ones among them: a run that writes apart leaves the same buffer, place and accepted calls as the run on the whole,
-- and the next call, whichever it is, is answered the same
abbrev pub SameApart : Type 0
SameApart =
    (its : List Item) (b : List ℕ)
    → ((run_apart its (begun b)).buf ≡ (run_calls its (empty b)).buf) × ((run_apart its (begun b)).at ≡ (run_calls its (empty b)).at)
    × ((run_apart its (begun b)).done ≡ (run_calls its (empty b)).done)
    × ((it : Item) → answered_apart it (run_apart its (begun b)) ≡ answered it (run_calls its (empty b)).buf (run_calls its (empty b)).at)
