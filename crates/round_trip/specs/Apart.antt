-- Writing apart: a run of the writer's calls in which each subsection is written as an area of its own, at the end of what is written. A call is lent the
-- buffer from its subsection on, as far as an area may reach, and so tests no more of what is written than that subsection. Source: document 01,
-- "Writer and plain areas", and DECISIONS.md on areas written apart. The Rust `Writer` calls in this way (rust/src/writer.rs).
-- Definitions only; `same_apart` (round_trip JoinedHolds) says what they mean.
use Rattle.std.specs.Prelude.{ℕ, ◌+◌, ◌-◌, List, [], ◌∷◌, ◌++◌, cond, take, drop}
use Rattle.walk.specs.Listing.{Reply, gave, nothing, refused}
use Rattle.refusal.specs.Told.{Told, longest}
use Rattle.reading.specs.Reading.{Item, opens}
use Rattle.writer_decides.specs.Calls.{answered, buffer_after}
use Rattle.round_trip.specs.Run.{place_after, done_after}

-- the buffer, where the last subsection that was opened begins, the place behind what is written, and the calls that were accepted
pub record Apart : Type 0 where
  pub buf : List ℕ
  pub from : ℕ
  pub at : ℕ
  pub done : List Item

-- where the area of a call begins: one that opens a subsection begins a new area behind what is written, an entry goes to the last one
abbrev pub begins_at : Item → Apart → ℕ
begins_at it a = cond (opens it) a.at a.from

-- the buffer from a place on, as far as an area may reach
abbrev pub rest_from : ℕ → List ℕ → List ℕ
rest_from k b = drop k (take longest b)

-- an answer on the rest, its place counted from the start of the buffer
abbrev pub counted_from : ℕ → Reply ℕ Told → Reply ℕ Told
counted_from k (gave n) = gave (k + n)
counted_from k nothing = nothing
counted_from k (refused t) = refused t

abbrev pub answered_apart : Item → Apart → Reply ℕ Told
answered_apart it a = counted_from (begins_at it a) (answered it (rest_from (begins_at it a) a.buf) (a.at - begins_at it a))

-- the buffer after the call, which changes the rest alone
abbrev pub buffer_apart : Item → Apart → List ℕ
buffer_apart it a =
    take (begins_at it a) a.buf
    ++ (buffer_after it (rest_from (begins_at it a) a.buf) (a.at - begins_at it a) ++ drop longest a.buf)

-- where the last subsection begins then
abbrev pub begins_after : Reply ℕ Told → ℕ → ℕ → ℕ
begins_after (gave n) new old = new
begins_after nothing new old = old
begins_after (refused t) new old = old

abbrev pub called_apart : Item → Apart → Apart
called_apart it a =
    record {
      buf = buffer_apart it a;
      from = begins_after (answered_apart it a) (begins_at it a) a.from;
      at = place_after (answered_apart it a) a.at;
      done = done_after (answered_apart it a) it a.done;
    }

unfoldable pub run_apart : List Item → Apart → Apart
run_apart [] a = a
run_apart (it ∷ its) a = run_apart its (called_apart it a)

-- from an empty area in a buffer of any bytes
abbrev pub begun : List ℕ → Apart
begun b = record { buf = b; from = 0; at = 0; done = [] }
