-- A run of the writer's calls over a buffer: each call takes the place that the last accepted one answered. Source: document 01, "Writer and
-- plain areas": a sequence starts at place 0. `answered` and `buffer_after` are what the contracts of the calls cite.
-- Definitions only; a reader must believe them.
use Rattle.std.specs.Prelude.{ℕ, List, [], ◌∷◌, ◌++◌, take}
use Rattle.walk.specs.Listing.{Reply, gave, nothing, refused}
use Rattle.refusal.specs.Told.{Told}
use Rattle.reading.specs.Reading.{Item}
use Rattle.writer_decides.specs.Calls.{answered, buffer_after}

-- the buffer, the place, and the calls that were accepted
pub record State : Type 0 where
  pub buf : List ℕ
  pub at : ℕ
  pub done : List Item

abbrev pub place_after : Reply ℕ Told → ℕ → ℕ
place_after (gave n) w = n
place_after nothing w = w
place_after (refused t) w = w

abbrev pub done_after : Reply ℕ Told → Item → List Item → List Item
done_after (gave n) it ds = ds ++ (it ∷ [])
done_after nothing it ds = ds
done_after (refused t) it ds = ds

abbrev pub called : Item → State → State
called it st =
    record {
      buf = buffer_after it st.buf st.at;
      at = place_after (answered it st.buf st.at) st.at;
      done = done_after (answered it st.buf st.at) it st.done;
    }

unfoldable pub run_calls : List Item → State → State
run_calls [] st = st
run_calls (it ∷ its) st = run_calls its (called it st)

-- from an empty area in a buffer of any bytes
abbrev pub empty : List ℕ → State
empty b = record { buf = b; at = 0; done = [] }

-- what was written, and the calls that were accepted
abbrev pub written : List Item → List ℕ → List ℕ
written its b = take (run_calls its (empty b)).at (run_calls its (empty b)).buf

abbrev pub accepted : List Item → List ℕ → List Item
accepted its b = (run_calls its (empty b)).done
