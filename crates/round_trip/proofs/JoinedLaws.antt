-- Runs of calls by what they make: subsections of good form. What two runs make is made by the calls of both.
use Rattle.std.specs.Prelude.{ℕ, ◌≤◌, ◌≡◌, refl, List, [], ◌∷◌, ◌++◌, length}
use Rattle.std.proofs.Common.{sym, ap, ◌∙◌, append_assoc}
use Rattle.area.specs.Join.{join}
use Rattle.area.specs.JoinLaws.{join_append}
use Rattle.body.specs.RunLaws.{Each}
use Rattle.reading.specs.Reading.{Item}
use Rattle.writer_decides.specs.Calls.{limit}
use Rattle.round_trip.specs.Secs.{Sec, calls_sec, GoodSec, raws_of, calls_of}
use Rattle.round_trip.specs.Run.{run_calls, empty, written, accepted}
use Rattle.round_trip.proofs.RoundLaws.{at_is, run_held, empty_holds}
use Rattle.round_trip.proofs.AgainLaws.{raws_append, secs_run}

-- calls of subsections of good form, whose bytes they write
pub record Made (its : List Item) (s : List ℕ) : Type 0 where
  pub secs : List Sec
  pub good : Each GoodSec secs
  pub calls : its ≡ calls_of secs
  pub bytes : s ≡ join (raws_of secs)

pub made : (its : List Item) (b : List ℕ) → Made (accepted its b) (written its b)
made its b =
    let R = run_held its (empty b) ([], empty_holds b) in
    let H = R.1 in
    record { secs = R.0; good = H.good; calls = H.done; bytes = H.is }

pub none_made : Made [] []
unfolding join
none_made = record { secs = []; good = tt; calls = refl; bytes = refl }

each_append : (P : Sec → Type 0) (ss ts : List Sec) → Each P ss → Each P ts → Each P (ss ++ ts)
each_append P [] ts g h = h
each_append P (s ∷ ss) ts g h = (g.0, each_append P ss ts g.1 h)

calls_append : (ss ts : List Sec) → calls_of (ss ++ ts) ≡ calls_of ss ++ calls_of ts
calls_append [] ts = refl
calls_append (s ∷ ss) ts = ap (λ (l : List Item). calls_sec s ++ l) (calls_append ss ts) ∙ sym (append_assoc (calls_sec s) (calls_of ss) (calls_of ts))

pub both_made : {xs ys : List Item} {s t : List ℕ} → Made xs s → Made ys t → Made (xs ++ ys) (s ++ t)
both_made M N =
    let ec = M.calls in
    let ed = N.calls in
    let eb = M.bytes in
    let ef = N.bytes in
    record {
      secs = M.secs ++ N.secs;
      good = each_append GoodSec M.secs N.secs M.good N.good;
      calls = (λ i. ec i ++ ed i) ∙ sym (calls_append M.secs N.secs);
      bytes = (λ i. eb i ++ ef i) ∙ sym (ap join (raws_append M.secs N.secs) ∙ join_append (raws_of M.secs) (raws_of N.secs));
    }

pub made_writes : (its : List Item) (s c : List ℕ) → Made its s → length s ≤ limit (length c)
    → (accepted its c ≡ its) × ((run_calls its (empty c)).at ≡ length s) × (written its c ≡ s)
made_writes its s c M l =
    let ss = M.secs in
    let K = secs_run ss M.good (empty c) [] (empty_holds c) (rw (← M.bytes) l) in
    let H = K.holds in
    let e = M.calls in (
      ap (λ (x : List Item). accepted x c) e ∙ H.done ∙ sym e,
      ap (λ (x : List Item). (run_calls x (empty c)).at) e ∙ at_is (run_calls (calls_of ss) (empty c)) ss H ∙ ap length (sym M.bytes),
      ap (λ (x : List Item). written x c) e ∙ H.is ∙ sym M.bytes,
    )
