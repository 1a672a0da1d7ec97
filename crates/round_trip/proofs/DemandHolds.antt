-- That the demand on the writer holds: each statement of Demand.antt is proved.
use Rattle.std.specs.Prelude.{ℕ, ◌≤◌, ◌≡◌, refl, ◌⊎◌, List, [], Bool, true, false, cond, length, ltb}
use Rattle.std.proofs.Common.{sym, ap, ◌∙◌, ⊎_elim, arith, ltb-false}
use Rattle.std.proofs.Math.Option.{none, some}
use Rattle.refusal.specs.Told.{longest}
use Rattle.area.specs.Parts.{parts}
use Rattle.kinds.specs.Kind.{crate_rule}
use Rattle.reading.specs.Reading.{reading}
use Rattle.plain.specs.Plain.{Last, nothing_yet, plain_from, plain_of, KnowsPlain}
use Rattle.round_trip.specs.Run.{State, run_calls, empty, accepted}
use Rattle.round_trip.specs.Secs.{calls_of, last_of}
use Rattle.round_trip.proofs.RoundLaws.{plain_here, place_here, run_held, empty_holds, round_trip, before_one}
use Rattle.round_trip.proofs.AgainLaws.{made_again}
use Rattle.round_trip.proofs.EachLaws.{refused_same, behind_same, never_long}
use Rattle.round_trip.proofs.ExactLaws.{longer_fits, fits_longer, fits_told, told_fits}
use Rattle.round_trip.specs.Demand.{RoundTrip, OneHistory, MadeAgain, Careful, WrittenPlain, NotPlainExactly}

pub round : RoundTrip
round = round_trip

-- a rule for kinds needs no more than this
pub crate_knows : KnowsPlain crate_rule
unfolding crate_rule
crate_knows k e = rw e

pub one_history : OneHistory
one_history its its' b b' e =
    before_one (accepted its b) (accepted its' b') (sym (round crate_rule crate_knows its b) ∙ ap (reading crate_rule) e ∙ round crate_rule crate_knows its' b')

pub plain_short : (s : List ℕ) (l : Last) → plain_of s ≡ some l → length s ≤ longest
unfolding plain_of
plain_short s l = by (ltb longest (length s)) refl
  where
    by : (t : Bool) → ltb longest (length s) ≡ t → cond t none (plain_from 0 nothing_yet (parts s)) ≡ some l → length s ≤ longest
    by true e q = let z : ◌≡◌ {A = ℕ} 0 1 = cc in absurd (omega arith)
    by false e q = ltb-false longest (length s) e

pub again : MadeAgain
again rule knows s b h p r =
    let A = made_again rule knows s b p.0 h p.1 (plain_short s p.0 p.1) r in
    let m = A.1 in
    (A.0, m.read, m.all, m.at, m.bytes)

pub careful : Careful
careful it b w = (λ t e. refused_same it b w t e, λ n e. behind_same it b w n e, λ t e z. never_long it b w t e z)

pub written_plain : WrittenPlain
written_plain its b =
    let R = run_held its (empty b) ([], empty_holds b) in
    (last_of 0 nothing_yet R.0, plain_here (run_calls its (empty b)) R.0 R.1)

pub not_plain_exactly : NotPlainExactly
not_plain_exactly its b it =
    let st : State = run_calls its (empty b) in
    let R = run_held its (empty b) ([], empty_holds b) in
    let ss = R.0 in
    let l = last_of 0 nothing_yet ss in
    let p = place_here st ss R.1 in
    let e : accepted its b ≡ calls_of ss = R.1.done in (
      λ t g.
          let f = fits_told it st.buf st.at l p (longer_fits ss it (rw e at g)) in
          ⊎_elim f.0 f.1 t,
      λ x y. rw e (fits_longer ss R.1.good it (told_fits it st.buf st.at l p x y)),
    )
