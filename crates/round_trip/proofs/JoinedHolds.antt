-- That areas written apart may be laid end to end: each statement of Joined.antt is proved.
use Rattle.std.specs.Prelude.{◌+◌, List, [], ◌∷◌, ◌++◌, length}
use Rattle.std.proofs.Common.{ap, ◌∙◌, arith, length-append}
use Rattle.area.specs.Parts.{parts}
use Rattle.plain.specs.Plain.{nothing_yet}
use Rattle.plain.specs.LastLaws.{not_long}
use Rattle.writer_decides.specs.Calls.{answered}
use Rattle.round_trip.specs.Run.{State, written, accepted}
use Rattle.round_trip.specs.Apart.{run_apart, begun}
use Rattle.round_trip.proofs.ApartLaws.{plain_front, from_after, begun_kept, apart_alike, apart_run}
use Rattle.round_trip.proofs.JoinedLaws.{Made, made, none_made, both_made, made_writes}
use Rattle.round_trip.specs.Joined.{TwoJoined, Piece, calls_in, bytes_in, AllJoined, PlainJoined, SameApart}

pub two_joined : TwoJoined
two_joined its its' b b' c l =
    made_writes (accepted its b ++ accepted its' b') (written its b ++ written its' b') c (both_made (made its b) (made its' b'))
    (omega (arith, length-append (written its b) (written its' b')))

all_made : (ps : List Piece) → Made (calls_in ps) (bytes_in ps)
all_made [] = none_made
all_made (p ∷ ps) = both_made (made p.calls p.buf) (all_made ps)

pub all_joined : AllJoined
all_joined ps c l = made_writes (calls_in ps) (bytes_in ps) c (all_made ps) l

pub plain_joined : PlainJoined
plain_joined s t p q l =
    let F = from_after (parts t) 0 (length s) nothing_yet p.0 q.0 (not_long t q.0 q.1) in
    (F.0, plain_front s t p.0 p.1 l ∙ F.1)

pub same_apart : SameApart
same_apart its b =
    let R = apart_run its (begun b) (begun_kept b) in
    let e = R.same in (
      ap (λ (x : State). x.buf) e,
      ap (λ (x : State). x.at) e,
      ap (λ (x : State). x.done) e,
      λ it. (apart_alike (run_apart its (begun b)) R.kept it).0 ∙ ap (λ (x : State). answered it x.buf x.at) e,
    )
