-- That every call of the writer is decided as Decided.antt says.
use Rattle.round_trip.specs.Secs.{calls_of}
use Rattle.round_trip.proofs.DecidedLaws.{not_placed, plain_holds, here_reads, one_of_four}
use Rattle.round_trip.specs.Decided.{Decided}

pub decided : Decided
decided it b w h = (
  not_placed it b w,
  λ l p.
      let B = plain_holds b w h p in
      (calls_of B.0, here_reads it b w B.0 B.2 l B.1, one_of_four it b w B.0 B.2 l B.1),
)
