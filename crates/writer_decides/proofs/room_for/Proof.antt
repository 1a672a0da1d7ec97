-- `writer_decides::room_for` meets its contract: each return is a case of `room`.
-- Assumes nothing.
use borrow.Author.Rules.{rules}
use native.Mathlib.Omega.{arith}
use Rattle.writer_decides.specs.CallLaws.{room_there, room_none}
use Rattle.writer_decides.proofs.room_for.Statement.{statement}
use Rattle.writer_decides.proofs.room_for.Tie as tie

pub room_for_spec : {M : Type 1} → statement M
room_for_spec =
    tie.close
    (tie.spec
    (λ c κs. search rules)
    (λ c. search rules)
    (λ c. room_there _ _ _ _ _ (omega arith))
    (λ c. room_none _ _ _ _ _ (omega arith))
    (λ c. room_none _ _ _ _ _ (omega arith)))
