-- `export_write::open_inlinees` meets its contract: without two words nothing; else what `writer::open_inlinees` tells, and the buffer as that leaves it.
-- Assumes nothing.
use borrow.Author.Rules.{rules}
use native.Mathlib.Omega.{arith}
use Rattle.export_write.specs.CallsLaws.{writer_keeps, writer_goes}
use Rattle.export_write.proofs.open_inlinees.Statement.{statement}
use Rattle.export_write.proofs.open_inlinees.Tie as tie

pub open_inlinees_spec : {M : Type 1} → statement M
open_inlinees_spec =
    tie.close
    (tie.spec
    (λ c. writer_keeps _ _ _ _ (omega arith))
    (λ c κs. search rules)
    (λ c κs. search rules)
    (λ c. search rules)
    (λ c. search rules)
    (λ c. writer_goes _ _ _ _ (omega arith) c.open_inlinees.ensures c.put_wrote.ensures))
