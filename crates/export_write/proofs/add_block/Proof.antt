-- `export_write::add_block` meets its contract: without two words nothing; else what `writer::add_block` tells, and the buffer as that leaves it.
-- Assumes nothing.
use borrow.Author.Rules.{rules}
use native.Mathlib.Omega.{arith}
use Rattle.export_write.specs.CallsLaws.{writer_keeps, writer_goes}
use Rattle.export_write.proofs.add_block.Statement.{statement}
use Rattle.export_write.proofs.add_block.Tie as tie

pub add_block_spec : {M : Type 1} → statement M
add_block_spec =
    tie.close
    (tie.spec
    (λ c. writer_keeps _ _ _ _ (omega arith))
    (λ c κs. search rules)
    (λ c κs. search rules)
    (λ c. search rules)
    (λ c. search rules)
    (λ c. writer_goes _ _ _ _ (omega arith) c.add_block.ensures c.put_wrote.ensures))
