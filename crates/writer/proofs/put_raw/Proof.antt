-- `writer::put_raw` meets its contract: the header, and the body copied behind it.
-- Assumes nothing.
use borrow.Author.Rules.{rules}
use lib.ListN.{length}
use Rattle.word.specs.Word.{header}
use Rattle.word.specs.WordLaws.{header_length}
use Rattle.writer.specs.LentLaws.{lent_copy}
use Rattle.writer.proofs.put_raw.Statement.{statement}
use Rattle.writer.proofs.put_raw.Tie as tie

returns : tie.Need-returns
returns c =
    let a = c.args in
    let n = length a.body.now in
    lent_copy (header a.kind n) a.body.now a.free.now _ _ 8 (header_length a.kind n) c.put_two.ensures c.copy.ensures

pub put_raw_spec : {M : Type 1} → statement M
put_raw_spec =
    tie.close
    (tie.spec
    (λ c. search rules)
    (λ c κs. search rules)
    (λ c. search rules)
    (λ c. search rules)
    (λ c. search rules)
    (λ c κs. search rules)
    (λ c. search rules)
    returns)
