-- `printed::put_count` meets its contract: the word, and then the number.
-- Assumes nothing.
use borrow.Author.Rules.{rules}
use Rattle.text.specs.PageLaws.{just, and_one}
use Rattle.printed.proofs.put_count.Statement.{statement}
use Rattle.printed.proofs.put_count.Tie as tie

pub put_count_spec : {M : Type 1} → statement M
put_count_spec =
    tie.close
    (tie.spec
    (λ c κs. search rules)
    (λ c κs. search rules)
    (λ c. search rules)
    (λ c. and_one _ _ _ _ _ (just _ _ _ c.put_bytes-p.ensures) c.put_decimal.ensures))
