-- `printed::put_end` meets its contract.
-- Assumes nothing.
use borrow.Author.Rules.{rules}
use Rattle.text.specs.Text.{ascii}
use Rattle.printed.proofs.put_end.Statement.{statement}
use Rattle.printed.proofs.put_end.Tie as tie

returns : tie.Need-returns
unfolding ascii
returns c = c.put_bytes.ensures

pub put_end_spec : {M : Type 1} → statement M
put_end_spec =
    tie.close
    (tie.spec
    (λ c κs. search rules)
    (λ c. search rules)
    returns)
