-- `printed::put_sum` meets its contract: the bytes, if there are any.
-- Assumes nothing.
use borrow.Author.Rules.{rules}
use native.Mathlib.Omega.{arith}
use Rattle.text.specs.Text.{ascii}
use Rattle.text.specs.PageLaws.{same_text}
use Rattle.printed.specs.PrintedLaws.{bytes_none, bytes_some}
use Rattle.printed.proofs.put_sum.Statement.{statement}
use Rattle.printed.proofs.put_sum.Tie as tie

returns : tie.Need-returns-then-bytes-eq0
unfolding ascii
returns c = same_text _ _ _ _ c.put_bytes.ensures (bytes_none _ (omega arith))

pub put_sum_spec : {M : Type 1} → statement M
put_sum_spec =
    tie.close
    (tie.spec
    (λ c κs. search rules)
    (λ c. search rules)
    returns
    (λ c κs. search rules)
    (λ c. search rules)
    (λ c. same_text _ _ _ _ c.put_hex_bytes.ensures (bytes_some _ (λ e. omega arith))))
