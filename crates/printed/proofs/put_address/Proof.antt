-- `printed::put_address` meets its contract: its pieces one after the other.
-- Assumes nothing.
use borrow.Author.Rules.{rules}
use native.Mathlib.Omega.{arith}
use Rattle.text.specs.Text.{ascii}
use Rattle.text.specs.PageLaws.{and_one}
use Rattle.printed.proofs.put_address.Statement.{statement}
use Rattle.printed.proofs.put_address.Tie as tie

returns : tie.Need-returns
unfolding ascii
returns c = (
  and_one _ _ _ _ _ (and_one _ _ _ _ _ (and_one _ _ _ _ _ (and_one _ _ _ _ _ c.put_count-a.ensures c.put_bytes-b.ensures) c.put_hex-c.ensures) c.put_bytes-d.ensures) c.put_length.ensures.0,
  (omega arith, omega arith, c.put_length.ensures.1),
)

pub put_address_spec : {M : Type 1} → statement M
put_address_spec =
    tie.close
    (tie.spec
    (λ c. search rules)
    (λ c κs. search rules)
    (λ c κs. search rules)
    (λ c. search rules)
    (λ c κs. search rules)
    (λ c κs. search rules)
    (λ c κs. search rules)
    (λ c. search rules)
    returns)
