-- `printed::put_origin` meets its contract: its pieces one after the other.
-- Assumes nothing.
use borrow.Author.Rules.{rules}
use native.Mathlib.Omega.{arith}
use Rattle.text.specs.Text.{ascii}
use Rattle.text.specs.PageLaws.{just, and_one, and_all}
use Rattle.printed.proofs.put_origin.Statement.{statement}
use Rattle.printed.proofs.put_origin.Tie as tie

returns : tie.Need-returns
unfolding ascii
returns c = (
  and_one _ _ _ _ _ (and_all _ _ _ _ _ (just _ _ _ c.put_kind-k.ensures) c.put_count-p.ensures) c.put_bytes.ensures,
  omega (arith, c.struct_known-1.given),
)

pub put_origin_spec : {M : Type 1} → statement M
put_origin_spec =
    tie.close
    (tie.spec
    (λ c κs. search rules)
    (λ c. search rules)
    (λ c κs. search rules)
    (λ c κs. search rules)
    (λ c. search rules)
    returns)
