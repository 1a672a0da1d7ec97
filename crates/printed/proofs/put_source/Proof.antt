-- `printed::put_source` meets its contract: its pieces one after the other.
-- Assumes nothing.
use borrow.Author.Rules.{rules}
use native.Mathlib.Omega.{arith}
use Rattle.text.specs.Text.{ascii}
use Rattle.text.specs.PageLaws.{and_all}
use Rattle.printed.proofs.put_source.Statement.{statement}
use Rattle.printed.proofs.put_source.Tie as tie

returns : tie.Need-returns
unfolding ascii
returns c =
    let k = c.struct_known-1.given in (
      and_all _ _ _ _ _ (and_all _ _ _ _ _ c.put_count-a.ensures c.put_count-b.ensures) c.put_count.ensures,
      (omega (arith, k), omega (arith, k), omega (arith, k)),
    )

pub put_source_spec : {M : Type 1} → statement M
put_source_spec =
    tie.close
    (tie.spec
    (λ c. search rules)
    (λ c κs. search rules)
    (λ c. search rules)
    (λ c κs. search rules)
    (λ c. search rules)
    (λ c κs. search rules)
    (λ c. search rules)
    returns)
