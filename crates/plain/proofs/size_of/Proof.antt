-- `plain::size_of` meets its contract: each return is a case of `size_of`.
-- Assumes nothing.
use borrow.Author.Tests.{eq-eqb, ne_eqb}
use Rattle.plain.specs.Plain.{size_of}
use Rattle.plain.proofs.size_of.Statement.{statement}
use Rattle.plain.proofs.size_of.Tie as tie

returns : tie.Need-returns-then-kind-eq0
unfolding size_of
returns c = simp (eq-eqb _ _ c.if-kind-eq0.true)

returns-2 : tie.Need-returns-then-kind-eq1
unfolding size_of
returns-2 c = simp (ne_eqb _ _ c.if-kind-eq0.false, eq-eqb _ _ c.if-kind-eq1.true)

returns-3 : tie.Need-returns-then-kind-eq2
unfolding size_of
returns-3 c = simp (ne_eqb _ _ c.if-kind-eq0.false, ne_eqb _ _ c.if-kind-eq1.false, eq-eqb _ _ c.if-kind-eq2.true)

returns-4 : tie.Need-returns
unfolding size_of
returns-4 c = simp (ne_eqb _ _ c.if-kind-eq0.false, ne_eqb _ _ c.if-kind-eq1.false, ne_eqb _ _ c.if-kind-eq2.false)

pub size_of_spec : {M : Type 1} → statement M
size_of_spec =
    tie.close
    (tie.spec
    returns
    returns-2
    returns-3
    returns-4)
