-- `many_lines::slower` meets its contract: no record, the walk right behind the last, or the walk found by filling the room of just these once more.
-- Assumes nothing.
use borrow.Author.Rules.{rules}
use native.Mathlib.Omega.{arith}
use mathlib.Core.Path.{sym}
use lib.Seq.{length-take-le}
use Rattle.kinds.specs.Kind.{crate_rule}
use Rattle.many_lines.specs.BodiesLaws.{take_fits, answers_none, answers_exact, answers_again}
use Rattle.many_lines.proofs.slower.Statement.{statement}
use Rattle.many_lines.proofs.slower.Tie as tie

pub slower_spec : {M : Type 1} → statement M
slower_spec =
    tie.close
    (tie.spec
    (λ c κs. search rules)
    (λ c κs. search rules)
    (λ c. search rules)
    (λ c. answers_none crate_rule _ _ _ _ _ _ _ _ c.turns-x.ensures c.if-n-eq0.true _ c.told.ensures)
    (λ c. search rules)
    (λ c. answers_exact crate_rule _ _ _ _ _ _ _ _ c.turns-x.ensures c.if-n-eq0.false (search rules))
    (λ c.
    let h = c.turns-x.ensures in
    omega (arith, h.inexact (search rules), h.size))
    (λ c.
    let h = c.turns-x.ensures in
    omega (arith, h.inexact (search rules), h.size))
    (λ c.
    let h = c.turns-x.ensures in
    sym (length-take-le _ _ (omega (arith, h.inexact (search rules), h.size))))
    (λ c κs.
    let h = c.turns-x.ensures in
    take_fits _ _ c.if-n-eq0.false (omega (arith, h.inexact (search rules), h.size)))
    (λ c. search rules)
    (λ c. answers_again crate_rule _ _ _ _ _ _ _ _ c.turns-x.ensures c.if-n-eq0.false (search rules) _ _ c.refill-next.ensures))
