-- `exports::ascending` meets its contract. The invariant: the pairs ascend if those from the place on do and begin above the last local index.
-- The measure is what is left of the body.
-- Assumes nothing.
use borrow.Author.Rules.{rules}
use Prim.Native.Nat.{◌-◌, ◌≤◌}
use mathlib.Core.Path.{◌≡◌, ◌∙◌}
use native.Mathlib.Omega.{arith}
use lib.ListN.{length}
use Rattle.exports.specs.Exports.{ascends}
use Rattle.exports.specs.ExportsLaws.{pairs_behind, Rises, rises_none, rises_first, rises_not, rises_on, rises_end}
use Rattle.exports.proofs.ascending.Statement.{statement}
use Rattle.exports.proofs.ascending.Tie as tie

abbrev invariant-loop : tie.invariant-loop-at
invariant-loop body last₀ at₀ last at = (Rises body last at ≡ ascends (pairs_behind body 0)) × (at ≤ length body)

abbrev decreases-loop : tie.decreases-loop-at
decreases-loop body last₀ at₀ last at = length body - at

returns-2 : tie.Need-returns-then-local-last invariant-loop decreases-loop
returns-2 c =
    rises_not _ _ _ (omega arith) _ c.u32_at-local.ensures c.if-local-last.true ∙ c.loop-at.invariant.0

loop-again : tie.Need-loop-at-preserved invariant-loop decreases-loop
loop-again c =
    (rises_on _ _ _ (omega arith) _ c.u32_at-local.ensures (omega arith) ∙ c.loop-at.invariant.0, omega arith)

returns-3 : tie.Need-returns invariant-loop decreases-loop
returns-3 c =
    rises_end c.args.body.now c.loop-at.last c.loop-at.at (omega arith) ∙ c.loop-at.invariant.0

pub ascending_spec : {M : Type 1} → statement M
ascending_spec =
    tie.close
    (tie.spec
    invariant-loop
    decreases-loop
    (λ c. rises_none _ (omega arith))
    (λ c κs. search rules)
    (λ c. (rises_first _ (omega arith) _ c.u32_at-last.ensures, omega arith))
    (λ c. search rules)
    (λ c κs. search rules)
    returns-2
    (λ c. search rules)
    (λ c. search rules)
    loop-again
    returns-3)
