-- `exports::global_of` meets its contract. The invariant: the answer from the place on is the answer of the whole body. The measure is what is
-- left of it.
-- Assumes nothing.
use borrow.Author.Rules.{rules}
use Prim.Native.Nat.{◌-◌, ◌≤◌}
use mathlib.Core.Path.{◌≡◌, refl, ◌∙◌}
use native.Mathlib.Omega.{arith}
use lib.ListN.{length}
use Rattle.exports.specs.Exports.{global_of}
use Rattle.exports.specs.ExportsLaws.{pairs_behind, global_hit, global_miss, global_end}
use Rattle.exports.proofs.global_of.Statement.{statement}
use Rattle.exports.proofs.global_of.Tie as tie

abbrev invariant-loop : tie.invariant-loop-at
invariant-loop body local at₀ at = (global_of local (pairs_behind body at) ≡ global_of local (pairs_behind body 0)) × (at ≤ length body)

abbrev decreases-loop : tie.decreases-loop-at
decreases-loop body local at₀ at = length body - at

returns : tie.Need-returns-then-u32_at-local invariant-loop decreases-loop
returns c =
    global_hit _ _ _ (omega arith) _ c.u32_at.ensures c.if-u32_at-local.true _ c.u32_at-then-u32_at-local.ensures ∙ c.loop-at.invariant.0

loop-again : tie.Need-loop-at-preserved invariant-loop decreases-loop
loop-again c =
    (global_miss _ _ _ (omega arith) _ c.u32_at.ensures c.if-u32_at-local.false ∙ c.loop-at.invariant.0, omega arith)

returns-2 : tie.Need-returns invariant-loop decreases-loop
returns-2 c =
    global_end c.args.body.now c.args.local c.loop-at.at (omega arith) ∙ c.loop-at.invariant.0

pub global_of_spec : {M : Type 1} → statement M
global_of_spec =
    tie.close
    (tie.spec
    invariant-loop
    decreases-loop
    (λ c. (refl, search rules))
    (λ c. search rules)
    (λ c κs. search rules)
    (λ c. search rules)
    (λ c κs. search rules)
    returns
    (λ c. search rules)
    (λ c. search rules)
    loop-again
    returns-2)
