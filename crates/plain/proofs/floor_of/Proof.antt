-- `plain::floor_of` meets its contract. The invariant: the pairs from i on ascend from the floor as all of them do from 0. The measure is what
-- is left of the body.
-- Assumes nothing.
use borrow.Author.Rules.{rules}
use Prim.Native.Nat.{◌-◌, ◌≤◌, ◌%◌}
use mathlib.Core.Path.{◌≡◌, refl, ◌∙◌}
use native.Mathlib.Omega.{arith}
use lib.ListN.{length}
use Rattle.body.specs.Exports.{pairs}
use Rattle.plain.specs.Plain.{ascends_from}
use Rattle.plain.specs.PlainLaws.{pairs_from, floor_odd, floor_first, floor_end, floor_bad, floor_next}
use Rattle.plain.proofs.floor_of.Statement.{statement}
use Rattle.plain.proofs.floor_of.Tie as tie

abbrev invariant-loop : tie.invariant-loop-i
invariant-loop body floor₀ i₀ floor i =
    (i ≤ length body) × (i % 8 ≡ 0) × (length body % 8 ≡ 0) × (floor ≤ 4294967296) × (ascends_from floor (pairs_from body i) ≡ ascends_from 0 (pairs body))

abbrev decreases-loop : tie.decreases-loop-i
decreases-loop body floor₀ i₀ floor i = length body - i

returns-2 : tie.Need-returns-then-local-floor invariant-loop decreases-loop
returns-2 c =
    floor_bad _ c.loop-i.i c.loop-i.floor (omega arith) _ c.u32_at-local.ensures c.if-local-floor.true ∙ c.loop-i.invariant.4

loop-again : tie.Need-loop-i-preserved invariant-loop decreases-loop
loop-again c =
    let u = c.u32_at-local in
    (omega arith, omega arith, c.loop-i.invariant.2, omega (arith, u.type_inv), floor_next _ c.loop-i.i c.loop-i.floor (omega arith) _ u.ensures c.if-local-floor.false ∙ c.loop-i.invariant.4)

returns-3 : tie.Need-returns invariant-loop decreases-loop
returns-3 c =
    let l = c.loop-i in
    floor_end _ l.i l.floor c.loop-i-test.false ∙ l.invariant.4

pub floor_of_spec : {M : Type 1} → statement M
floor_of_spec =
    tie.close
    (tie.spec
    invariant-loop
    decreases-loop
    (λ c. floor_odd _ c.if-body-ne0.true)
    (λ c. (omega arith, refl, omega arith, omega arith, floor_first _ (omega arith)))
    (λ c κs. search rules)
    (λ c. search rules)
    returns-2
    (λ c. search rules)
    (λ c. omega arith)
    (λ c. omega arith)
    loop-again
    returns-3)
