-- `text::digits` meets its contract. The invariant: the digits counted and those that are left are one more than all. The measure is the number
-- that is left.
-- Assumes nothing.
use borrow.Author.Rules.{rules}
use Prim.Native.Nat.{◌+◌, ◌≤◌}
use mathlib.Core.Path.{◌≡◌, refl}
use native.Mathlib.Omega.{arith}
use lib.ListN.{length}
use Rattle.text.specs.Text.{numeral}
use Rattle.text.specs.TextLaws.{smaller, length_one, length_more}
use Rattle.text.proofs.digits.Statement.{statement}
use Rattle.text.proofs.digits.Tie as tie

abbrev invariant-loop : tie.invariant-loop-m
invariant-loop n base k₀ m₀ k m = (k + length (numeral base m) ≡ 1 + length (numeral base n)) × (k + m ≤ n + 1)

abbrev decreases-loop : tie.decreases-loop-m
decreases-loop n base k₀ m₀ k m = m

loop-again : tie.Need-loop-m-preserved invariant-loop decreases-loop
loop-again c =
    let s = smaller _ (omega arith) _ c.loop-m-test.true in
    let l = length_more _ (omega arith) _ c.loop-m-test.true in
    (omega arith, omega arith)

pub digits_spec : {M : Type 1} → statement M
digits_spec =
    tie.close
    (tie.spec
    invariant-loop
    decreases-loop
    (λ c. (refl, omega arith))
    (λ c. search rules)
    (λ c. search rules)
    (λ c. smaller _ (omega arith) _ (omega arith))
    loop-again
    (λ c. omega (arith, length_one _ (omega arith) _ c.loop-m-test.false)))
