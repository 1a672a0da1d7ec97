-- `body_list::halved` meets its contract. The invariant: the halving of the span that is left finds what that of the whole list does. The measure is
-- the length of the span.
-- Assumes nothing.
use borrow.Author.Rules.{rules}
use Prim.Native.Nat.{◌-◌, ◌≤◌}
use mathlib.Core.Path.{◌≡◌, refl, ◌∙◌}
use native.Mathlib.Omega.{arith}
use lib.ListN.{length}
use mir.Facts.{Fits-32_64}
use Rattle.body_list.specs.Search.{halved}
use Rattle.body_list.specs.HalvingLaws.{halved_none, halved_here, halved_back, halved_front}
use Rattle.body_list.proofs.halved.Statement.{statement}
use Rattle.body_list.proofs.halved.Tie as tie

abbrev invariant-loop : tie.invariant-loop-from
invariant-loop bodies body from₀ to₀ from to = (to ≤ length bodies) × (halved body bodies from to ≡ halved body bodies 0 (length bodies))

abbrev decreases-loop : tie.decreases-loop-from
decreases-loop bodies body from₀ to₀ from to = to - from

pub halved_spec : {M : Type 1} → statement M
halved_spec =
    tie.close
    (tie.spec
    invariant-loop
    decreases-loop
    (λ c. (omega arith, refl))
    (λ c. search rules)
    (λ c. search rules)
    (λ c. search rules)
    (λ c. search rules)
    (λ c. Fits-32_64 (c.shared_slice_known-1.given _))
    (λ c. halved_here _ _ _ _ c.loop-from-test.true c.if-at-body.true ∙ c.loop-from.invariant.1)
    (λ c. search rules)
    (λ c. search rules)
    (λ c.
    (omega arith, halved_back _ _ _ _ c.loop-from-test.true c.if-at-body.false c.if-at-body-2.true ∙ c.loop-from.invariant.1))
    (λ c. search rules)
    (λ c.
    (omega arith, halved_front _ _ _ _ c.loop-from-test.true c.if-at-body.false c.if-at-body-2.false ∙ c.loop-from.invariant.1))
    (λ c. halved_none _ _ _ _ c.loop-from-test.false ∙ c.loop-from.invariant.1))
