-- `plain::whole` meets its contract. The invariant: the rest from i on ends whole if and only if the body does. The measure is what is left.
-- Assumes nothing.
use borrow.Author.Rules.{rules}
use Prim.Native.Nat.{◌-◌, ◌≤◌}
use mathlib.Core.Path.{◌≡◌, refl, ◌∙◌}
use native.Mathlib.Omega.{arith}
use lib.ListN.{length, drop}
use Rattle.plain.specs.ScanLaws.{wholly_of, scans}
use Rattle.plain.proofs.whole.Statement.{statement}
use Rattle.plain.proofs.whole.Tie as tie

abbrev invariant-loop : tie.invariant-loop-i
invariant-loop body records i₀ i = (i ≤ length body) × (wholly_of records (drop i body) ≡ wholly_of records body)

abbrev decreases-loop : tie.decreases-loop-i
decreases-loop body records i₀ i = length body - i

returns : tie.Need-returns-then-n-eq0 invariant-loop decreases-loop
returns c =
    let a = c.args in
    (scans a.records a.body.now c.loop-i.i).stuck _ c.loop-i-test.true c.record_at-n.ensures c.if-n-eq0.true ∙ c.loop-i.invariant.1

loop-again : tie.Need-loop-i-preserved invariant-loop decreases-loop
loop-again c =
    let a = c.args in
    let e = c.record_at-n.ensures in
    let w = scans a.records a.body.now c.loop-i.i in
    let h = w.inside _ e in
    (omega arith, w.next _ e c.if-n-eq0.false ∙ c.loop-i.invariant.1)

pub whole_spec : {M : Type 1} → statement M
whole_spec =
    tie.close
    (tie.spec
    invariant-loop
    decreases-loop
    (λ c. (omega arith, refl))
    (λ c κs. search rules)
    returns
    (λ c. omega (arith, (scans c.args.records c.args.body.now c.loop-i.i).inside _ c.record_at-n.ensures))
    (λ c. omega (arith, (scans c.args.records c.args.body.now c.loop-i.i).inside _ c.record_at-n.ensures))
    loop-again
    (λ c. (scans c.args.records c.args.body.now c.loop-i.i).end c.loop-i-test.false ∙ c.loop-i.invariant.1))
