-- Each way round, and each way out, is a law of where the walk comes to.
use Rattle.std.proofs.Common.{arith, ap, ◌≡◌, ℕ, true, false}
use Rattle.kinds.specs.Kind.{crate_rule}
use Rattle.line_step.specs.declared.Rest.{Rest}
use Rattle.many_lines.specs.BodiesLaws.{knows_at, comes_at, comes_pass, comes_body, bodies_stuck, bodies_finish}
use Rattle.many_lines.proofs.bodies_on.Goals as goal

pub returns-then-x : goal.returns-then-x
returns-then-x c =
    let l = c.loop-inside in
    let h = comes_at crate_rule _ _ _ _ _ _ true c.if-inside.true l.n l.p l.t l.out l.invariant.0 in
    let g = comes_body crate_rule _ _ _ _ _ l.n l.out l.p l.t _ _ _ h c.body_on-x.ensures c.with_held-t.ensures in
    bodies_stuck crate_rule _ _ _ _ _ _ _ _ (comes_at crate_rule _ _ _ _ _ _ true c.if-x.true _ _ _ _ g)

pub loop-inside-preserved-then-inside : goal.loop-inside-preserved-then-inside
loop-inside-preserved-then-inside c =
    let l = c.loop-inside in
    let w = c.with_held-t.ensures in
    let z = c.body_on-x.ensures.room c.if-x.false in
    let h = comes_at crate_rule _ _ _ _ _ _ true c.if-inside.true l.n l.p l.t l.out l.invariant.0 in
    let g = comes_body crate_rule _ _ _ _ _ l.n l.out l.p l.t _ _ _ h c.body_on-x.ensures w in
    let s : ◌≡◌ {A = ℕ} _ _ = ap (λ (x : Rest). x.scan) w in
    (comes_at crate_rule _ _ _ _ _ _ false c.if-x.false _ _ _ _ g, knows_at crate_rule _ _ _ _ _ s l.invariant.1, omega (arith, z, l.invariant.0.size), l.invariant.3)

pub returns-then-t-eq0 : goal.returns-then-t-eq0
returns-then-t-eq0 c =
    let l = c.loop-inside in
    let h = comes_at crate_rule _ _ _ _ _ _ false c.if-inside.false l.n l.p l.t l.out l.invariant.0 in
    bodies_finish crate_rule _ _ _ _ _ l.n l.p.how l.t l.out _ _ h l.invariant.2 l.invariant.3 c.if-t-eq0.true (omega (arith, l.invariant.2, l.invariant.0.size)) c.last_record.ensures

pub loop-inside-preserved : goal.loop-inside-preserved
loop-inside-preserved c =
    let l = c.loop-inside in
    let z = c.in-Some.ensures in
    let h = comes_at crate_rule _ _ _ _ _ _ false c.if-inside.false l.n l.p l.t l.out l.invariant.0 in
    (comes_pass crate_rule _ _ _ _ _ _ _ _ _ h l.invariant.2 z.0, z.1, l.invariant.2, l.invariant.3)
