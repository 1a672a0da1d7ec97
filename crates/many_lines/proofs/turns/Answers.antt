-- Each way round, and each way out, is a law of `Turning` at what a turn answers.
use Rattle.std.proofs.Common.{arith, refl}
use Rattle.kinds.specs.Kind.{crate_rule}
use Rattle.line_walk.proofs.NextLaws.{next_falls}
use Rattle.body_lines.specs.FillLaws.{record_falls}
use Rattle.many_lines.specs.BodiesLaws.{turning_record, turning_pass, turning_stops}
use Rattle.many_lines.proofs.turns.Goals as goal

pub loop-n-smaller-in-Ok-Some-Line : goal.loop-n-smaller-in-Ok-Some-Line
loop-n-smaller-in-Ok-Some-Line c =
    let k = c.in-Ok-Some-Line in
    rw k.t-is (record_falls crate_rule _ _ _ _ _ (rw (k.field-0-is, k.field-0-0-is) at k.ensures))

pub loop-n-preserved-in-Ok-Some-Line : goal.loop-n-preserved-in-Ok-Some-Line
loop-n-preserved-in-Ok-Some-Line c =
    let l = c.loop-n in
    let k = c.in-Ok-Some-Line in
    let e = rw (k.field-0-is, k.field-0-0-is) at k.ensures in
    rw k.t-is (
      turning_record crate_rule _ _ _ _ _ _ _ _ _ l.invariant.0 (omega (arith, l.invariant.1)) _ _ _ e (rw k.r-is at c.put_one.ensures)
          (omega (arith, l.invariant.0.size, l.invariant.1)),
      l.invariant.1,
    )

pub loop-n-smaller : goal.loop-n-smaller
loop-n-smaller c =
    let k = c.in-Ok-Some-Pass in
    let e = rw (k.field-0-is, k.field-0-0-is) at k.ensures in
    let h = rw k.t-is at c.bodies_from-x.ensures in
    omega (arith, next_falls crate_rule _ _ _ _ e, h.turns.less)

pub loop-n-preserved : goal.loop-n-preserved
loop-n-preserved c =
    let l = c.loop-n in
    let k = c.in-Ok-Some-Pass in
    let e = rw (k.field-0-is, k.field-0-0-is) at k.ensures in
    (turning_pass crate_rule _ _ _ _ _ _ _ _ _ l.invariant.0 (omega (arith, l.invariant.1)) _ _ _ e (rw k.t-is at c.bodies_from-x.ensures), l.invariant.1)

pub returns-in-Ok-None : goal.returns-in-Ok-None
returns-in-Ok-None c =
    let l = c.loop-n in
    let e = rw c.in-Ok-None.field-0-is at c.in-Ok-None.ensures in
    turning_stops crate_rule _ _ _ _ _ _ _ _ _ l.invariant.0 (omega (arith, l.invariant.1)) _ _ _ e refl c.stopped_at.ensures

pub returns-in-Err : goal.returns-in-Err
returns-in-Err c =
    let l = c.loop-n in
    turning_stops crate_rule _ _ _ _ _ _ _ _ _ l.invariant.0 (omega (arith, l.invariant.1)) _ _ _ c.in-Err.ensures refl c.stopped_at-in-Err.ensures
