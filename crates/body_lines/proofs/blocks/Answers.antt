-- Each way round is a law of `BlocksPut`, and each way out one of `BodyPut`.
use Rattle.std.proofs.Common.{arith}
use Rattle.line_step.specs.TurnLaws.{next_block_opens}
use Rattle.body_lines.specs.BodyLinesLaws.{blocks_put_block, blocks_put_lines, body_put_stuck}
use Rattle.body_lines.proofs.blocks.Goals as goal

pub loop-held-smaller-in-Ok-Some : goal.loop-held-smaller-in-Ok-Some
loop-held-smaller-in-Ok-Some c =
    let e = rw c.in-Ok-Some.field-0-is at c.in-Ok-Some.ensures in
    let l = c.loop-held in
    omega (arith, next_block_opens _ l.x.place l.invariant.fit.end _ e)

pub loop-held-preserved-in-Ok-Some : goal.loop-held-preserved-in-Ok-Some
loop-held-preserved-in-Ok-Some c =
    let e = rw c.in-Ok-Some.field-0-is at c.in-Ok-Some.ensures in
    let l = c.loop-held in
    blocks_put_block _ _ _ _ _ _ _ l.x l.out l.invariant c.if-p-eq0.true _ _ e

pub returns-then-x : goal.returns-then-x
returns-then-x c =
    let l = c.loop-held in
    body_put_stuck _ _ _ _ _ _ _ l.x l.out l.invariant _ _ c.block_lines-x.ensures.block_put c.if-x.true

pub loop-held-preserved : goal.loop-held-preserved
loop-held-preserved c =
    let l = c.loop-held in
    let k = c.block_lines-x.ensures in
    blocks_put_lines _ _ _ _ _ _ _ l.x l.out l.invariant _ _ k.block_put (k.n_lt_room c.if-x.false).0
