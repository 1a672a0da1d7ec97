use Rattle.std.proofs.Common.{arith, refl}
use native.Mathlib.Nat.{add-sub_cancel_left}
use Rattle.plain.specs.PlainLaws.{plain_long, plain_first, plain_end, plain_short, plain_cut, plain_bad, plain_next}
use Rattle.plain.proofs.is_plain.Goals as goal

pub returns-then-area-gt-LONGEST : goal.returns-then-area-gt-LONGEST
returns-then-area-gt-LONGEST c = plain_long _ c.if-area-gt-LONGEST.true

pub loop-at-init : goal.loop-at-init
loop-at-init c = (omega arith, plain_first _ c.if-area-gt-LONGEST.false)

pub returns-then-left-lt8 : goal.returns-then-left-lt8
returns-then-left-lt8 c = plain_short _ c.loop-at.at _ c.loop-at.invariant.1 (omega arith) c.if-left-lt8.true

pub returns-then-left-n : goal.returns-then-left-n
returns-then-left-n c =
    let l = c.loop-at in
    plain_cut _ l.at _ l.invariant.1 (omega arith) (omega arith) _ _ c.u32_at-kind.ensures c.u32_at-n.ensures c.if-left-n.true

pub returns-in_err-mark : goal.returns-in_err-mark
returns-in_err-mark c =
    let l = c.loop-at in
    rw c.from_residual.ensures
    (plain_bad _ l.at _ l.invariant.1 (omega arith) (omega arith) _ _ c.u32_at-kind.ensures c.u32_at-n.ensures c.if-left-n.false
    _ _ (add-sub_cancel_left _ _) c.in_err-mark.ensures refl)

pub loop-at-preserved : goal.loop-at-preserved
loop-at-preserved c =
    let l = c.loop-at in (
      omega arith,
      plain_next _ l.at _ l.invariant.1 (omega arith) (omega arith) _ _ c.u32_at-kind.ensures c.u32_at-n.ensures c.if-left-n.false
          _ _ (add-sub_cancel_left _ _) c.in_ok-mark.ensures _ refl,
    )

pub returns : goal.returns
returns c = plain_end _ c.loop-at.at _ c.loop-at.invariant.1 c.loop-at-test.false
