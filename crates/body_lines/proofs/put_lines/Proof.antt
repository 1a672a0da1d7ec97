-- `body_lines::put_lines` meets its contract. The invariant: the turns so far (`LinesPut`). The measure is the lines left.
-- Assumes nothing.
use borrow.Author.Rules.{rules}
use native.Mathlib.Omega.{arith}
use Prim.Native.Nat.{◌-◌}
use mathlib.Core.Path.{sym, ◌∙◌}
use Rattle.kinds.specs.Kind.{crate_rule}
use Rattle.body_lines.specs.BodyLines.{LinesPut}
use Rattle.body_lines.specs.BodyLinesLaws.{lines_put_start, lines_put_marker, lines_put_line}
use Rattle.body_lines.proofs.put_lines.Statement.{statement}
use Rattle.body_lines.proofs.put_lines.Tie as tie

abbrev invariant-loop : tie.invariant-loop-x
invariant-loop area p room out₀ h x₀ out x = LinesPut crate_rule area p room x₀ out₀ x out

abbrev decreases-loop : tie.decreases-loop-x
decreases-loop area p room out₀ h x₀ out x = p.lines - x.done

pub put_lines_spec : {M : Type 1} → statement M
put_lines_spec =
    tie.close
    (tie.spec
    invariant-loop
    decreases-loop
    (λ c. lines_put_start _ _ _ _ _ _ (omega arith) (omega arith))
    (λ c. search rules)
    (λ c. c.loop-x.invariant)
    (λ c. search rules)
    (λ c. search rules)
    (λ c κs. search rules)
    (λ c κs. search rules)
    (λ c. search rules)
    (λ c. search rules)
    (λ c.
    let l = c.loop-x in
    lines_put_marker _ _ _ _ _ _ c.requires.0 l.x l.out l.invariant (omega (arith, l.invariant.most)) (omega arith) _ c.line_at-e.ensures.1 (sym c.is_marker.ensures ∙ c.if-is_marker.true))
    (λ c. search rules)
    (λ c. search rules)
    (λ c. c.loop-x.invariant)
    (λ c κs.
    let l = c.loop-x in
    let r = c.requires in
    (r.0, (omega (arith, c.loop-x-test.true), omega (arith, c.if-x-room.false, l.invariant.most, l.invariant.size, r.1), omega (arith, c.if-h-e.false))))
    (λ c. search rules)
    (λ c.
    let l = c.loop-x in
    let r = c.requires in
    lines_put_line _ _ _ _ _ _ r.0 l.x l.out l.invariant (omega (arith, l.invariant.most)) (omega arith) _ _ _ _ c.line_at-e.ensures.0 c.line_at-e.ensures.1 (sym c.is_marker.ensures ∙ c.if-is_marker.false) (omega (arith, c.if-h-e.false)) (omega (arith, r.1)) c.put_line-x.ensures)
    (λ c. search rules)
    (λ c. c.loop-x.invariant))
