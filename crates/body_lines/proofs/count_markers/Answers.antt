-- Each line is a case of `count_markers`.
use Rattle.std.proofs.Common.{arith, sym, ◌∙◌}
use Rattle.body_lines.specs.BodyLinesLaws.{markers_most, markers_on, markers_stop}
use Rattle.body_lines.proofs.count_markers.Goals as goal

pub returns-then-not-is_marker : goal.returns-then-not-is_marker
returns-then-not-is_marker c =
    let m = sym c.is_marker.ensures ∙ c.if-not-is_marker.true in
    omega (arith, markers_stop _ _ _ _ _ c.loop-i-test.true c.line_at-e.ensures.1 m, c.loop-i.invariant)

pub loop-i-preserved : goal.loop-i-preserved
loop-i-preserved c =
    let m = sym c.is_marker.ensures ∙ c.if-not-is_marker.false in
    markers_on _ _ _ _ _ c.loop-i-test.true c.line_at-e.ensures.1 m ∙ c.loop-i.invariant

pub returns : goal.returns
returns c =
    let a = c.args in
    omega (arith, c.loop-i-test.false, c.loop-i.invariant, markers_most a.area.now a.p.lines a.p.line)
