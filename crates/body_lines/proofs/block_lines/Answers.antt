-- Markers are turns that pass on.
use Rattle.std.proofs.Common.{arith, sym, ap, ◌∙◌}
use Rattle.line_step.specs.declared.Place.{Place}
use Rattle.body_lines.specs.BodyLinesLaws.{block_put_markers, markers_some}
use Rattle.body_lines.proofs.block_lines.Goals as goal

pub returns-then-is_marker-clause-block_put : goal.returns-then-is_marker-clause-block_put
returns-then-is_marker-clause-block_put c =
    let r = c.requires in
    block_put_markers _ _ _ _ _ _ _ r.lines_fit (omega (arith, r.le_lines)) _ _ (omega (arith, c.count_markers-passed.ensures)) c.past_lines-place.ensures

pub returns-then-is_marker-clause-n_lt_room : goal.returns-then-is_marker-clause-n_lt_room
returns-then-is_marker-clause-n_lt_room c e =
    let a = c.args in
    let l = c.requires.le_lines in
    let m = markers_some a.area.now a.p.line a.p.lines _ (omega (arith, l)) c.line_at-e.ensures.1 (sym c.is_marker.ensures ∙ c.if-is_marker.true) in
    (omega (arith, l), omega (arith, l, m, c.count_markers-passed.ensures, ap (λ (x : Place). x.lines) c.past_lines-place.ensures))
