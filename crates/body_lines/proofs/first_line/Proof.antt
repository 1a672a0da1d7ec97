-- `body_lines::first_line` meets its contract: the line's own turn, and the stretch behind it.
-- Assumes nothing.
use native.Mathlib.Omega.{arith}
use Rattle.line_step.specs.declared.Place.{Place}
use borrow.Author.Tests.{eqb-false}
use mathlib.Core.Path.{ap}
use Rattle.body_lines.specs.BodyLinesLaws.{columns_as, held_most, held_size, block_put_first}
use borrow.Author.Rules.{rules}
use Rattle.body_lines.proofs.first_line.Statement.{statement}
use Rattle.body_lines.proofs.first_line.Tie as tie

add-offset : tie.Need-overflow_add-offset
add-offset c = search rules

has-columns-requires : tie.Need-has_columns-requires
has-columns-requires c κs = search rules

column-at-requires : tie.Need-column_at-word-requires
column-at-requires c κs = search rules

put-held-requires : tie.Need-put_held-m-requires
put-held-requires c κs = search rules

put-lines-requires : tie.Need-put_lines-x-requires
put-lines-requires c κs =
    let a = c.args in
    let r = c.requires in
    let m = held_most _ _ _ _ _ _ _ c.put_held-m.ensures a.room (omega (arith, r.1.0)) in
    let z = held_size _ _ _ _ _ _ _ c.put_held-m.ensures (omega (arith, r.1.0)) in
    (r.0, (m, omega (arith, r.1.0), omega (arith, z, r.1.0)))

past-lines-requires : tie.Need-past_lines-place-requires
past-lines-requires c κs = search rules

record-in-requires : tie.Need-record_in-r-requires
record-in-requires c κs = search rules

same_length : tie.Need-shape_of-out
same_length c = search rules

returns : tie.Need-returns
returns c =
    let a = c.args in
    let r = c.requires in
    let w = columns_as _ _ _ _ c.has_columns.ensures c.column_at-word.ensures in
    let x = c.put_lines-x.ensures in
    (block_put_first _ a.area.now a.room a.p a.held a.n a.out.now r.0 (omega (arith, r.1.0)) (omega (arith, r.1.0)) _ _ _ _ _ r.1.1 w (omega (arith, r.1.0)) c.put_held-m.ensures _ _ _ _ _ x c.past_lines-place.ensures c.record_in-r.ensures, λ e. (omega (arith, x.most, eqb-false), omega (arith, ap (λ (k : Place). k.lines) c.past_lines-place.ensures, x.on, r.1.0)))

pub first_line_spec : {M : Type 1} → statement M
first_line_spec =
    tie.close
    (tie.spec
    add-offset
    has-columns-requires
    column-at-requires
    put-held-requires
    put-lines-requires
    past-lines-requires
    record-in-requires
    same_length
    returns)
