-- The part that `tables_part` names lies in the stream.
use Rattle.std.proofs.Common.{refl, arith, rules, ◌+◌, ◌≤◌, length}
use Rattle.modi.specs.ModiLaws.{tables_in}
use Rattle.replay.proofs.on_tables_part.Goals as goal

pub overflow_add-part : goal.overflow_add-part
overflow_add-part g c = omega (arith, tables_in _ _ refl c.in-Ok.ensures)

pub slice_bounds-area_answer-end : goal.slice_bounds-area_answer-end
slice_bounds-area_answer-end g c =
    let within : c.in-Ok.part.start + c.in-Ok.part.len ≤ length c.args.stream.now = tables_in _ _ refl c.in-Ok.ensures in
    search rules
