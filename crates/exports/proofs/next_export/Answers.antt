-- What is found lies in the area.
use Rattle.std.proofs.Common.{arith}
use Rattle.kinds.specs.Kind.{crate_rule}
use Rattle.exports.specs.ExportsLaws.{export_steps}
use Rattle.exports.proofs.next_export.Goals as goal

pub overflow_add-body : goal.overflow_add-body
overflow_add-body c =
    let a = c.args in
    omega (arith, (export_steps crate_rule a.area.now a.walk).lies (rw c.in-Some.is at c.in_ok-spot.ensures))

pub slice_bounds-body-end : goal.slice_bounds-body-end
slice_bounds-body-end c =
    let a = c.args in
    omega (arith, (export_steps crate_rule a.area.now a.walk).lies (rw c.in-Some.is at c.in_ok-spot.ensures))
