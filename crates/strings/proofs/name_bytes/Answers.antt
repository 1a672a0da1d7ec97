-- The part at the place that `name_at` tells.
use Rattle.std.proofs.Common.{arith}
use Rattle.strings.specs.StringsLaws.{name_part}
use Rattle.strings.proofs.name_bytes.Goals as goal

pub overflow_add-result : goal.overflow_add-result
overflow_add-result c = omega (arith, name_part _ _ _ _ c.in-Ok.ensures)

pub slice_bounds-result-end : goal.slice_bounds-result-end
slice_bounds-result-end c = omega (arith, name_part _ _ _ _ c.in-Ok.ensures)
