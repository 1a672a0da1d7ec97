-- The area lies in the stream.
use Rattle.std.proofs.Common.{arith}
use Rattle.modi.specs.ModiLaws.{span_in}
use Rattle.modi.proofs.area_of.Goals as goal

pub overflow_add-result : goal.overflow_add-result
overflow_add-result c = omega (arith, span_in _ _ _ (rw c.in-Ok-Some.field-0-is at c.in-Ok-Some.ensures))

pub slice_bounds-result-end : goal.slice_bounds-result-end
slice_bounds-result-end c = omega (arith, span_in _ _ _ (rw c.in-Ok-Some.field-0-is at c.in-Ok-Some.ensures))
