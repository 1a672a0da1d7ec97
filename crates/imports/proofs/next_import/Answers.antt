-- A step over a table, each of whose modules places its words in the body.
use Rattle.std.proofs.Common.{arith}
use Rattle.kinds.specs.Kind.{crate_rule}
use Rattle.imports.specs.ImportsLaws.{module_next, import_steps}
use Rattle.imports.proofs.next_import.Goals as goal

pub overflow_add-spot : goal.overflow_add-spot
overflow_add-spot c = omega (arith, (import_steps crate_rule _ _).lies (rw c.in-Some.is at c.in_ok-spot.ensures))

pub slice_bounds-module_at-end : goal.slice_bounds-module_at-end
slice_bounds-module_at-end c = omega (arith, (import_steps crate_rule _ _).lies (rw c.in-Some.is at c.in_ok-spot.ensures))

pub overflow_add-result : goal.overflow_add-result
overflow_add-result c =
    omega (arith, (import_steps crate_rule _ _).lies (rw c.in-Some.is at c.in_ok-spot.ensures), module_next _ _ _ _ (rw c.in-Some-2.is at c.in_ok-module-in-Some.ensures))
