-- The words of a module lie in the body.
use Rattle.std.proofs.Common.{arith}
use Rattle.imports.specs.ImportsLaws.{module_next}
use Rattle.reading_record.proofs.module_in.Goals as goal

pub overflow_add-item : goal.overflow_add-item
overflow_add-item c = omega (arith, module_next _ _ _ _ (rw c.in-Some.is at c.in_ok-m.ensures))
