-- `plain::is_opaque` meets its contract: each way out is a case of `is_opaque`.
-- Assumes nothing.
use native.Mathlib.Omega.{arith}
use Rattle.plain.specs.RecordLaws.{opaque_single, opaque_below, opaque_above, opaque_high}
use Rattle.plain.proofs.is_opaque.Goals as goal

pub returns-in_default : goal.returns-in_default
returns-in_default c = opaque_below _ c.in_default.in_default-own.rest.1 (omega arith)

pub returns-in_default-2 : goal.returns-in_default-2
returns-in_default-2 c = opaque_above _ c.in_default.in_default-own.rest.1 (omega arith) (omega arith)

pub returns-in-241 : goal.returns-in-241
returns-in-241 c = opaque_single _ c.in-241.is

pub returns-in-241-2 : goal.returns-in-241-2
returns-in-241-2 c = opaque_high _ c.in-241.in_default-own.rest.1 (omega arith) (omega arith)
