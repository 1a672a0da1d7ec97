-- Without room for a record the answer is made of what there is with room for one.
use Rattle.std.proofs.Common.{arith, refl}
use Rattle.kinds.specs.Kind.{crate_rule}
use Rattle.many_lines.specs.BodiesLaws.{lines_short}
use Rattle.many_lines.proofs.next_lines.Goals as goal

pub returns-then-out-lt-RECORD_WORDS-clause-result_value : goal.returns-then-out-lt-RECORD_WORDS-clause-result_value
returns-then-out-lt-RECORD_WORDS-clause-result_value c =
    (lines_short crate_rule _ _ _ _ (omega arith) _ _ _ c.no_room.result c.fill.ensures refl c.no_room.ensures).0

pub returns-then-out-lt-RECORD_WORDS-clause-out_after : goal.returns-then-out-lt-RECORD_WORDS-clause-out_after
returns-then-out-lt-RECORD_WORDS-clause-out_after c =
    (lines_short crate_rule _ _ _ _ (omega arith) _ _ _ c.no_room.result c.fill.ensures refl c.no_room.ensures).1
