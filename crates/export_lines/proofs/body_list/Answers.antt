-- Without room for a refusal nothing is done.
use Rattle.std.proofs.Common.{arith}
use Rattle.answer_words.specs.Given.{refusal_size}
use Rattle.answer_words.specs.GivenLaws.{room_keeps}
use Rattle.export_lines.proofs.body_list.Goals as goal

pub returns-then-out-lt-REFUSAL_WORDS-clause-gives : goal.returns-then-out-lt-REFUSAL_WORDS-clause-gives
returns-then-out-lt-REFUSAL_WORDS-clause-gives c = (room_keeps refusal_size _ _ c.args.area.now c.args.area.now (omega arith)).0
