-- At the end all words are copied in.
use Rattle.std.proofs.Common.{arith}
use Rattle.answer_words.specs.GivenLaws.{stores_copied}
use Rattle.answer_words.proofs.put32.Goals as goal

pub returns : goal.returns
returns c = stores_copied _ _ _ _ c.loop-i.i c.loop-i.invariant (omega arith) (omega arith) (omega arith)
