-- Words that do not fit leave all as it was; at the end all words are copied in.
use Rattle.std.proofs.Common.{arith}
use Rattle.answer_words.specs.GivenLaws.{gives_short, gives_copied}
use Rattle.answer_words.proofs.put.Goals as goal

pub returns-then-out-at : goal.returns-then-out-at
returns-then-out-at c = gives_short _ _ (omega arith)

pub returns : goal.returns
returns c = gives_copied _ _ _ _ c.loop-i.i c.loop-i.invariant _ (omega arith) (omega arith) (omega arith)
