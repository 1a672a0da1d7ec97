-- The invariant: the first i words are laid over the start.
use Rattle.std.proofs.Common.{◌≡◌, length, take}
use Rattle.body.specs.Words.{word_bytes}
use Rattle.writer.specs.LentLaws.{over}
use Rattle.writer.proofs.put_words.Given as goal

abbrev pub invariant-loop-i : goal.invariant-loop-i
invariant-loop-i l = (length l.free ≡ length l.initial.free) × (l.free ≡ over (word_bytes (take l.i l.words)) l.initial.free)
