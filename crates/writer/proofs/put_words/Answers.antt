use Rattle.std.proofs.Common.{arith, refl, ◌∙◌}
use Rattle.body.specs.Words.{word_bytes}
use Rattle.writer.specs.LentLaws.{words_turn}
use Rattle.writer.proofs.put_words.Goals as goal

pub loop-i-init : goal.loop-i-init
unfolding word_bytes
loop-i-init c = (refl, refl)

pub loop-i-preserved : goal.loop-i-preserved
loop-i-preserved c =
    let a = c.args in
    let l = c.loop-i in
    let p = c.put_u32 in
    (p.auto.s ∙ l.invariant.0, words_turn a.words.now a.free.now _ _ l.i c.loop-i-test.true (omega arith) l.invariant.1 p.ensures)
