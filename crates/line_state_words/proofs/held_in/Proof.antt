-- `line_state_words::held_in` meets its contract: each way out is a case of `held_in`.
-- Assumes nothing.
use borrow.Author.Rules.{rules}
use Rattle.line_state_words.specs.LineWordsLaws.{held_nothing, held_one}
use Rattle.line_state_words.proofs.held_in.Statement.{statement}
use Rattle.line_state_words.proofs.held_in.Tie as tie

pub held_in_spec : {M : Type 1} → statement M
held_in_spec =
    tie.close
    (tie.spec
    (λ c κs. search rules)
    (λ c. held_nothing _ _ c.state_word.ensures c.if-state_word-eq0.true)
    (λ c κs. search rules)
    (λ c. held_one _ _ c.state_word.ensures c.if-state_word-eq0.false _ c.record_in.ensures))
