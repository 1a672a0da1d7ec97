-- `line_state_words::walk_by` meets its contract: each way out is a case of `walk_by`.
-- Assumes nothing.
use borrow.Author.Rules.{rules}
use native.Mathlib.Omega.{arith}
use Rattle.line_state_words.specs.LineWordsLaws.{walk_new, walk_between, walk_inside}
use Rattle.line_state_words.proofs.walk_by.Statement.{statement}
use Rattle.line_state_words.proofs.walk_by.Tie as tie

pub walk_by_spec : {M : Type 1} → statement M
walk_by_spec =
    tie.close
    (tie.spec
    (λ c κs. search rules)
    (λ c. walk_new _ _ _ c.state_word-tag.ensures c.if-tag-eq0.true)
    (λ c κs. search rules)
    (λ c. walk_between _ _ _ c.state_word-tag.ensures c.if-tag-eq0.false (omega arith) _ c.rest_in-rest.ensures)
    (λ c κs. search rules)
    (λ c.
    walk_inside _ _ _ c.state_word-tag.ensures c.if-tag-eq0.false (λ e. omega arith) _ c.place_in.ensures _ c.rest_in-rest.ensures))
