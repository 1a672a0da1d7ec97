-- `line_state_words::how_named` meets its contract: each way out is a case of `how_named`.
-- Assumes nothing.
use native.Mathlib.Omega.{arith}
use Rattle.line_state_words.specs.LineWordsLaws.{named_crate, named_low, named_delta, named_none}
use Rattle.line_state_words.proofs.how_named.Statement.{statement}
use Rattle.line_state_words.proofs.how_named.Tie as tie

pub how_named_spec : {M : Type 1} → statement M
how_named_spec =
    tie.close
    (tie.spec
    (λ c. named_crate _ c.if-n-eq0.true)
    (λ c. named_low _ c.if-n-eq0.false c.if-n-eq1.true)
    (λ c. named_delta _ c.if-n-eq0.false c.if-n-eq1.false (omega arith))
    (λ c. named_none _ c.if-n-eq0.false c.if-n-eq1.false (λ e. omega arith)))
