-- `line_state_words::put_place` meets its contract: one put that fits.
-- Assumes nothing.
use borrow.Author.Rules.{rules}
use native.Mathlib.Omega.{arith}
use Rattle.answer_words.specs.PiecesLaws.{gives_is}
use Rattle.line_state_words.specs.LineWords.{rest_size}
use Rattle.line_state_words.proofs.put_place.Statement.{statement}
use Rattle.line_state_words.proofs.put_place.Tie as tie

pub put_place_spec : {M : Type 1} → statement M
put_place_spec =
    tie.close
    (tie.spec
    (λ c. search rules)
    (λ c. search rules)
    (λ c. search rules)
    (λ c. search rules)
    (λ c. search rules)
    (λ c. search rules)
    (λ c κs. search rules)
    (λ c. search rules)
    (λ c. gives_is 1 rest_size _ c.put.ensures (omega arith)))
