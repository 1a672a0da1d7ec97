-- `line_state_words::put_rest` meets its contract: four words, and the record held back behind them.
-- Assumes nothing.
use borrow.Author.Rules.{rules}
use native.Mathlib.Omega.{arith}
use mathlib.Core.List.{[], ◌∷◌}
use mathlib.Core.Path.{refl}
use Rattle.line_state_words.specs.LineWords.{held_at, held_words}
use Rattle.answer_words.specs.PiecesLaws.{gives_is, two_pieces}
use Rattle.line_state_words.proofs.put_rest.Statement.{statement}
use Rattle.line_state_words.proofs.put_rest.Tie as tie

returns : tie.Need-returns
returns c =
    let a = c.args in
    let four = a.tag ∷ a.t.slot ∷ a.t.left ∷ a.t.scan ∷ [] in
    two_pieces a.out.now _ _ 0 held_at four (held_words a.t.held) (gives_is 1 0 four c.put.ensures (omega arith)) c.put_held.ensures refl (omega arith)

pub put_rest_spec : {M : Type 1} → statement M
put_rest_spec =
    tie.close
    (tie.spec
    (λ c. search rules)
    (λ c κs. search rules)
    (λ c κs. search rules)
    (λ c. search rules)
    returns)
