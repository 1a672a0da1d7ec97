-- `line_state_words::put_line_walk` meets its contract: the state, if there is room for it.
-- Assumes nothing.
use borrow.Author.Rules.{rules}
use native.Mathlib.Omega.{arith}
use Rattle.answer_words.specs.GivenLaws.{gives_short}
use Rattle.line_state_words.specs.LineWords.{line_walk_words}
use Rattle.answer_words.specs.PiecesLaws.{gives_pieces}
use Rattle.line_state_words.specs.LineWordsLaws.{walk_length}
use Rattle.line_state_words.proofs.put_line_walk.Statement.{statement}
use Rattle.line_state_words.proofs.put_line_walk.Tie as tie

returns-2 : tie.Need-returns
returns-2 c =
    let a = c.args in
    gives_pieces a.out.now _ (line_walk_words a.w) c.put_walk.ensures (omega (arith, walk_length a.w))

pub put_line_walk_spec : {M : Type 1} → statement M
put_line_walk_spec =
    tie.close
    (tie.spec
    (λ c. gives_short _ _ (omega (arith, walk_length c.args.w)))
    (λ c κs. search rules)
    (λ c. search rules)
    returns-2)
