-- `line_state_words::put_walk` meets its contract: the parts of the state, and the word for the reading behind them.
-- Assumes nothing.
use borrow.Author.Rules.{rules}
use Prim.Native.Nat.{ℕ}
use native.Mathlib.Omega.{arith}
use mathlib.Core.List.{[], ◌∷◌, ◌++◌}
use mathlib.Core.Path.{sym, ap, ◌∙◌}
use Rattle.word.specs.Word.{put}
use Rattle.answer_words.specs.PiecesLaws.{gives_is, two_pieces}
use Rattle.line_state_words.specs.LineWords.{how_at, how_word, part_words}
use Rattle.line_state_words.specs.LineWordsLaws.{part_length}
use Rattle.line_state_words.proofs.put_walk.Statement.{statement}
use Rattle.line_state_words.proofs.put_walk.Tie as tie

returns : tie.Need-returns
returns c =
    let a = c.args in
    let o = a.out.now in
    let e = sym c.how_word.ensures ∙ ap how_word c.walk_how-how.ensures in
    let l = part_length a.w in
    two_pieces o _ _ 0 how_at (part_words a.w) (c.how_word.result ∷ []) c.put_parts.ensures (gives_is 1 how_at _ c.put.ensures (omega arith)) (omega arith) (omega arith)
    ∙ ap (λ (n : ℕ). put o 0 (part_words a.w ++ (n ∷ []))) e

pub put_walk_spec : {M : Type 1} → statement M
put_walk_spec =
    tie.close
    (tie.spec
    (λ c κs. search rules)
    (λ c κs. search rules)
    (λ c κs. search rules)
    (λ c. search rules)
    (λ c κs. search rules)
    (λ c. search rules)
    returns)
