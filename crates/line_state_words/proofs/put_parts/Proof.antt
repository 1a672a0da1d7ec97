-- `line_state_words::put_parts` meets its contract: zeros; the rest and no place behind it; or the rest and the place.
-- Assumes nothing.
use borrow.Author.Rules.{rules}
use native.Mathlib.Omega.{arith}
use mathlib.Core.List.{◌∷◌}
use mathlib.Core.Path.{sym, ap, ◌∙◌}
use Rattle.line_step.specs.declared.LineWalk.{LineWalk}
use Rattle.word.specs.Word.{put}
use Rattle.line_state_words.specs.LineWords.{rest_size, rest_words, place_words, no_place, part_words}
use Rattle.answer_words.specs.PiecesLaws.{gives_is, two_pieces}
use Rattle.line_state_words.specs.LineWordsLaws.{rest_length}
use Rattle.line_state_words.proofs.put_parts.Statement.{statement}
use Rattle.line_state_words.proofs.put_parts.Tie as tie

returns : tie.Need-returns-in-New
returns c =
    gives_is 1 0 _ c.put.ensures (omega arith)
    ∙ ap (λ (x : LineWalk). put c.args.out.now 0 (part_words x)) (sym c.in-New.is)

returns-2 : tie.Need-returns-in-Between
returns-2 c =
    let o = c.args.out.now in
    let t = c.in-Between.t in
    let q = gives_is 1 rest_size no_place c.put-in-Between.ensures (omega arith) in
    two_pieces o _ _ 0 rest_size (1 ∷ rest_words t) no_place c.put_rest.ensures q (omega (arith, rest_length 1 t)) (omega (arith, rest_length 1 t))
    ∙ ap (λ (x : LineWalk). put o 0 (part_words x)) (sym c.in-Between.is)

returns-3 : tie.Need-returns-in-Inside
returns-3 c =
    let o = c.args.out.now in
    let p = c.in-Inside.p in
    let t = c.in-Inside.t in
    two_pieces o _ _ 0 rest_size (2 ∷ rest_words t) (place_words p) c.put_rest-in-Inside.ensures c.put_place.ensures (omega (arith, rest_length 2 t)) (omega (arith, rest_length 2 t))
    ∙ ap (λ (x : LineWalk). put o 0 (part_words x)) (sym c.in-Inside.is)

pub put_parts_spec : {M : Type 1} → statement M
put_parts_spec =
    tie.close
    (tie.spec
    (λ c. search rules)
    (λ c κs. search rules)
    (λ c. search rules)
    (λ c κs. search rules)
    (λ c κs. search rules)
    (λ c. search rules)
    (λ c κs. search rules)
    (λ c κs. search rules)
    (λ c. search rules)
    returns
    (λ c. search rules)
    returns-2
    (λ c. search rules)
    returns-3)
