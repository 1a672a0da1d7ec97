-- Zeros, or a one and the record behind it.
use Rattle.std.proofs.Common.{arith, refl, sym, ap, ◌∙◌, [], ◌∷◌, ◌+◌}
use Rattle.word.specs.Word.{put}
use Rattle.answer_words.specs.PiecesLaws.{gives_is, two_pieces}
use Rattle.line_state_words.specs.LineWords.{held_at, record_words, held_words}
use Rattle.line_state_words.specs.LineWordsLaws.{record_is}
use Rattle.line_state_words.proofs.put_held.Goals as goal

pub returns-in-None : goal.returns-in-None
returns-in-None c = gives_is 1 held_at _ c.put.ensures (omega arith) ∙ ap (λ h. put c.args.out.now held_at (held_words h)) (sym c.in-None.is)

pub returns-in-Some : goal.returns-in-Some
returns-in-Some c =
    let o = c.args.out.now in
    let r = c.in-Some.r in
    let q = gives_is 1 held_at (1 ∷ []) c.put-in-Some.ensures (omega arith) in
    two_pieces o _ _ held_at (held_at + 1) (1 ∷ []) (record_words r) q (record_is _ _ (held_at + 1) r c.put_record.ensures (omega arith)) refl (omega arith)
    ∙ ap (λ h. put o held_at (held_words h)) (sym c.in-Some.is)
