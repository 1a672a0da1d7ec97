-- What is made is the head of the line, and is put with the rest.
use Rattle.std.proofs.Common.{◌≡◌, ℕ, List, arith, refl, sym, ap, ◌∙◌}
use lib.Seq.{length-take-le}
use Rattle.text.specs.Text.{page, piece_written}
use Rattle.text.specs.Told.{told_place}
use Rattle.checksums.specs.Told.{told_kind}
use Rattle.printed.specs.PrintedLaws.{file_head_fits, made_is, made_within, made_line, file_parts}
use Rattle.printed.proofs.put_file.Goals as goal

pub returns-in_err-n : goal.returns-in_err-n
returns-in_err-n c =
    let a = c.args in
    let k = (made_is _ _ _ (file_head_fits a.at a.name (told_kind a.kind) (omega arith) (omega arith)) c.in_err-n.ensures).0 in
    let z : ◌≡◌ {A = ℕ} 0 1 = cc in
    absurd (omega arith)

pub slice_bounds-line-end : goal.slice_bounds-line-end
slice_bounds-line-end c =
    let a = c.args in
    made_within _ _ _ (file_head_fits a.at a.name (told_kind a.kind) (omega arith) (omega arith)) c.in_ok-n.ensures _ refl

pub slice_bounds-put_around-end : goal.slice_bounds-put_around-end
slice_bounds-put_around-end c =
    let a = c.args in
    sym (length-take-le _ _ (made_within _ _ _ (file_head_fits a.at a.name (told_kind a.kind) (omega arith) (omega arith)) c.in_ok-n.ensures _ refl))

pub returns : goal.returns
returns c =
    let a = c.args in
    let l = made_line _ _ _ (file_head_fits a.at a.name (told_kind a.kind) (omega arith) (omega arith)) c.in_ok-n.ensures _ refl in
    c.put_around.ensures ∙ ap (λ (xs : List ℕ). piece_written xs (page a.buf.now (told_place a.place))) (file_parts a.at a.name (told_kind a.kind) _ a.bytes.now l)
