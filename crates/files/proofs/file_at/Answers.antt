-- The file at the index of the body that was found, or of an empty one.
use Rattle.std.proofs.Common.{◌∙◌}
use Rattle.std.proofs.lemmas.Result.{err_from_is_err_and}
use Rattle.files.proofs.FilesLaws.{body_in_lem, part_found, part_none, part_refused, file_in_lem, file_refused}
use Rattle.files.proofs.file_at.Goals as goal

pub returns-in_err-span : goal.returns-in_err-span
returns-in_err-span c =
    let p = err_from_is_err_and c.from_residual.result c.from_residual.ensures.1 in
    rw (p.1, p.2) (file_refused _ _ _ _ (part_refused _ _ _ c.in_err-span.ensures))

pub file_in_part-requires : goal.file_in_part-requires
file_in_part-requires c = body_in_lem _ _ _ (rw c.in-Some.is at c.in_ok-span.ensures)

pub returns-in-Some : goal.returns-in-Some
returns-in-Some c =
    c.file_in_part.ensures ∙ file_in_lem _ _ _ _ (part_found _ _ _ (rw c.in-Some.is at c.in_ok-span.ensures))

pub returns-in-None : goal.returns-in-None
returns-in-None c =
    c.file_in_part-in-None.ensures ∙ file_in_lem _ _ _ _ (part_none _ _ (rw c.in-None.is at c.in_ok-span.ensures))
