-- The entry at the index, in a body that is not too long.
use Rattle.std.proofs.Common.{arith}
use Rattle.std.proofs.lemmas.Result.{err_from_is_err_and}
use Rattle.files.proofs.FilesLaws.{in_read}
use Rattle.files.proofs.file_in.Goals as goal

pub returns-in_err-entry : goal.returns-in_err-entry
returns-in_err-entry c =
    let p = err_from_is_err_and c.from_residual.result c.from_residual.ensures.1 in
    rw (p.1, p.2) (in_read _ _ (omega arith) _ c.in_err-entry.ensures)

pub returns-in-Some : goal.returns-in-Some
returns-in-Some c = in_read _ _ (omega arith) _ (rw c.in-Some.is at c.in_ok-entry.ensures)

pub returns-in-None : goal.returns-in-None
returns-in-None c = in_read _ _ (omega arith) _ (rw c.in-None.is at c.in_ok-entry.ensures)
