-- The file at the index of the part that is lent, its place moved.
use Rattle.std.proofs.Common.{arith}
use Rattle.std.proofs.Math.Nat.{add-sub_cancel_left}
use Rattle.std.proofs.lemmas.Result.{err_from_is_err_and}
use Rattle.files.proofs.FilesLaws.{part_read, part_lies}
use Rattle.files.proofs.file_in_part.Goals as goal

pub returns-in_err-entry : goal.returns-in_err-entry
returns-in_err-entry c =
    let a = c.args in
    let p = err_from_is_err_and c.from_residual.result c.from_residual.ensures.1 in
    rw (p.1, p.2) (part_read a.area.now a.start a.len a.index _ _ c.in_err-entry.ensures (add-sub_cancel_left a.start a.len))

pub overflow_add-result : goal.overflow_add-result
overflow_add-result c =
    let a = c.args in
    omega (arith, part_lies a.area.now a.start a.len a.index c.requires _ _ c.in_ok-entry.ensures (add-sub_cancel_left _ _))

pub returns : goal.returns
returns c =
    let a = c.args in
    part_read a.area.now a.start a.len a.index _ _ c.in_ok-entry.ensures (add-sub_cancel_left a.start a.len)
