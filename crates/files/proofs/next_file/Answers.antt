-- A step over a table, each of whose entries places its bytes in the body; its own place is its index.
use Rattle.std.proofs.Common.{arith}
use Rattle.std.proofs.lemmas.Result.{err_from_is_err_and}
use Rattle.kinds.specs.Kind.{crate_rule}
use Rattle.checksums.specs.EntryLaws.{entry_lies}
use Rattle.files.proofs.FilesLaws.{file_steps, file_entry}
use Rattle.files.proofs.next_file.Goals as goal

pub returns-in_err-spot : goal.returns-in_err-spot
returns-in_err-spot c =
    let p = err_from_is_err_and c.from_residual.result c.from_residual.ensures.1 in
    rw (p.1, p.2) ((file_steps _ _ _).other c.in_err-spot.ensures)

pub returns-in_default : goal.returns-in_default
returns-in_default c = (file_steps _ _ _).other (rw c.in_default.is at c.in_ok-spot.ensures)

pub overflow_add-body : goal.overflow_add-body
overflow_add-body c =
    let a = c.args in
    omega (arith, (file_steps crate_rule a.area.now a.walk).lies (rw c.in-Some.is at c.in_ok-spot.ensures))

pub slice_bounds-body-end : goal.slice_bounds-body-end
slice_bounds-body-end c =
    let a = c.args in
    omega (arith, (file_steps crate_rule a.area.now a.walk).lies (rw c.in-Some.is at c.in_ok-spot.ensures))

pub returns-in_err-entry : goal.returns-in_err-entry
returns-in_err-entry c =
    let p = err_from_is_err_and c.from_residual-in_err-entry.result c.from_residual-in_err-entry.ensures.1 in
    rw (p.1, p.2) ((file_steps _ _ _).read (rw c.in-Some.is at c.in_ok-spot.ensures) c.in_err-entry.ensures)

pub returns-in_default-2 : goal.returns-in_default-2
returns-in_default-2 c =
    (file_steps _ _ _).read (rw c.in-Some.is at c.in_ok-spot.ensures) (rw c.in_default-2.is at c.in_ok-entry.ensures)

pub overflow_cast-file : goal.overflow_cast-file
overflow_cast-file c =
    let a = c.args in
    omega (
      arith,
      (file_steps crate_rule a.area.now a.walk).lies (rw c.in-Some.is at c.in_ok-spot.ensures),
      entry_lies _ _ _ _ (rw c.in-Some-2.is at c.in_ok-entry.ensures),
    )

pub overflow_add-file : goal.overflow_add-file
overflow_add-file c =
    let a = c.args in
    omega (
      arith,
      (file_steps crate_rule a.area.now a.walk).lies (rw c.in-Some.is at c.in_ok-spot.ensures),
      entry_lies _ _ _ _ (rw c.in-Some-2.is at c.in_ok-entry.ensures),
    )

pub returns : goal.returns
returns c =
    let e = rw c.in-Some-2.is at c.in_ok-entry.ensures in
    file_entry _ _ _ _ _ _ _ e ((file_steps _ _ _).read (rw c.in-Some.is at c.in_ok-spot.ensures) e)
