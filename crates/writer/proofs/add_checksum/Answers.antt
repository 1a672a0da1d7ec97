-- Where the step goes on the entry is put behind what is written and the last length set, else nothing changes.
use Rattle.std.proofs.Common.{arith, refl, ◌≡◌, ◌+◌, List, ℕ, length, Result}
use Rattle.std.proofs.lemmas.Result.{err_from_is_err_and}
use Rattle.body.specs.Checksums.{up4}
use Rattle.body.specs.ChecksumsLaws.{checksum_length}
use Rattle.kinds.specs.Kind.{FILE_CHECKSUMS}
use Rattle.refusal.specs.declared.Refusal.{Refusal}
use Rattle.writer_decides.specs.declared.Go.{Go}
use Rattle.writer_decides.specs.Calls.{call_checksum, checksum_rule, grow_act}
use Rattle.writer_decides.specs.Told.{told_act}
use Rattle.writer_decides.specs.CallLaws.{fits_size, fits_up}
use Rattle.writer.specs.AddLaws.{Adds, adds_known, adds_room, adds_length, adds_goes, adds_stops}
use Rattle.writer.proofs.add_checksum.Goals as goal

-- the entry, its length, and what the step says
module _ (name k : ℕ) (bs : List ℕ) where
  abbrev need : ℕ → ℕ
  need m = up4 (6 + length bs)

  adds : {b : List ℕ} {w : ℕ} {s : Result Go Refusal} → told_act s ≡ grow_act FILE_CHECKSUMS (λ m. checksum_rule k (length bs)) need b w → Adds (call_checksum name k bs) need b w s
  adds e = record { entry = refl; size = λ m. checksum_length (record { name = name; kind = k; bytes = bs }); says = e }

pub returns-in_err-go-clause-result_value : goal.returns-in_err-go-clause-result_value
returns-in_err-go-clause-result_value c =
    let a = c.args in
    let p = err_from_is_err_and c.from_residual.result c.from_residual.ensures.1 in
    rw (p.1, p.2) (adds_stops (adds a.name a.kind a.bytes.now c.checksum_step.ensures) c.in_err-go.was).0

pub returns-in_err-go-clause-buf_after : goal.returns-in_err-go-clause-buf_after
returns-in_err-go-clause-buf_after c =
    let a = c.args in
    (adds_stops (adds a.name a.kind a.bytes.now c.checksum_step.ensures) c.in_err-go.was).1

pub slice_bounds-put_checksum-count : goal.slice_bounds-put_checksum-count
slice_bounds-put_checksum-count c =
    let a = c.args in
    omega (arith, adds_known (adds a.name a.kind a.bytes.now c.checksum_step.ensures) c.in_ok-go.was)

pub slice_bounds-put_checksum-start : goal.slice_bounds-put_checksum-start
slice_bounds-put_checksum-start c =
    let a = c.args in
    omega (arith, adds_known (adds a.name a.kind a.bytes.now c.checksum_step.ensures) c.in_ok-go.was)

pub put_checksum-requires : goal.put_checksum-requires
put_checksum-requires c =
    let a = c.args in
    let o = (adds_known (adds a.name a.kind a.bytes.now c.checksum_step.ensures) c.in_ok-go.was).obeyed in
    (omega (arith, adds_room (adds a.name a.kind a.bytes.now c.checksum_step.ensures) c.in_ok-go.was, fits_up a.kind (length a.bytes.now) o), (fits_size a.kind _ o).1)

pub put_length-requires : goal.put_length-requires
put_length-requires c =
    let a = c.args in
    adds_length (adds a.name a.kind a.bytes.now c.checksum_step.ensures) c.in_ok-go.was

pub returns-clause-result_value : goal.returns-clause-result_value
returns-clause-result_value c =
    let a = c.args in
    let l = c.put_length.ensures in
    (adds_goes (adds a.name a.kind a.bytes.now c.checksum_step.ensures) c.in_ok-go.was c.put_checksum.ensures (l.value, l.buf_after)).0

pub returns-clause-buf_after : goal.returns-clause-buf_after
returns-clause-buf_after c =
    let a = c.args in
    let l = c.put_length.ensures in
    (adds_goes (adds a.name a.kind a.bytes.now c.checksum_step.ensures) c.in_ok-go.was c.put_checksum.ensures (l.value, l.buf_after)).1
