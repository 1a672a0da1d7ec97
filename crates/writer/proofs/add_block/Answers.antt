-- Where the step goes on the block is put behind what is written and the last length set, else nothing changes.
use Rattle.std.proofs.Common.{arith, refl, ◌≡◌, ◌+◌, ◌*◌, List, ℕ, length, Result}
use Rattle.std.proofs.lemmas.Result.{err_from_is_err_and}
use Rattle.body.specs.LinesLaws.{block_length_lem}
use Rattle.kinds.specs.Kind.{LINES}
use Rattle.refusal.specs.declared.Refusal.{Refusal}
use Rattle.writer_decides.specs.declared.Go.{Go}
use Rattle.writer_decides.specs.Calls.{call_block, block_rule, grow_act}
use Rattle.writer_decides.specs.Told.{told_act}
use Rattle.writer.specs.AddLaws.{Adds, adds_known, adds_room, adds_length, adds_goes, adds_stops}
use Rattle.writer.proofs.add_block.Goals as goal

-- the entry, its length, and what the step says
module _ (f : ℕ) (xs ys : List ℕ) where
  abbrev need : ℕ → ℕ
  need m = 12 + 4 * length xs + 4 * length ys

  adds : {b : List ℕ} {w : ℕ} {s : Result Go Refusal} → told_act s ≡ grow_act LINES (λ m. block_rule m (length xs) (length ys)) need b w → Adds (call_block f xs ys) need b w s
  adds e = record { entry = refl; size = λ m. block_length_lem (record { file = f; lines = xs; columns = ys }); says = e }

pub returns-in_err-go-clause-result_value : goal.returns-in_err-go-clause-result_value
returns-in_err-go-clause-result_value c =
    let a = c.args in
    let p = err_from_is_err_and c.from_residual.result c.from_residual.ensures.1 in
    rw (p.1, p.2) (adds_stops (adds a.file a.lines.now a.columns.now c.block_step.ensures) c.in_err-go.was).0

pub returns-in_err-go-clause-buf_after : goal.returns-in_err-go-clause-buf_after
returns-in_err-go-clause-buf_after c =
    let a = c.args in
    (adds_stops (adds a.file a.lines.now a.columns.now c.block_step.ensures) c.in_err-go.was).1

pub slice_bounds-put_block-count : goal.slice_bounds-put_block-count
slice_bounds-put_block-count c =
    let a = c.args in
    omega (arith, adds_known (adds a.file a.lines.now a.columns.now c.block_step.ensures) c.in_ok-go.was)

pub slice_bounds-put_block-start : goal.slice_bounds-put_block-start
slice_bounds-put_block-start c =
    let a = c.args in
    omega (arith, adds_known (adds a.file a.lines.now a.columns.now c.block_step.ensures) c.in_ok-go.was)

pub put_block-requires : goal.put_block-requires
put_block-requires c =
    let a = c.args in
    (adds_room (adds a.file a.lines.now a.columns.now c.block_step.ensures) c.in_ok-go.was, omega (arith, adds_known (adds a.file a.lines.now a.columns.now c.block_step.ensures) c.in_ok-go.was))

pub put_length-requires : goal.put_length-requires
put_length-requires c =
    let a = c.args in
    adds_length (adds a.file a.lines.now a.columns.now c.block_step.ensures) c.in_ok-go.was

pub returns-clause-result_value : goal.returns-clause-result_value
returns-clause-result_value c =
    let a = c.args in
    let l = c.put_length.ensures in
    (adds_goes (adds a.file a.lines.now a.columns.now c.block_step.ensures) c.in_ok-go.was c.put_block.ensures (l.value, l.buf_after)).0

pub returns-clause-buf_after : goal.returns-clause-buf_after
returns-clause-buf_after c =
    let a = c.args in
    let l = c.put_length.ensures in
    (adds_goes (adds a.file a.lines.now a.columns.now c.block_step.ensures) c.in_ok-go.was c.put_block.ensures (l.value, l.buf_after)).1
