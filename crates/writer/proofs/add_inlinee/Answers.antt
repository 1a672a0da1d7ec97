-- Where the step goes on the inlinee is put behind what is written and the last length set, else nothing changes.
use Rattle.std.proofs.Common.{arith, refl, ◌≡◌, ◌+◌, List, ℕ, length, Result}
use Rattle.std.proofs.lemmas.Result.{err_from_is_err_and}
use Rattle.body.specs.Inlinees.{extended, extra_length}
use Rattle.body.specs.InlineesLaws.{inlinee_length}
use Rattle.kinds.specs.Kind.{INLINEE_LINES}
use Rattle.refusal.specs.declared.Refusal.{Refusal}
use Rattle.writer_decides.specs.declared.Go.{Go}
use Rattle.writer_decides.specs.Calls.{call_inlinee, extra_rule, grow_act}
use Rattle.writer_decides.specs.Told.{told_act}
use Rattle.writer_decides.specs.CallLaws.{extra_small}
use Rattle.writer.specs.AddLaws.{Adds, adds_known, adds_room, adds_length, adds_goes, adds_stops}
use Rattle.writer.proofs.add_inlinee.Goals as goal

-- the entry, its length, and what the step says
module _ (i f l : ℕ) (xs : List ℕ) where
  abbrev need : ℕ → ℕ
  need m = 12 + extra_length (extended m) (length xs)

  adds : {b : List ℕ} {w : ℕ} {s : Result Go Refusal} → told_act s ≡ grow_act INLINEE_LINES (λ m. extra_rule m (length xs)) need b w → Adds (call_inlinee i f l xs) need b w s
  adds e = record { entry = refl; size = λ m. inlinee_length (extended m) (record { inlinee = i; file = f; line = l; extra = xs }); says = e }

pub returns-in_err-go-clause-result_value : goal.returns-in_err-go-clause-result_value
returns-in_err-go-clause-result_value c =
    let a = c.args in
    let p = err_from_is_err_and c.from_residual.result c.from_residual.ensures.1 in
    rw (p.1, p.2) (adds_stops (adds a.inlinee a.file a.line a.extra.now c.inlinee_step.ensures) c.in_err-go.was).0

pub returns-in_err-go-clause-buf_after : goal.returns-in_err-go-clause-buf_after
returns-in_err-go-clause-buf_after c =
    let a = c.args in
    (adds_stops (adds a.inlinee a.file a.line a.extra.now c.inlinee_step.ensures) c.in_err-go.was).1

pub slice_bounds-put_inlinee-count : goal.slice_bounds-put_inlinee-count
slice_bounds-put_inlinee-count c =
    let a = c.args in
    omega (arith, adds_known (adds a.inlinee a.file a.line a.extra.now c.inlinee_step.ensures) c.in_ok-go.was)

pub slice_bounds-put_inlinee-start : goal.slice_bounds-put_inlinee-start
slice_bounds-put_inlinee-start c =
    let a = c.args in
    omega (arith, adds_known (adds a.inlinee a.file a.line a.extra.now c.inlinee_step.ensures) c.in_ok-go.was)

pub put_inlinee-requires : goal.put_inlinee-requires
put_inlinee-requires c =
    let a = c.args in
    let k = adds_known (adds a.inlinee a.file a.line a.extra.now c.inlinee_step.ensures) c.in_ok-go.was in
    (adds_room (adds a.inlinee a.file a.line a.extra.now c.inlinee_step.ensures) c.in_ok-go.was, extra_small c.in_ok-go.go.mark _ k.obeyed (omega arith))

pub put_length-requires : goal.put_length-requires
put_length-requires c =
    let a = c.args in
    adds_length (adds a.inlinee a.file a.line a.extra.now c.inlinee_step.ensures) c.in_ok-go.was

pub returns-clause-result_value : goal.returns-clause-result_value
returns-clause-result_value c =
    let a = c.args in
    let l = c.put_length.ensures in
    (adds_goes (adds a.inlinee a.file a.line a.extra.now c.inlinee_step.ensures) c.in_ok-go.was c.put_inlinee.ensures (l.value, l.buf_after)).0

pub returns-clause-buf_after : goal.returns-clause-buf_after
returns-clause-buf_after c =
    let a = c.args in
    let l = c.put_length.ensures in
    (adds_goes (adds a.inlinee a.file a.line a.extra.now c.inlinee_step.ensures) c.in_ok-go.was c.put_inlinee.ensures (l.value, l.buf_after)).1
