-- Where the step goes on the pair is put behind what is written and the last length set, else nothing changes.
use Rattle.std.proofs.Common.{arith, refl, ◌≡◌, List, ℕ, leb, Result}
use Rattle.std.proofs.lemmas.Result.{err_from_is_err_and}
use Rattle.word.specs.WordLaws.{header_length}
use Rattle.kinds.specs.Kind.{CROSS_SCOPE_EXPORTS}
use Rattle.refusal.specs.declared.Refusal.{Refusal}
use Rattle.writer_decides.specs.declared.Go.{Go}
use Rattle.writer_decides.specs.Calls.{call_pair, grow_act}
use Rattle.writer_decides.specs.Told.{told_act}
use Rattle.writer.specs.AddLaws.{Adds, adds_known, adds_room, adds_length, adds_goes, adds_stops}
use Rattle.writer.proofs.add_pair.Goals as goal

-- the entry, its length, and what the step says
module _ (l g : ℕ) where
  abbrev need : ℕ → ℕ
  need m = 8

  adds : {b : List ℕ} {w : ℕ} {s : Result Go Refusal} → told_act s ≡ grow_act CROSS_SCOPE_EXPORTS (λ m. leb m l) need b w → Adds (call_pair l g) need b w s
  adds e = record { entry = refl; size = λ m. header_length l g; says = e }

pub returns-in_err-go-clause-result_value : goal.returns-in_err-go-clause-result_value
returns-in_err-go-clause-result_value c =
    let a = c.args in
    let p = err_from_is_err_and c.from_residual.result c.from_residual.ensures.1 in
    rw (p.1, p.2) (adds_stops (adds a.local a.global c.pair_step.ensures) c.in_err-go.was).0

pub returns-in_err-go-clause-buf_after : goal.returns-in_err-go-clause-buf_after
returns-in_err-go-clause-buf_after c =
    let a = c.args in
    (adds_stops (adds a.local a.global c.pair_step.ensures) c.in_err-go.was).1

pub slice_bounds-put_two-count : goal.slice_bounds-put_two-count
slice_bounds-put_two-count c =
    let a = c.args in
    omega (arith, adds_known (adds a.local a.global c.pair_step.ensures) c.in_ok-go.was)

pub slice_bounds-put_two-start : goal.slice_bounds-put_two-start
slice_bounds-put_two-start c =
    let a = c.args in
    omega (arith, adds_known (adds a.local a.global c.pair_step.ensures) c.in_ok-go.was)

pub put_two-requires : goal.put_two-requires
put_two-requires c =
    let a = c.args in
    adds_room (adds a.local a.global c.pair_step.ensures) c.in_ok-go.was

pub put_length-requires : goal.put_length-requires
put_length-requires c =
    let a = c.args in
    adds_length (adds a.local a.global c.pair_step.ensures) c.in_ok-go.was

pub returns-clause-result_value : goal.returns-clause-result_value
returns-clause-result_value c =
    let a = c.args in
    let l = c.put_length.ensures in
    (adds_goes (adds a.local a.global c.pair_step.ensures) c.in_ok-go.was c.put_two.ensures (l.value, l.buf_after)).0

pub returns-clause-buf_after : goal.returns-clause-buf_after
returns-clause-buf_after c =
    let a = c.args in
    let l = c.put_length.ensures in
    (adds_goes (adds a.local a.global c.pair_step.ensures) c.in_ok-go.was c.put_two.ensures (l.value, l.buf_after)).1
