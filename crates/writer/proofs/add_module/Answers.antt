-- Where the step goes on the module is put behind what is written and the last length set, else nothing changes.
use Rattle.std.proofs.Common.{arith, refl, ◌≡◌, ◌+◌, ◌*◌, List, ℕ, true, length, Result}
use Rattle.std.proofs.lemmas.Result.{err_from_is_err_and}
use Rattle.body.specs.ImportsLaws.{module_length}
use Rattle.kinds.specs.Kind.{CROSS_SCOPE_IMPORTS}
use Rattle.refusal.specs.declared.Refusal.{Refusal}
use Rattle.writer_decides.specs.declared.Go.{Go}
use Rattle.writer_decides.specs.Calls.{call_module, grow_act}
use Rattle.writer_decides.specs.Told.{told_act}
use Rattle.writer.specs.AddLaws.{Adds, adds_known, adds_room, adds_length, adds_goes, adds_stops}
use Rattle.writer.proofs.add_module.Goals as goal

-- the entry, its length, and what the step says
module _ (name : ℕ) (ws : List ℕ) where
  abbrev need : ℕ → ℕ
  need m = 8 + 4 * length ws

  adds : {b : List ℕ} {w : ℕ} {s : Result Go Refusal} → told_act s ≡ grow_act CROSS_SCOPE_IMPORTS (λ m. true) need b w → Adds (call_module name ws) need b w s
  adds e = record { entry = refl; size = λ m. module_length (record { name = name; words = ws }); says = e }

pub returns-in_err-go-clause-result_value : goal.returns-in_err-go-clause-result_value
returns-in_err-go-clause-result_value c =
    let a = c.args in
    let p = err_from_is_err_and c.from_residual.result c.from_residual.ensures.1 in
    rw (p.1, p.2) (adds_stops (adds a.name a.words.now c.module_step.ensures) c.in_err-go.was).0

pub returns-in_err-go-clause-buf_after : goal.returns-in_err-go-clause-buf_after
returns-in_err-go-clause-buf_after c =
    let a = c.args in
    (adds_stops (adds a.name a.words.now c.module_step.ensures) c.in_err-go.was).1

pub slice_bounds-put_module-count : goal.slice_bounds-put_module-count
slice_bounds-put_module-count c =
    let a = c.args in
    omega (arith, adds_known (adds a.name a.words.now c.module_step.ensures) c.in_ok-go.was)

pub slice_bounds-put_module-start : goal.slice_bounds-put_module-start
slice_bounds-put_module-start c =
    let a = c.args in
    omega (arith, adds_known (adds a.name a.words.now c.module_step.ensures) c.in_ok-go.was)

pub put_module-requires : goal.put_module-requires
put_module-requires c =
    let a = c.args in
    (adds_room (adds a.name a.words.now c.module_step.ensures) c.in_ok-go.was, omega (arith, adds_known (adds a.name a.words.now c.module_step.ensures) c.in_ok-go.was))

pub put_length-requires : goal.put_length-requires
put_length-requires c =
    let a = c.args in
    adds_length (adds a.name a.words.now c.module_step.ensures) c.in_ok-go.was

pub returns-clause-result_value : goal.returns-clause-result_value
returns-clause-result_value c =
    let a = c.args in
    let l = c.put_length.ensures in
    (adds_goes (adds a.name a.words.now c.module_step.ensures) c.in_ok-go.was c.put_module.ensures (l.value, l.buf_after)).0

pub returns-clause-buf_after : goal.returns-clause-buf_after
returns-clause-buf_after c =
    let a = c.args in
    let l = c.put_length.ensures in
    (adds_goes (adds a.name a.words.now c.module_step.ensures) c.in_ok-go.was c.put_module.ensures (l.value, l.buf_after)).1
