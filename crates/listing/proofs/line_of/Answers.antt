-- Each way out is a case of `line_answer`.
use Rattle.std.proofs.Common.{sym, ap}
use Rattle.std.proofs.lemmas.Result.{err_from_is_err_and}
use Rattle.std.specs.Prelude.{ℕ, Result}
use Rattle.refusal.specs.declared.Refusal.{Refusal}
use Rattle.text.specs.Told.{told_place}
use Rattle.listing.specs.Step.{line_answer}
use Rattle.listing.proofs.line_of.Goals as goal

pub returns-in_err-len : goal.returns-in_err-len
returns-in_err-len c =
    let p = err_from_is_err_and c.from_residual.result c.from_residual.ensures.1 in
    rw (p.1, p.2) (ap (λ (x : Result ℕ Refusal). line_answer (told_place x) c.args.next) (sym c.in_err-len.was))

pub returns : goal.returns
returns c = ap (λ (x : Result ℕ Refusal). line_answer (told_place x) c.args.next) (sym c.in_ok-len.was)
