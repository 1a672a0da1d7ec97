-- `text::copy` meets its contract. The invariant: to put what is left of the bytes leads to what is wanted. The measure is how many are left.
-- Assumes nothing.
use borrow.Author.Rules.{rules}
use Prim.Native.Nat.{◌+◌, ◌-◌, ◌≤◌}
use mathlib.Core.Path.{◌≡◌, refl, sym, ap, ◌∙◌}
use native.Mathlib.Omega.{arith}
use native.Mathlib.Nat.{add-zero}
use lib.ListN.{length, drop, length-set, drop_of_length-le}
use Rattle.word.specs.Word.{put}
use Rattle.text.specs.PageLaws.{copy_step, put_nil}
use Rattle.text.proofs.copy.Statement.{statement}
use Rattle.text.proofs.copy.Tie as tie

abbrev invariant-loop : tie.invariant-loop-i
invariant-loop buf₀ at bytes i₀ buf i = (put buf (at + i) (drop i bytes) ≡ put buf₀ at bytes) × (length buf ≡ length buf₀) × (i ≤ length bytes)

abbrev decreases-loop : tie.decreases-loop-i
decreases-loop buf₀ at bytes i₀ buf i = length bytes - i

loop-again : tie.Need-loop-i-preserved invariant-loop decreases-loop
loop-again c =
    let l = c.loop-i in
    let a = c.args in
    (copy_step l.buf a.at a.bytes.now l.i (omega arith) (omega arith) ∙ l.invariant.0, simp length-set l.invariant.1, omega arith)

returns : tie.Need-returns invariant-loop decreases-loop
returns c =
    let l = c.loop-i in
    let a = c.args in
    let d = drop_of_length-le a.bytes.now {i = l.i} (omega arith) in
    sym (ap (put l.buf (a.at + l.i)) d ∙ put_nil l.buf (a.at + l.i)) ∙ l.invariant.0

pub copy_spec : {M : Type 1} → statement M
copy_spec =
    tie.close
    (tie.spec
    invariant-loop
    decreases-loop
    (λ c. (ap (λ k. put c.args.buf.now k c.args.bytes.now) (add-zero c.args.at), refl, omega arith))
    (λ c. search rules)
    (λ c. search rules)
    (λ c. search rules)
    (λ c. search rules)
    (λ c. search rules)
    loop-again
    (λ c. search rules)
    returns)
