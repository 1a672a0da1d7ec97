-- `text::spell_bytes` meets its contract. The invariant: to put what is left of the bytes leads to what is wanted. The measure is how many are left.
-- Assumes nothing.
use borrow.Author.Rules.{rules}
use Prim.Native.Nat.{◌+◌, ◌*◌, ◌-◌, ◌≤◌}
use mathlib.Core.Path.{◌≡◌, refl, sym, ap, ◌∙◌}
use native.Mathlib.Omega.{arith}
use lib.ListN.{length, drop, length-set, drop_of_length-le}
use Rattle.word.specs.Word.{put}
use Rattle.text.specs.Text.{hex_bytes}
use Rattle.text.specs.PageLaws.{hex_step, put_nil}
use Rattle.text.proofs.spell_bytes.Statement.{statement}
use Rattle.text.proofs.spell_bytes.Tie as tie

abbrev invariant-loop : tie.invariant-loop-i
invariant-loop buf₀ at bytes i₀ p₀ buf i p =
    (put buf p (hex_bytes (drop i bytes)) ≡ put buf₀ at (hex_bytes bytes)) × (length buf ≡ length buf₀) × (i ≤ length bytes) × (p ≡ at + 2 * i)

abbrev decreases-loop : tie.decreases-loop-i
decreases-loop buf₀ at bytes i₀ p₀ buf i p = length bytes - i

loop-again : tie.Need-loop-i-preserved invariant-loop decreases-loop
loop-again c =
    let l = c.loop-i in
    let a = c.args in (
      hex_step l.buf l.p a.bytes.now l.i (omega arith) (omega arith) _ _ c.glyph.ensures c.glyph-in-loop-i.ensures ∙ l.invariant.0,
      simp length-set l.invariant.1,
      omega arith,
      omega arith,
    )

returns : tie.Need-returns invariant-loop decreases-loop
unfolding hex_bytes
returns c =
    let l = c.loop-i in
    let a = c.args in
    let d = drop_of_length-le a.bytes.now {i = l.i} (omega arith) in
    sym (ap (λ k. put l.buf l.p (hex_bytes k)) d ∙ put_nil l.buf l.p) ∙ l.invariant.0

pub spell_bytes_spec : {M : Type 1} → statement M
spell_bytes_spec =
    tie.close
    (tie.spec
    invariant-loop
    decreases-loop
    (λ c. (refl, refl, omega arith, omega arith))
    (λ c. search rules)
    (λ c. omega (arith, c.shared_slice_known-in-loop-i-1.given c.loop-i.i))
    (λ c κs. omega (arith, c.shared_slice_known-in-loop-i-1.given c.loop-i.i))
    (λ c. search rules)
    (λ c. search rules)
    (λ c κs. search rules)
    (λ c. search rules)
    (λ c. simp length-set (omega arith))
    (λ c. search rules)
    (λ c. search rules)
    (λ c. search rules)
    loop-again
    (λ c. search rules)
    returns)
