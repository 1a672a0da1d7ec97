-- `text::spell` meets its contract. The invariant: to put the digits of what is left of the number leads to what is wanted. The measure is what
-- is left of it.
-- Assumes nothing.
use borrow.Author.Rules.{rules}
use Prim.Native.Nat.{◌+◌, ◌≤◌}
use mathlib.Core.Path.{◌≡◌, refl, ◌∙◌}
use native.Mathlib.Omega.{arith}
use native.Mathlib.Nat.{mod-lt}
use lib.ListN.{length, length-set}
use Rattle.word.specs.Word.{put}
use Rattle.text.specs.Text.{numeral}
use Rattle.text.specs.TextLaws.{smaller, length_one, length_more}
use Rattle.text.specs.PageLaws.{spell_step, spell_end}
use Rattle.text.proofs.spell.Statement.{statement}
use Rattle.text.proofs.spell.Tie as tie

abbrev invariant-loop : tie.invariant-loop-m
invariant-loop buf₀ at n base count i₀ m₀ buf i m =
    (put buf at (numeral base m) ≡ put buf₀ at (numeral base n)) × (i ≡ length (numeral base m)) × (at + i ≤ length buf) × (length buf ≡ length buf₀)

abbrev decreases-loop : tie.decreases-loop-m
decreases-loop buf₀ at n base count i₀ m₀ buf i m = m

loop-again : tie.Need-loop-m-preserved invariant-loop decreases-loop
loop-again c =
    let l = c.loop-m in
    let a = c.args in
    let t = length_more a.base (omega arith) l.m c.loop-m-test.true in (
      spell_step l.buf a.at a.base l.m (omega arith) (omega arith) _ _ (omega arith) (omega arith) c.glyph.ensures ∙ l.invariant.0,
      omega arith,
      simp length-set (omega arith),
      simp length-set l.invariant.3,
    )

returns : tie.Need-returns invariant-loop decreases-loop
returns c =
    let l = c.loop-m in
    let a = c.args in
    let t = length_one a.base (omega arith) l.m c.loop-m-test.false in
    spell_end l.buf a.at a.base l.m (omega arith) (omega arith) _ (omega arith) c.glyph-2.ensures ∙ l.invariant.0

pub spell_spec : {M : Type 1} → statement M
spell_spec =
    tie.close
    (tie.spec
    invariant-loop
    decreases-loop
    (λ c. (refl, omega arith, omega arith, refl))
    (λ c. omega (arith, length_more _ (omega arith) _ c.loop-m-test.true))
    (λ c. search rules)
    (λ c κs. omega (arith, mod-lt c.loop-m.m {m = c.args.base} (omega arith)))
    (λ c. search rules)
    (λ c. omega (arith, length_more _ (omega arith) _ c.loop-m-test.true))
    (λ c. search rules)
    (λ c. smaller _ (omega arith) _ (omega arith))
    loop-again
    (λ c κs. search rules)
    (λ c. omega (arith, length_one _ (omega arith) _ c.loop-m-test.false))
    (λ c. simp length-set c.loop-m.invariant.3)
    returns)
