-- `export_write::plain` meets its contract: number 11, or the words of what `is_plain` tells.
-- Assumes nothing.
use borrow.Author.Rules.{rules}
use native.Mathlib.Omega.{arith}
use mathlib.Core.Path.{sym, ap, ◌∙◌}
use Rattle.plain.specs.Told.{told_plain}
use Rattle.answer_words.specs.Given.{Given}
use Rattle.answer_words.specs.GivenLaws.{gives_as, gives_none}
use Rattle.export_write.specs.Calls.{last_given}
use Rattle.export_write.specs.CallsLaws.{plain_long, plain_short}
use Rattle.export_write.proofs.plain.Statement.{statement}
use Rattle.export_write.proofs.plain.Tie as tie

pub plain_spec : {M : Type 1} → statement M
plain_spec =
    tie.close
    (tie.spec
    (λ c κs. search rules)
    (λ c. search rules)
    (λ c. gives_as (λ (g : Given). g) (plain_long _ (omega arith)) c.put_refusal.ensures)
    (λ c κs. search rules)
    (λ c. search rules)
    (λ c. search rules)
    (λ c. search rules)
    (λ c κs. search rules)
    (λ c. search rules)
    (λ c. search rules)
    (λ c.
    let p = ap told_plain (sym c.in-Some.is) ∙ c.is_plain.ensures in
    gives_as (λ (g : Given). g) (ap last_given p ∙ plain_short _ (omega arith)) c.put.ensures)
    (λ c.
    let p = ap told_plain (sym c.in-None.is) ∙ c.is_plain.ensures in
    gives_as (λ (g : Given). g) (ap last_given p ∙ plain_short _ (omega arith)) (gives_none _)))
