-- `listing::head_step` meets its contract: an area that is too long is refused, any other has its head.
-- Assumes nothing.
use borrow.Author.Rules.{rules}
use native.Mathlib.Omega.{arith}
use mathlib.Core.Path.{ap, ◌∙◌}
use Rattle.refusal.specs.declared.Refusal.TheVariants as why
use Rattle.printed.specs.PrintedLaws.{short_fits, head_fits, refused_fits}
use Rattle.listing.specs.Step.{line_shown}
use Rattle.listing.specs.StepLaws.{line_shown_lem, head_long, head_short}
use Rattle.listing.proofs.head_step.Statement.{statement}
use Rattle.listing.proofs.head_step.Tie as tie

pub head_step_spec : {M : Type 1} → statement M
head_step_spec =
    tie.close
    (tie.spec
    (λ c κs. search rules)
    (λ c κs. search rules)
    (λ c. search rules)
    (λ c.
    line_shown_lem _ _ _ _ _ _ (omega arith) (short_fits (refused_fits why.TooLong)) c.put_refused.ensures c.line_of.ensures
    ∙ ap (line_shown _) (head_long _ (omega arith)))
    (λ c κs. search rules)
    (λ c κs. search rules)
    (λ c. search rules)
    (λ c.
    line_shown_lem _ _ _ _ _ _ (omega arith) (short_fits (head_fits _ (omega arith))) c.put_head.ensures c.line_of-2.ensures
    ∙ ap (line_shown _) (head_short _ (omega arith))))
