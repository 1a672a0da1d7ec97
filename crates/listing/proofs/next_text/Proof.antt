-- `listing::next_text` meets its contract: a buffer that is too short is refused, and each state has its step.
-- Assumes nothing.
use borrow.Author.Rules.{rules}
use native.Mathlib.Omega.{arith}
use mathlib.Core.Path.{sym, ap}
use Rattle.kinds.specs.Kind.{crate_rule}
use Rattle.listing.specs.Step.{step_of}
use Rattle.listing.specs.StepLaws.{step_none, step_is, none_shown}
use Rattle.listing.proofs.next_text.Statement.{statement}
use Rattle.listing.proofs.next_text.Tie as tie

returns-2 : tie.Need-returns-in-Head
returns-2 c =
    step_is _ _ _ _ _ (omega arith) c.head_step.ensures (ap (step_of crate_rule _ _) (sym c.in-Head.is))

returns-3 : tie.Need-returns-in-Subs
returns-3 c =
    step_is _ _ _ _ _ (omega arith) c.subs_step.ensures (ap (step_of crate_rule _ _) (sym c.in-Subs.is))

returns-4 : tie.Need-returns-in-Files
returns-4 c =
    step_is _ _ _ _ _ (omega arith) c.files_step.ensures (ap (step_of crate_rule _ _) (sym c.in-Files.is))

returns-5 : tie.Need-returns-in-Lines
returns-5 c =
    step_is _ _ _ _ _ (omega arith) c.lines_step.ensures (ap (step_of crate_rule _ _) (sym c.in-Lines.is))

pub next_text_spec : {M : Type 1} → statement M
next_text_spec =
    tie.close
    (tie.spec
    (λ c. step_none _ _ (omega arith))
    (λ c. search rules)
    (λ c κs. search rules)
    (λ c. search rules)
    (λ c κs. search rules)
    (λ c. search rules)
    (λ c κs. search rules)
    (λ c. search rules)
    (λ c κs. search rules)
    (λ c. search rules)
    (λ c. search rules)
    returns-2
    (λ c. search rules)
    returns-3
    (λ c. search rules)
    returns-4
    (λ c. search rules)
    returns-5
    (λ c. step_is _ _ _ _ _ (omega arith) (none_shown _) (ap (step_of crate_rule _ _) (sym c.in-Done.is))))
