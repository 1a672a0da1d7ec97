-- `many_lines::refill` meets its contract: many turns at once, and turn by turn what they leave.
-- Assumes nothing.
use borrow.Author.Rules.{rules}
use Rattle.kinds.specs.Kind.{crate_rule}
use Rattle.many_lines.specs.BodiesLaws.{refilled}
use Rattle.many_lines.proofs.refill.Statement.{statement}
use Rattle.many_lines.proofs.refill.Tie as tie

returns : tie.Need-returns
returns c = refilled crate_rule _ _ _ _ c.requires _ _ _ _ c.bodies_from-from.ensures c.turns-x.ensures

pub refill_spec : {M : Type 1} → statement M
refill_spec = tie.close (tie.spec (λ c κs. search rules) (λ c κs. search rules) (λ c. search rules) returns)
