-- The turn that opens a walk leads there.
use Rattle.kinds.specs.Kind.{crate_rule}
use Rattle.many_lines.specs.BodiesLaws.{stand_new_lem}
use Rattle.many_lines.proofs.stand_new.Goals as goal

pub returns : goal.returns
returns c =
    record { each = λ v. stand_new_lem crate_rule _ v _ _ _ _ _ c.nowhere-place.ensures c.in-Ok.ensures c.fresh_rest-rest.ensures }
