-- The first look finds what the search finds, and the search what it finds without the list of bodies.
use Rattle.std.proofs.Common.{arith, refl}
use Rattle.kinds.specs.Kind.{crate_rule}
use Rattle.lines.specs.SlotsLaws.{slot_missing}
use Rattle.body_list.specs.SearchLaws.{located_right, located_known}
use Rattle.many_lines.specs.BodiesLaws.{crate_lines, look_slot, located_as}
use Rattle.many_lines.proofs.named_body.Goals as goal

pub returns-then-slots-slot : goal.returns-then-slots-slot
returns-then-slots-slot c = located_as _ _ _ _ _ _ _ _ c.requires (slot_missing _ _ _ _ _ (omega arith))

pub returns-in-Some : goal.returns-in-Some
returns-in-Some c =
    located_as crate_rule _ _ _ _ _ _ _ c.requires (look_slot crate_rule crate_lines _ _ _ _ c.in-Some.ensures _ _ (omega arith) refl)

pub returns-in-None : goal.returns-in-None
returns-in-None c =
    let r = c.find_body.result in
    record {
      named = located_right crate_rule _ _ _ _ _ _ c.requires.so r c.find_body.ensures;
      known = λ x q. record { so = located_known crate_rule _ _ _ _ _ _ c.requires.so r c.find_body.ensures x q };
    }
