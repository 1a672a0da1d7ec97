-- The part that is asked for, held against the area.
use Rattle.std.proofs.Common.{rules, arith, refl, ap}
use Rattle.walk.specs.Listing.{Reply}
use Rattle.walk.specs.Pick.{map_reply}
use Rattle.refusal.specs.Told.{Told}
use Rattle.find.specs.Find.{same, Span}
use Rattle.table.specs.Table.{Place}
use Rattle.table.specs.HandLaws.{hands_at, hands_empty}
use Rattle.files.specs.Files.{part_of}
use Rattle.files.proofs.FilesLaws.{part_in}
use Rattle.files.proofs.checksum_bytes.Goals as goal

-- a place in a body as the part that is asked for
abbrev spans : Reply Place Told → Reply Span Told
spans = map_reply (λ (q : Place). record { start = q.start; len = q.len }) same

pub overflow_add-result : goal.overflow_add-result
overflow_add-result c = omega (arith, part_in _ _ _ _ (rw c.in-Ok-Some.field-0-is at c.in-Ok-Some.ensures))

pub slice_bounds-result-end : goal.slice_bounds-result-end
slice_bounds-result-end c = omega (arith, part_in _ _ _ _ (rw c.in-Ok-Some.field-0-is at c.in-Ok-Some.ensures))

pub returns-in-Ok-Some : goal.returns-in-Ok-Some
unfolding part_of
returns-in-Ok-Some c =
    hands_at _ _ _ _ _ _ _ _ (ap spans (rw c.in-Ok-Some.field-0-is at c.in-Ok-Some.ensures)) refl (search rules) refl

pub returns-in-Ok-None : goal.returns-in-Ok-None
unfolding part_of
returns-in-Ok-None c =
    hands_empty _ _ _ _ _ _ _ _ (ap spans (rw c.in-Ok-None.field-0-is at c.in-Ok-None.ensures)) refl refl (search rules) (search rules)

pub returns-in-Err : goal.returns-in-Err
unfolding part_of
returns-in-Err c = hands_empty _ _ _ _ _ _ _ _ (ap spans c.in-Err.ensures) refl refl (search rules) (search rules)
