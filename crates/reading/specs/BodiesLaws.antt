-- The full reading by the bodies of an area: what each of them is read as, one behind the other. Of a refusal this keeps the number.
use Rattle.std.specs.Prelude.{ℕ, ◌≡◌, List}
use Rattle.std.proofs.Common.{ap, ◌∙◌}
use Rattle.walk.specs.Listing.{Listing, mapped, spread}
use Rattle.walk.specs.SpreadLaws.{map_spread_of}
use Rattle.refusal.specs.Told.{number_of}
use Rattle.area.specs.Parts.{Raw}
use Rattle.kinds.specs.Kind.{Sort}
use Rattle.area.specs.Subs.{subs_from, bodies}
use Rattle.area.specs.SubsLaws.{bodied, area_bodies}
use Rattle.reading.specs.Reading.{Item, Items, items_of, reading}

abbrev pub numbered : Items → Listing Item ℕ
numbered = mapped (λ (i : Item). i) number_of

-- THE THEOREM: the parts of the area alone say what is read, without places
pub reading_bodies : (rule : ℕ → Sort) (s : List ℕ) → numbered (reading rule s) ≡ spread (λ (r : Raw). numbered (items_of r)) (bodies rule s)
unfolding reading
reading_bodies rule s =
    map_spread_of (λ (i : Item). i) number_of (bodied s) items_of (subs_from rule s 0) ∙ ap (spread (λ (r : Raw). numbered (items_of r))) (area_bodies rule s)
