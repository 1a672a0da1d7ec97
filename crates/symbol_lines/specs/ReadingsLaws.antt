-- What does not depend on the reading of end lines, of the lines of a symbol: everything but the end lines. The call answers a walk by every reading or the
-- same refusal by every reading; and the walks give the same records but for their end lines, and end alike or with the same refusal.
use Rattle.std.specs.Prelude.{ℕ, ◌≡◌, List}
use Rattle.std.proofs.Math.Path.{refl}
use Rattle.walk.specs.Listing.{more, ends, before, Reply, gave, nothing, refused}
use Rattle.walk.specs.AlikeLaws.{through, Alike, listings_alike}
use Rattle.refusal.specs.Told.{Told}
use Rattle.kinds.specs.Kind.{Sort}
use Rattle.line_record.specs.declared.EndLines.{EndLines}
use Rattle.line_record.proofs.ReadingsLaws.{with_end}
use Rattle.lines.specs.Lines.{Body}
use Rattle.lines.specs.Slots.{list_of}
use Rattle.order.specs.Order.{in_order}
use Rattle.line_step.specs.declared.LineWalk.{LineWalk}
use Rattle.line_walk.specs.Meaning.{events_of}
use Rattle.line_walk.specs.Next.{next_of}
use Rattle.line_walk.proofs.ReadingsLaws.{with_ends, readings_same}
use Rattle.symbol_lines.specs.Symbol.{symbol_body, body_records, symbol_records, area_symbol, slot_in, walk_to, symbol_walk}
use Rattle.symbol_lines.specs.RecordsLaws.{symbol_walk_lem}

-- that there is a walk, and no more of it
abbrev pub any_walk : LineWalk → Unit {0}
any_walk w = tt

module _ (how also : EndLines) where
  walk_alike : (x : Reply ℕ Told) → through any_walk (walk_to how x) ≡ through any_walk (walk_to also x)
  walk_alike (gave i) = refl
  walk_alike nothing = refl
  walk_alike (refused t) = refl

  body_readings : (last : ℕ) (x : Reply Body Told) → with_ends last (body_records how x) ≡ with_ends last (body_records also x)
  unfolding events_of
  body_readings last (gave b) = readings_same last how also (more b ends)
  body_readings last nothing = refl
  body_readings last (refused t) = refl

  module _ (rule : ℕ → Sort) (s v : List ℕ) (section offset : ℕ) where
    -- the call: it answers a walk by every reading, or the same refusal by every reading
    pub symbol_call_alike : through any_walk (symbol_walk how rule s v section offset) ≡ through any_walk (symbol_walk also rule s v section offset)
    symbol_call_alike = walk_alike (slot_in section offset (list_of rule s v))

    -- the records, over any list and of an area alone
    pub symbol_readings : (last : ℕ) → with_ends last (symbol_records how rule s v section offset) ≡ with_ends last (symbol_records also rule s v section offset)
    symbol_readings last = body_readings last (symbol_body section offset (list_of rule s v))

    pub area_symbol_readings : (last : ℕ) → with_ends last (area_symbol how rule s section offset) ≡ with_ends last (area_symbol also rule s section offset)
    area_symbol_readings last = body_readings last (symbol_body section offset (before (in_order rule s) ends))

    -- the walks that it answers: any number of steps
    pub symbol_walks_alike : (last : ℕ) (w u : LineWalk) → gave w ≡ symbol_walk how rule s v section offset → gave u ≡ symbol_walk also rule s v section offset
        → Alike (with_end last) (next_of rule s v) w u
    symbol_walks_alike last w u e q =
        listings_alike (with_end last) (next_of rule s v) w u (symbol_records how rule s v section offset) (symbol_records also rule s v section offset)
        (symbol_walk_lem rule s v section offset how w e) (symbol_walk_lem rule s v section offset also u q) (symbol_readings last)
