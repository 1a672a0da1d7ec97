-- The lines of a symbol over a list left as it was built: they are those of the area alone, slots behind those of the list are not read, and the call
-- that finds them is not refused.
use Rattle.std.specs.Prelude.{ℕ, ◌+◌, ◌≡◌, refl, List, [], ◌∷◌, ◌++◌, Bool, length}
use Rattle.std.proofs.Common.{ap, ◌∙◌, arith}
use Rattle.std.proofs.Math.Path.{subst⁻¹}
use Rattle.walk.specs.Cases.{by_cases}
use Rattle.walk.specs.Listing.{Listing, more, ends, fails, before, Reply, gave, nothing, refused, calls, replies}
use Rattle.walk.specs.Pick.{or_else, first_by, last_by, map_reply}
use Rattle.walk.specs.FailsLaws.{FailsBy}
use Rattle.refusal.specs.Told.{Told}
use Rattle.kinds.specs.Kind.{Sort}
use Rattle.find.specs.Find.{same}
use Rattle.line_record.specs.declared.EndLines.{EndLines}
use Rattle.lines.specs.Lines.{count_lines, Body}
use Rattle.lines.specs.Slots.{list_of}
use Rattle.order.specs.Order.{order_of, ordered, slots_after, in_order}
use Rattle.order.specs.BuiltLaws.{built_list, built}
use Rattle.line_step.specs.declared.LineWalk.{LineWalk}
use Rattle.line_walk.specs.Meaning.{body_then}
use Rattle.line_walk.proofs.AreaLaws.{body_by_lem, settle_by}
use Rattle.line_walk.specs.Next.{next_of}
use Rattle.symbol_lines.specs.Symbol.{is_at, is_before, symbol_body, body_records, symbol_records, area_symbol, Numbered, numbered, slot_of, at_slot, before_slot, walk_of, walk_to, symbol_walk}
use Rattle.symbol_lines.specs.RecordsLaws.{symbol_walk_lem}

-- ---- what is picked from a listing that does not fail is no refusal

abbrev Answered : {B : Type 0} → Reply B Told → Type 0
Answered (gave b) = Unit {0}
Answered nothing = Unit {0}
Answered (refused t) = ⊥

abbrev Fails : Told → Type 0
Fails t = ⊥

module _ {B : Type 0} where
  or_answered : (x y : Reply B Told) → Answered x → Answered y → Answered (or_else x y)
  or_answered (gave b) y p q = tt
  or_answered nothing y p q = q
  or_answered (refused t) y p q = p

  module _ (f : B → Bool) where
    first_answered : (l : Listing B Told) → FailsBy Fails l → Answered (first_by f l)
    unfolding first_by
    first_answered (more b l) h = by_cases Answered (f b) (λ e. tt) (λ e. first_answered l h)
    first_answered ends h = tt
    first_answered (fails t) h = h

    last_answered : (l : Listing B Told) → FailsBy Fails l → Answered (last_by f l)
    unfolding last_by
    last_answered (more b l) h = or_answered (last_by f l) _ (last_answered l h) (by_cases Answered (f b) (λ e. tt) (λ e. tt))
    last_answered ends h = tt
    last_answered (fails t) h = h

  either_answered : (f g : B → Bool) (l : Listing B Told) → FailsBy Fails l → Answered (or_else (first_by f l) (last_by g l))
  either_answered f g l h = or_answered (first_by f l) (last_by g l) (first_answered f l h) (last_answered g l h)

-- the slots of bodies one after the other
numbered_whole : (i : ℕ) (bs : List Body) → FailsBy Fails (numbered i (before bs ends))
unfolding numbered
numbered_whole i [] = tt
numbered_whole i (b ∷ bs) = numbered_whole (i + 1) bs

walk_answered : (how : EndLines) (x : Reply Numbered Told) → Answered x → (w : LineWalk) × (gave w ≡ walk_to how (map_reply slot_of same x))
walk_answered how (gave k) a = (walk_of how (gave k.slot), refl)
walk_answered how nothing a = (walk_of how nothing, refl)
walk_answered how (refused t) a = absurd a

module _ (how : EndLines) (rule : ℕ → Sort) (s : List ℕ) (section offset n : ℕ) where
  -- what stands behind the list does not matter
  pub symbol_list : (vs : List ℕ) → gave n ≡ count_lines rule s → symbol_records how rule s (order_of rule s ++ vs) section offset ≡ area_symbol how rule s section offset
  symbol_list vs e = ap (λ l. body_records how (symbol_body section offset l)) (built_list rule s n e vs)

  -- for a list that `order_list` made in slots that held xs
  module _ (xs : List ℕ) (e : gave n ≡ ordered rule s (length xs)) where
    pub symbol_built : symbol_records how rule s (slots_after rule s xs) section offset ≡ area_symbol how rule s section offset
    symbol_built = ap (λ l. body_records how (symbol_body section offset l)) (built rule s xs n e)

    abbrev slot_is : Listing Body Told → Reply Numbered Told
    slot_is l = or_else (first_by (at_slot section offset) (numbered 0 l)) (last_by (before_slot section offset) (numbered 0 l))

    is_answered : Answered (slot_is (list_of rule s (slots_after rule s xs)))
    is_answered =
        let l = numbered 0 (before (in_order rule s) ends) in
        subst⁻¹ (λ k. Answered (slot_is k)) (built rule s xs n e)
        (either_answered (at_slot section offset) (before_slot section offset) l (numbered_whole 0 (in_order rule s)))

    -- THE THEOREM: the call answers a walk, whose answers are the records of the area alone
    pub symbol_answered : (w : LineWalk) × (gave w ≡ symbol_walk how rule s (slots_after rule s xs) section offset)
    symbol_answered = walk_answered how (slot_is (list_of rule s (slots_after rule s xs))) is_answered

    pub symbol_walk_built : (w : LineWalk) → gave w ≡ symbol_walk how rule s (slots_after rule s xs) section offset → (k : ℕ)
        → calls (next_of rule s (slots_after rule s xs)) k w ≡ replies k (area_symbol how rule s section offset)
    symbol_walk_built w q k = symbol_walk_lem rule s (slots_after rule s xs) section offset how w q k ∙ ap (replies k) symbol_built

-- ---- the records of a body fail by 1, 7 and 8 alone, and so never for a slot

bodies_whole : (bs : List Body) → FailsBy Fails (before bs ends)
bodies_whole [] = tt
bodies_whole (b ∷ bs) = bodies_whole bs

abbrev NotSlot : Told → Type 0
NotSlot t = t.number ≡ 19 → ⊥

pub symbol_never_slot : (how : EndLines) (rule : ℕ → Sort) (s : List ℕ) (section offset : ℕ) → FailsBy NotSlot (area_symbol how rule s section offset)
symbol_never_slot how rule s section offset =
    by (symbol_body section offset (before (in_order rule s) ends))
    (either_answered (is_at section offset) (is_before section offset) (before (in_order rule s) ends) (bodies_whole (in_order rule s)))
  where
    by : (x : Reply Body Told) → Answered x → FailsBy NotSlot (body_records how x)
    by (gave b) a =
        settle_by NotSlot (λ e. omega arith) (λ e. omega arith) (λ e. omega arith) (body_then how b ends)
        (body_by_lem NotSlot (λ e. omega arith) (λ e. omega arith) (λ e. omega arith) how b ends tt)
    by nothing a = tt
    by (refused t) a = absurd a
