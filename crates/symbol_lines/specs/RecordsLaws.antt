-- The walk that `lines_for_symbol` answers gives the records of the symbol's subsection, all of them and no others; they keep to the limits of a line record;
-- and each has the position of the body that it was read from.
use Prim.Native.Nat.{ℕ, zero, suc, ◌+◌, ◌-◌, ◌<◌, ◌≤◌}
use Rattle.std.proofs.Math.Path.{◌≡◌, ap, subst⁻¹}
use Rattle.std.specs.Prelude.{refl, List, length, drop}
use Rattle.std.proofs.Common.{sym, ◌∙◌, ⊎_elim}
use native.Mathlib.Omega.{arith}
use Rattle.walk.specs.Cases.{le_or_gt}
use Rattle.walk.specs.Listing.{Listing, more, ends, fails, mapped, Reply, gave, nothing, refused, calls, replies}
use Rattle.walk.specs.ListingLaws.{Every}
use Rattle.walk.specs.Pick.{or_else, first_by, last_by, map_reply}
use Rattle.walk.specs.PickLaws.{Gives, map_or, first_map, last_map, first_holds, last_holds}
use Rattle.refusal.specs.Told.{Told, longest}
use Rattle.kinds.specs.Kind.{Sort}
use Rattle.find.specs.Find.{same, Span}
use Rattle.line_record.proofs.LimitsLaws.{Limits}
use Rattle.line_record.specs.declared.EndLines.{EndLines}
use Rattle.lines.specs.Lines.{count_lines, Body, body_on}
use Rattle.lines.specs.LinesLaws.{count_long}
use Rattle.lines.specs.Slots.{body_at, name_then, named, slot_at, list_in, list_of}
use Rattle.lines.specs.SlotsLaws.{scans_start, named_slot, IsLineBody, list_line_bodies}
use Rattle.line_step.specs.declared.LineWalk.{LineWalk}
use Rattle.line_walk.specs.Meaning.{body_then, events_of, settle}
use Rattle.line_walk.specs.Next.{next_of}
use Rattle.line_walk.proofs.WalkLaws.{walk_from}
use Rattle.line_walk.proofs.LimitsLaws.{body_limits, settle_limits}
use Rattle.line_walk.proofs.PositionLaws.{ReadFrom, bodies_read}
use Rattle.symbol_lines.specs.Symbol.{is_at, is_before, symbol_body, body_records, symbol_records, Numbered, numbered, slot_of, at_slot, before_slot, walk_of, walk_to, symbol_walk}
use Rattle.symbol_lines.specs.SymbolLaws.{symbol_refused}

-- ---- the numbers are those of the slots

abbrev body_of : Numbered → Body
body_of k = k.body

bodies_numbered : (i : ℕ) (l : Listing Body Told) → mapped body_of same (numbered i l) ≡ l
unfolding numbered
bodies_numbered i (more b l) = ap (more b) (bodies_numbered (i + 1) l)
bodies_numbered i ends = refl
bodies_numbered i (fails t) = refl

or_gives : {B : Type 0} (P : B → Type 0) (x y : Reply B Told) → Gives P x → Gives P y → Gives P (or_else x y)
or_gives P (gave b) y p q = p
or_gives P nothing y p q = q
or_gives P (refused t) y p q = tt

module _ (rule : ℕ → Sort) (s v : List ℕ) where
  -- the slot of k names its body
  abbrev Names : Numbered → Type 0
  Names k = named (body_at rule s) 1 (drop k.slot v) ≡ more k.body ends

  names : (n i : ℕ) → Every Names (numbered i (named (body_at rule s) n (drop i v)))
  unfolding numbered named
  names zero i = tt
  names (suc n) i =
      let e : suc n - 1 ≡ n = omega arith in
      let g = named_slot rule s v i 0 (scans_start rule s) in
      subst⁻¹ (λ (l : Listing Body Told). Every Names (numbered i l))
      (g (suc n) (omega arith) ∙ ap (λ m. name_then (map_reply (body_on s) same (slot_at rule s v i 0)) (named (body_at rule s) m (drop (i + 1) v))) e)
      (by (slot_at rule s v i 0) (g 1 (omega arith)) (names n (i + 1)))
    where
      by : (x : Reply Span Told) → named (body_at rule s) 1 (drop i v) ≡ name_then (map_reply (body_on s) same x) (named (body_at rule s) (1 - 1) (drop (i + 1) v))
          → Every Names (numbered (i + 1) (named (body_at rule s) n (drop (i + 1) v)))
          → Every Names (numbered i (name_then (map_reply (body_on s) same x) (named (body_at rule s) n (drop (i + 1) v))))
      by (gave a) e r = (e, r)
      by nothing e r = tt
      by (refused t) e r = tt

  list_names : (k : Reply ℕ Told) → Every Names (numbered 0 (list_in rule s v k))
  unfolding numbered
  list_names (gave n) = names n 0
  list_names nothing = tt
  list_names (refused t) = tt

  module _ (section offset : ℕ) (how : EndLines) where
    abbrev found : Reply Numbered Told
    found =
        or_else (first_by (at_slot section offset) (numbered 0 (list_of rule s v))) (last_by (before_slot section offset) (numbered 0 (list_of rule s v)))

    found_body_lem : map_reply body_of same found ≡ symbol_body section offset (list_of rule s v)
    found_body_lem =
        let N = numbered 0 (list_of rule s v) in
        let e = bodies_numbered 0 (list_of rule s v) in
        map_or body_of same (first_by (at_slot section offset) N) (last_by (before_slot section offset) N)
        ∙ (λ i. or_else (first_map body_of same (is_at section offset) N i) (last_map body_of same (is_before section offset) N i))
        ∙ ap (symbol_body section offset) e

    found_names : Gives Names found
    found_names =
        let N = numbered 0 (list_of rule s v) in
        or_gives Names (first_by (at_slot section offset) N) (last_by (before_slot section offset) N)
        (first_holds Names (at_slot section offset) N (list_names (count_lines rule s))) (last_holds Names (before_slot section offset) N (list_names (count_lines rule s)))

    -- in an area that is not too long
    from_found : length s ≤ longest → (x : Reply Numbered Told) → Gives Names x → (w : LineWalk) → gave w ≡ walk_to how (map_reply slot_of same x)
        → (n : ℕ) → calls (next_of rule s v) n w ≡ replies n (body_records how (map_reply body_of same x))
    unfolding events_of settle named
    from_found h (gave k) g w e n =
        let q : w ≡ walk_of how (gave k.slot) = cc in
        ap (calls (next_of rule s v) n) q ∙ walk_from rule s v n (walk_of how (gave k.slot)) (h, scans_start rule s)
        ∙ ap (λ l. replies n (settle (events_of how l))) g
    from_found h nothing g w e n =
        let q : w ≡ walk_of how nothing = cc in
        ap (calls (next_of rule s v) n) q ∙ walk_from rule s v n (walk_of how nothing) (h, scans_start rule s)
    from_found h (refused t) g w e n = let z : ◌≡◌ {A = ℕ} 0 1 = cc in absurd (omega arith)

    -- THE THEOREM: the walk's answers, taken until it ends, are the records of the symbol
    pub symbol_walk_lem : (w : LineWalk) → gave w ≡ symbol_walk how rule s v section offset → (n : ℕ)
        → calls (next_of rule s v) n w ≡ replies n (symbol_records how rule s v section offset)
    symbol_walk_lem w e n =
        ⊎_elim
        (λ (h : length s ≤ longest). from_found h found found_names w e n ∙ ap (λ x. replies n (body_records how x)) found_body_lem)
        (λ (h : longest < length s).
        let q = e ∙ sym (symbol_refused how rule s v section offset _ (count_long rule s h)) in
        let z : ◌≡◌ {A = ℕ} 0 1 = cc in absurd (omega arith))
        (le_or_gt (length s) longest)

    fails_found : (x : Reply Numbered Told) (t : Told) → refused t ≡ walk_to how (map_reply slot_of same x) → fails t ≡ body_records how (map_reply body_of same x)
    fails_found (gave k) t e = let z : ◌≡◌ {A = ℕ} 0 1 = cc in absurd (omega arith)
    fails_found nothing t e = let z : ◌≡◌ {A = ℕ} 0 1 = cc in absurd (omega arith)
    fails_found (refused r) t e = let q : t ≡ r = cc in ap fails q

    -- and a refusal is theirs
    pub symbol_fails : (t : Told) → refused t ≡ symbol_walk how rule s v section offset → fails t ≡ symbol_records how rule s v section offset
    symbol_fails t e = fails_found found t e ∙ ap (body_records how) found_body_lem

-- ---- limits

pub symbol_limits : (how : EndLines) (rule : ℕ → Sort) (s v : List ℕ) (section offset : ℕ) → Every (Limits how) (symbol_records how rule s v section offset)
symbol_limits how rule s v section offset = by (symbol_body section offset (list_of rule s v))
  where
    by : (x : Reply Body Told) → Every (Limits how) (body_records how x)
    by (gave b) = settle_limits how (body_then how b ends) (body_limits how b ends tt)
    by nothing = tt
    by (refused t) = tt

-- ---- the position

pub symbol_read : (how : EndLines) (rule : ℕ → Sort) (s v : List ℕ) (section offset : ℕ)
    → Every (ReadFrom how rule s) (symbol_records how rule s v section offset)
unfolding events_of
symbol_read how rule s v section offset =
    let l = list_of rule s v in
    by (symbol_body section offset l) (or_gives (IsLineBody rule s) (first_by (is_at section offset) l) (last_by (is_before section offset) l)
    (first_holds (IsLineBody rule s) (is_at section offset) l (list_line_bodies rule s v))
    (last_holds (IsLineBody rule s) (is_before section offset) l (list_line_bodies rule s v)))
  where
    by : (x : Reply Body Told) → Gives (IsLineBody rule s) x → Every (ReadFrom how rule s) (body_records how x)
    by (gave b) h = bodies_read how rule s (more b ends) (h, tt)
    by nothing h = tt
    by (refused t) h = tt
