-- Laws of the search for a symbol's slot: one for each way of the loop over the slots.
use Rattle.std.specs.Prelude.{ℕ, ◌+◌, ◌-◌, ◌<◌, ◌≤◌, ◌≡◌, refl, List, Option, None, Some, Bool, cond, take, drop, eqb}
use Rattle.std.proofs.Math.Path.{sym, ap}
use Rattle.std.proofs.Common.{◌∙◌}
use Rattle.std.proofs.Math.Bool.{true, false}
use native.Mathlib.Omega.{arith}
use Rattle.walk.specs.Cases.{tests}
use Rattle.walk.specs.Listing.{Listing, more, ends, fails, Reply, gave, nothing, refused}
use Rattle.walk.specs.Pick.{or_else, first_by, last_by, map_reply}
use Rattle.walk.specs.PickLaws.{map_or, or_assoc, or_nothing}
use Rattle.refusal.specs.Told.{Told}
use Rattle.kinds.specs.Kind.{Sort}
use Rattle.body.specs.Lines.{LineHead, line_head}
use Rattle.find.specs.Find.{same, Span, bytes_at}
use Rattle.line_record.specs.declared.EndLines.{EndLines}
use Rattle.lines.specs.Lines.{count_lines, Body, body_on}
use Rattle.lines.specs.Slots.{body_at, name_then, named, slot_at, list_in, Scans}
use Rattle.lines.specs.SlotsLaws.{named_slot}
use Rattle.symbol_lines.specs.Symbol.{head_is, is_at, is_before, Numbered, numbered, slot_of, at_slot, before_slot, slot_in, better, walk_to, symbol_walk, walk_of}
use Rattle.symbol_lines.specs.Told.{told_best}

-- ---- the tests of the code

module _ (section offset : ℕ) (h : LineHead) where
  pub is_other : (h.section ≡ section → ⊥) → false ≡ head_is section offset h
  is_other g = simp tests

  pub is_same : h.section ≡ section → eqb h.offset offset ≡ head_is section offset h
  is_same g = sym (simp tests)

  module _ (i : ℕ) (y : Reply ℕ Told) where
    pub better_other : (h.section ≡ section → ⊥) → y ≡ better section offset h i y
    better_other g = simp tests

    module _ (h₁ : h.section ≡ section) where
      pub better_new : h.offset < offset → gave i ≡ better section offset h i y
      better_new g = simp tests

      pub better_old : offset ≤ h.offset → y ≡ better section offset h i y
      better_old g = simp tests

-- ---- the slots from the i-th on, numbered

module _ (rule : ℕ → Sort) (s v : List ℕ) (n : ℕ) where
  abbrev pub slot_from : ℕ → Listing Numbered Told
  slot_from i = numbered i (named (body_at rule s) (n - i) (drop i v))

  module _ (i p : ℕ) (g : Scans rule s p) where
    slot_step : i < n → (x : Reply Span Told) → x ≡ slot_at rule s v i p
        → numbered i (name_then (map_reply (body_on s) same x) (named (body_at rule s) (n - (i + 1)) (drop (i + 1) v))) ≡ slot_from i
    slot_step h x e =
        let m : n - (i + 1) ≡ n - i - 1 = omega arith in
        (λ j. numbered i (name_then (map_reply (body_on s) same (e j)) (named (body_at rule s) (m j) (drop (i + 1) v))))
        ∙ ap (numbered i) (sym (named_slot rule s v i p g (n - i) (omega arith)))

    pub slot_more : i < n → (a : Span) → gave a ≡ slot_at rule s v i p → more (record { slot = i; body = body_on s a }) (slot_from (i + 1)) ≡ slot_from i
    unfolding numbered
    slot_more h a e = slot_step h (gave a) e

    pub slot_refused : i < n → (t : Told) → refused t ≡ slot_at rule s v i p → fails t ≡ slot_from i
    unfolding numbered
    slot_refused h t e = slot_step h (refused t) e

  pub slot_end : (i : ℕ) → n ≤ i → ends ≡ slot_from i
  unfolding numbered named
  slot_end i h = let e : 0 ≡ n - i = omega arith in ap (λ k. numbered i (named (body_at rule s) k (drop i v))) e

-- ---- the first slot at the place in l, or else the last one before it, or else y, the best so far

module _ (section offset : ℕ) where
  abbrev at : Listing Numbered Told → Reply ℕ Told
  at l = map_reply slot_of same (first_by (at_slot section offset) l)

  abbrev below : Listing Numbered Told → Reply ℕ Told
  below l = map_reply slot_of same (last_by (before_slot section offset) l)

  abbrev pub best_of : Listing Numbered Told → Reply ℕ Told → Reply ℕ Told
  best_of l y = or_else (at l) (or_else (below l) y)

  pub best_first : (l : Listing Body Told) → best_of (numbered 0 l) nothing ≡ slot_in section offset l
  best_first l =
      ap (or_else (at (numbered 0 l))) (or_nothing (below (numbered 0 l)))
      ∙ sym (map_or slot_of same (first_by (at_slot section offset) (numbered 0 l)) (last_by (before_slot section offset) (numbered 0 l)))

  module _ (l : Listing Numbered Told) (y : Reply ℕ Told) where
    pub best_hit : (k : Numbered) (r : Listing Numbered Told) → more k r ≡ l → is_at section offset k.body ≡ true → gave k.slot ≡ best_of l y
    unfolding first_by
    best_hit k r e h = rw (← e, h)

    pub best_on : (k : Numbered) (r : Listing Numbered Told) → more k r ≡ l → is_at section offset k.body ≡ false
        → best_of r (better section offset (line_head k.body.bytes) k.slot y) ≡ best_of l y
    unfolding first_by last_by
    best_on k r e h =
        ap (or_else (at r)) (both (is_before section offset k.body))
        ∙ (λ i. or_else (map_reply slot_of same (cond (sym h i) (gave k) (first_by (at_slot section offset) r))) (or_else (below (more k r)) y))
        ∙ ap (λ x. best_of x y) e
      where
        both : (t : Bool) → or_else (below r) (cond t (gave k.slot) y)
            ≡ or_else (map_reply slot_of same (or_else (last_by (before_slot section offset) r) (cond t (gave k) nothing))) y
        both true =
            sym (or_assoc (below r) (gave k.slot) y)
            ∙ ap (λ x. or_else x y) (sym (map_or slot_of same (last_by (before_slot section offset) r) (gave k)))
        both false = ap (λ x. or_else (map_reply slot_of same x) y) (sym (or_nothing (last_by (before_slot section offset) r)))

    pub best_end : ends ≡ l → y ≡ best_of l y
    unfolding first_by last_by
    best_end e = rw (← e)

    pub best_refused : (t : Told) → fails t ≡ l → refused t ≡ best_of l y
    unfolding first_by last_by
    best_refused t e = rw (← e)

-- ---- a turn of the loop: the slot names a body at a, of which k bytes were lent, with the header h

module _ (rule : ℕ → Sort) (s v : List ℕ) (n section offset : ℕ) where
  pub best_start : best_of section offset (slot_from rule s v n 0) nothing ≡ slot_in section offset (named (body_at rule s) n v)
  best_start =
      let e : n - 0 ≡ n = omega arith in
      ap (λ m. best_of section offset (numbered 0 (named (body_at rule s) m v)) nothing) e ∙ best_first section offset (named (body_at rule s) n v)

  module _ (i p : ℕ) (g : Scans rule s p) (h₁ : i < n) (y : Reply ℕ Told) where
    module _ (a : Span) (k : ℕ) (h : LineHead) (e : gave a ≡ slot_at rule s v i p) (ek : k ≡ a.len) (eh : h ≡ line_head (take k (drop a.start s))) where
      header_is : h ≡ line_head (bytes_at s a)
      header_is = eh ∙ ap (λ (j : ℕ). line_head (take j (drop a.start s))) ek

      pub turn_hit : head_is section offset h ≡ true → gave i ≡ best_of section offset (slot_from rule s v n i) y
      turn_hit t =
          best_hit section offset (slot_from rule s v n i) y (record { slot = i; body = body_on s a }) (slot_from rule s v n (i + 1))
          (slot_more rule s v n i p g h₁ a e) (ap (head_is section offset) (sym header_is) ∙ t)

      pub turn_on : head_is section offset h ≡ false
          → best_of section offset (slot_from rule s v n (i + 1)) (better section offset h i y) ≡ best_of section offset (slot_from rule s v n i) y
      turn_on t =
          ap (λ (x : LineHead). best_of section offset (slot_from rule s v n (i + 1)) (better section offset x i y)) header_is
          ∙ best_on section offset (slot_from rule s v n i) y (record { slot = i; body = body_on s a }) (slot_from rule s v n (i + 1))
          (slot_more rule s v n i p g h₁ a e) (ap (head_is section offset) (sym header_is) ∙ t)

    pub turn_refused : (t : Told) → refused t ≡ slot_at rule s v i p → refused t ≡ best_of section offset (slot_from rule s v n i) y
    turn_refused t e = best_refused section offset (slot_from rule s v n i) y t (slot_refused rule s v n i p g h₁ t e)

  pub turn_end : (i : ℕ) → n ≤ i → (y : Reply ℕ Told) → y ≡ best_of section offset (slot_from rule s v n i) y
  turn_end i h y = best_end section offset (slot_from rule s v n i) y (slot_end rule s v n i h)

-- ---- the whole call

module _ (how : EndLines) (rule : ℕ → Sort) (s v : List ℕ) (section offset : ℕ) where
  -- x is the slot that was found
  pub symbol_counted : (n : ℕ) → gave n ≡ count_lines rule s → (x : Reply ℕ Told) → x ≡ slot_in section offset (named (body_at rule s) n v)
      → walk_to how x ≡ symbol_walk how rule s v section offset
  symbol_counted n e x q = ap (walk_to how) q ∙ ap (λ k. walk_to how (slot_in section offset (list_in rule s v k))) e

  pub symbol_refused : (t : Told) → refused t ≡ count_lines rule s → refused t ≡ symbol_walk how rule s v section offset
  unfolding numbered first_by
  symbol_refused t e = ap (λ k. walk_to how (slot_in section offset (list_in rule s v k))) e

pub walk_best : (how : EndLines) (b : Option ℕ) → gave (walk_of how (told_best b)) ≡ walk_to how (told_best b)
walk_best how None = refl
walk_best how (Some i) = refl
