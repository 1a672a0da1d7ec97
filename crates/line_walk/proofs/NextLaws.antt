-- Laws of a step: its turns come to an end, and one law for each way of the loop over them.
use Rattle.std.specs.Prelude.{ℕ, zero, suc, ◌+◌, ◌-◌, ◌*◌, ◌<◌, ◌≤◌, ◌≡◌, refl, List, length, ltb, eqb, Option, None, Some}
use Rattle.std.proofs.Common.{suc-mul}
use native.Mathlib.Omega.{arith}
use Rattle.std.proofs.Math.ListN.{take}
use borrow.Author.Tests.{ltb-false, eqb-true, eqb-false}
use Rattle.walk.specs.Cases.{by_cases}
use Rattle.walk.specs.Listing.{pass, Reply, gave, nothing, refused}
use Rattle.walk.specs.ListingLaws.{To}
use Rattle.walk.specs.First.{on_first}
use Rattle.walk.specs.FirstLaws.{first_is, pass_falls}
use Rattle.walk.specs.PickLaws.{Gives}
use Rattle.refusal.specs.Told.{Told, longest}
use Rattle.kinds.specs.Kind.{Sort}
use Rattle.find.specs.Find.{Span}
use Rattle.line_record.specs.Record.{max_offset}
use Rattle.line_record.specs.declared.EndLines.{EndLines}
use Rattle.line_record.specs.declared.LineRecord.{LineRecord}
use Rattle.lines.specs.declared.LineHeader.{LineHeader}
use Rattle.lines.specs.Lines.{count_lines}
use Rattle.lines.specs.Slots.{slot_at}
use Rattle.lines.specs.SlotsLaws.{SlotIn, slot_lies}
use Rattle.line_step.specs.declared.Rest.{Rest}
use Rattle.line_step.specs.declared.Place.{Place}
use Rattle.line_step.specs.declared.LineWalk.{LineWalk}
use Rattle.line_step.specs.declared.LineWalk.TheVariants.{New, Between, Inside}
use Rattle.line_step.specs.Turn.{LineMove, line_entry_at, with_held, lines_on, hold_in, line_of, next_block, end_held, end_move, block_of, inside_turn, headed_place, enter_move, enter_at, named_of, finish_in, between_turn, open_of, turn_in, turn_of}
use Rattle.line_step.specs.TurnLaws.{OpensIn, next_block_lies}
use Rattle.line_walk.specs.Next.{one_held, turn_bound, counting, todo, next_of}

weight_less : (s : List ℕ) (n : ℕ) → 1 ≤ n → turn_bound s n ≡ suc (length s) + turn_bound s (n - 1)
unfolding turn_bound
weight_less s zero h = absurd (omega arith)
weight_less s (suc n) h = let e : suc n - 1 ≡ n = omega arith in rw e (omega (arith, suc-mul n (suc (length s))))

module _ (rule : ℕ → Sort) (s v : List ℕ) where
  -- the turn goes on to a walk with less than m to do
  abbrev Less : ℕ → LineMove → Type 0
  Less m u = To u (λ w. todo rule s w < m)

  open_less : (how : EndLines) (k : Reply ℕ Told) → Less (suc (counting s k)) (open_of how k)
  open_less how (gave n) = omega arith
  open_less how nothing = tt
  open_less how (refused t) = tt

  finish_less : (how : EndLines) (t : Rest) (o : Option LineRecord) → Less (turn_bound s t.left + one_held o) (finish_in how o t)
  finish_less how t None = tt
  finish_less how t (Some r) = omega arith

  enter_less : (how : EndLines) (t : Rest) (a n : ℕ) → 1 ≤ t.left → a + n ≤ length s → Less (todo rule s (Between how t)) (enter_at s how t a n)
  unfolding headed_place
  enter_less how t a n h g =
      by_cases (λ k. Less (todo rule s (Between how t)) (enter_move t (a + n) k)) (ltb n 12) (λ e. tt) (λ e. omega (arith, weight_less s t.left h, ltb-false n 12 e))

  named_less : (how : EndLines) (t : Rest) (o : Reply Span Told) → 1 ≤ t.left → Gives (SlotIn rule s v t.slot t.scan) o
      → Less (todo rule s (Between how t)) (named_of s how t o)
  named_less how t (gave a) h g = enter_less how t a.start a.len h g.1
  named_less how t nothing h g = tt
  named_less how t (refused e) h g = tt

  between_less : (how : EndLines) (t : Rest) → Less (todo rule s (Between how t)) (between_turn rule s v how t)
  unfolding between_turn
  between_less how t =
      by_cases (Less (todo rule s (Between how t))) (eqb t.left 0) (λ e. finish_less how t t.held)
      (λ e. named_less how t (slot_at rule s v t.slot t.scan) (omega (arith, eqb-false)) (slot_lies rule s v t.slot t.scan))

  end_less : (how : EndLines) (h : LineHeader) (t : Rest) (o : Option LineRecord) (m : ℕ) → turn_bound s t.left + one_held o < m → one_held o ≡ one_held t.held
      → Less m (end_move how t (end_held h o))
  unfolding end_held
  end_less how h t None m l e = omega arith
  end_less how h t (Some r) m l e = by_cases (λ k. Less m (end_move how t k)) (ltb max_offset (h.offset + h.code)) (λ g. tt) (λ g. l)

  block_less : (p : Place) (t : Rest) (k : Reply Place Told) → p.lines ≡ 0 → OpensIn p k → Less (todo rule s (Inside p t)) (block_of p t k)
  block_less p t (gave q) h o = omega (arith, o.less)
  block_less p t nothing h o = end_less p.how p.head t t.held (todo rule s (Inside p t)) (omega arith) refl
  block_less p t (refused e) h o = tt

  hold_less : (p : Place) (t : Rest) (r : LineRecord) (o : Option LineRecord) → 1 ≤ p.lines
      → Less (suc (turn_bound s t.left + (p.end - p.next) + 2 * p.lines + one_held o)) (hold_in o r (Inside (lines_on p 1) (with_held t (Some r))))
  hold_less p t r None h = omega arith
  hold_less p t r (Some o) h = omega arith

  line_less : (p : Place) (t : Rest) (e : Reply LineRecord Told) → 1 ≤ p.lines → Less (todo rule s (Inside p t)) (line_of p t e)
  line_less p t (gave r) h = hold_less p t r t.held h
  line_less p t nothing h = omega arith
  line_less p t (refused e) h = tt

  inside_less : (p : Place) (t : Rest) → Less (todo rule s (Inside p t)) (inside_turn s p t)
  unfolding inside_turn
  inside_less p t =
      let b = take p.end s in
      by_cases (Less (todo rule s (Inside p t))) (ltb (length s) p.end) (λ g. tt)
      (λ g. by_cases (Less (todo rule s (Inside p t))) (ltb p.end p.body) (λ f. tt)
      (λ f. by_cases (Less (todo rule s (Inside p t))) (eqb p.lines 0)
      (λ e. block_less p t (next_block b p) (eqb-true p.lines 0 e) (next_block_lies s p (ltb-false (length s) p.end g)))
      (λ e. line_less p t (line_entry_at b p) (omega (arith, eqb-false)))))

  turn_less : (w : LineWalk) → Less (todo rule s w) (turn_in rule s v w)
  turn_less (New how) = open_less how (count_lines rule s)
  turn_less (Between how t) = between_less how t
  turn_less (Inside p t) = inside_less p t

  pub falls : (w : LineWalk) → To (turn_of rule s v w) (λ t. todo rule s t < todo rule s w)
  unfolding turn_of
  falls w = by_cases (Less (todo rule s w)) (ltb longest (length s)) (λ e. tt) (λ e. turn_less w)

  -- ---- one turn of `next_line`, for each answer

  module _ (w : LineWalk) where
    pub next_is : (u : LineMove) → u ≡ turn_of rule s v w → on_first (next_of rule s v) u ≡ next_of rule s v w
    unfolding next_of
    next_is u e = first_is (turn_of rule s v) (todo rule s) falls w u e

    pub next_falls : (t : LineWalk) → pass t ≡ turn_of rule s v w → todo rule s t < todo rule s w
    next_falls t e = pass_falls (turn_of rule s v) (todo rule s) falls w t e
