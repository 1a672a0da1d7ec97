-- Behind the last records there is none: status 4 of the call for many records says so.
use Rattle.std.specs.Prelude.{ℕ, ◌+◌, ◌≤◌, ◌<◌, ◌≡◌, refl, List, [], ◌∷◌, Bool, true, false, not, length, drop, eqb, Option, None, Some}
use Rattle.std.proofs.Common.{sym, ap, ◌∙◌, ⊎_elim, append_assoc, arith, eqb-true}
use Rattle.std.proofs.Math.Option.{some}
use Rattle.std.proofs.Math.Option as option
use Rattle.word.specs.Word.{put}
use Rattle.walk.specs.Cases.{by_cases, le_or_gt}
use Rattle.walk.specs.Listing.{over, fail, Answer, gives, none, refuses}
use Rattle.refusal.specs.Told.{Told, told, longest}
use Rattle.refusal.specs.declared.Refusal.TheVariants as why
use Rattle.kinds.specs.Kind.{Sort}
use Rattle.line_record.specs.declared.LineRecord.{LineRecord}
use Rattle.line_state_words.specs.LineWords.{record_size, state_size, line_walk_in, line_walk_words, line_words, record_words}
use Rattle.line_state_words.specs.ReadBackLaws.{FitsHeld, state_read}
use Rattle.line_step.specs.Turn.{finish_in}
use Rattle.line_step.specs.TurnLaws.{between_end, turn_is, turn_long}
use Rattle.line_step.specs.declared.Rest.{Rest}
use Rattle.line_step.specs.declared.LineWalk.{LineWalk}
use Rattle.line_step.specs.declared.LineWalk.TheVariants.{New, Between, Inside}
use Rattle.line_walk.specs.Next.{next_of}
use Rattle.line_walk.proofs.NextLaws.{next_is}
use Rattle.answer_words.specs.Given.{Given, Gives, step_given, none_given, if_chosen, choice_given}
use Rattle.answer_words.specs.GivenLaws.{gives_fits}
use Rattle.answer_words.specs.FillGiven.{count_words, fill_given}
use Rattle.answer_words.specs.FillGivenLaws.{Behind, fill_behind_each, fill_last}
use Rattle.many_lines.specs.Lines.{lines_of}
use Rattle.export_lines.specs.Calls.{holds_one, over_rest, over_walk, line_given, lines_given}

not_true : {A : Type 0} → false ≡ true → A
not_true e = let z : ◌≡◌ {A = ℕ} 0 1 = cc in absurd (omega arith)

-- a rest that is over has no subsection left, and holds nothing
rest_over : (t : Rest) → over_rest t ≡ true → (t.left ≡ 0) × (holds_one t.held ≡ false)
rest_over t = by_cases (λ b. b ≡ true → (t.left ≡ 0) × (holds_one t.held ≡ false)) (eqb t.left 0) (λ z e. (eqb-true t.left 0 z, turned (holds_one t.held) e)) (λ z e. not_true e)
  where
    turned : (b : Bool) → not b ≡ true → b ≡ false
    turned true e = not_true e
    turned false e = refl

-- such a walk is read back from its words
over_read : (w : LineWalk) (o : List ℕ) (n : ℕ) → over_walk w ≡ true → line_walk_in (put o 0 (count_words line_walk_words n w)) ≡ some w
over_read (New how) o n e = not_true e
over_read (Between how t) o n e =
    ap line_walk_in (append_assoc (line_walk_words (Between how t)) (n ∷ []) (drop (0 + length (count_words line_walk_words n (Between how t))) o))
    ∙ state_read (Between how t) (n ∷ drop (0 + length (count_words line_walk_words n (Between how t))) o) (fits t.held (rest_over t e).1)
  where
    fits : (h : Option LineRecord) → holds_one h ≡ false → FitsHeld h
    fits None q = tt
    fits (Some r) q = not_true (sym q)
over_read (Inside p t) o n e = not_true e

module _ (rule : ℕ → Sort) (s v : List ℕ) where
  -- and no record comes behind it
  over_none : length s ≤ longest → (w : LineWalk) → over_walk w ≡ true → next_of rule s v w ≡ none
  over_none f (New how) e = not_true e
  over_none f (Between how t) e =
      let q = rest_over t e in
      sym (next_is rule s v (Between how t) over (held t.held q.1 ∙ between_end rule s v how t q.0 ∙ turn_is rule s v (Between how t) f (Between how t) refl))
    where
      held : (h : Option LineRecord) → holds_one h ≡ false → over ≡ finish_in how h t
      held None q = refl
      held (Some r) q = not_true (sym q)
  over_none f (Inside p t) e = not_true e

  -- an area of which a step gives a record is not too long
  short : (r : LineRecord) (t w : LineWalk) → gives r t ≡ next_of rule s v w → length s ≤ longest
  short r t w e = ⊎_elim (λ (h : length s ≤ longest). h)
      (λ (h : longest < length s).
      let q : gives r t ≡ refuses (told why.TooLong) = e ∙ sym (next_is rule s v w (fail (told why.TooLong)) (turn_long rule s v w h)) in
      let z : ◌≡◌ {A = ℕ} 0 1 = cc in absurd (omega arith))
      (le_or_gt (length s) longest)

  each_over : (w : LineWalk) → Behind (λ t. over_walk t ≡ true → next_of rule s v t ≡ none) (next_of rule s v w)
  each_over w = by (next_of rule s v w) refl
    where
      by : (a : Answer LineWalk LineRecord Told) → a ≡ next_of rule s v w → Behind (λ t. over_walk t ≡ true → next_of rule s v t ≡ none) a
      by (gives r t) e = over_none (short r t w e) t
      by none e = tt
      by (refuses t) e = tt

  -- THE LAW: behind an answer of status 4 the walk that is left is at its end: the next call gives none
  pub lines_last : (x o : List ℕ) {left : List ℕ} → Gives o (lines_given rule s v (length x) o) 4 left → line_given rule s v left ≡ none_given
  lines_last x o {left} = by (line_walk_in o)
    where
      line : LineWalk → Given
      line w = step_given state_size line_words (next_of rule s v w)

      by : (m : option.Option LineWalk) → Gives o (if_chosen choice_given (λ w. fill_given state_size over_walk line_walk_words o (lines_of rule s v (length x) w)) m) 4 left
          → line_given rule s v left ≡ none_given
      by option.none g = let q = (gives_fits g (λ e. omega arith)).0 in absurd (omega arith)
      by (some w) g =
          fill_last state_size over_walk line_walk_words record_words o x (lines_of rule s v (length x) w) (λ l. line_given rule s v l ≡ none_given) (next_of rule s v)
          (λ u n e q. ap (if_chosen choice_given line) (over_read u o n e) ∙ ap (step_given state_size line_words) q)
          (fill_behind_each (next_of rule s v) (λ t. over_walk t ≡ true → next_of rule s v t ≡ none) each_over record_size (length x) w (omega arith)) g
