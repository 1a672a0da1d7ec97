-- Laws of the calls on lines: only an answer changes the slots, or the words lent for records; a state put, and a number behind it, are put at once.
use Rattle.std.specs.Prelude.{ℕ, ◌+◌, ◌≤◌, ◌≡◌, refl, List, [], ◌∷◌, ◌++◌, Bool, false, not, length}
use Rattle.std.proofs.Common.{sym, ap, ◌∙◌, length-append, arith}
use Rattle.std.proofs.Math.Option.{Option, none, some}
use Rattle.walk.specs.Listing.{Reply, gave, nothing, refused}
use Rattle.refusal.specs.Told.{Told}
use Rattle.kinds.specs.Kind.{Sort}
use Rattle.order.specs.Order.{order_of, ordered, slots_after}
use Rattle.body_list.specs.BodyList.{starts_from, body_list, slots_holding, bodies_after}
use Rattle.answer_words.specs.Given.{Gives, given, if_chosen, choice_given}
use Rattle.answer_words.specs.GivenLaws.{Still, room_careful, gives_put}
use Rattle.export_lines.specs.Calls.{order_given, slots_left, bodies_given, bodies_left, holds_one, over_walk, lines_given, records_left}
use Rattle.word.specs.Word.{put}
use Rattle.word.specs.WordLaws.{put_length_lem, store_put}
use Rattle.answer_words.specs.FillGiven.{asked_size, fill_given, fill_left}
use Rattle.answer_words.specs.FillGivenLaws.{fill_careful}
use Rattle.walk.specs.Cases.{tests}
use Rattle.line_record.specs.declared.EndLines.{EndLines}
use Rattle.line_step.specs.declared.Rest.{Rest}
use Rattle.line_step.specs.declared.LineWalk.{LineWalk}
use Rattle.line_step.specs.declared.LineWalk.TheVariants.{Between}
use Rattle.line_state_words.specs.LineWords.{state_size, line_walk_in, line_walk_words, record_words}
use Rattle.line_state_words.specs.LineWordsLaws.{walk_length, behind_walk}
use Rattle.many_lines.specs.Lines.{lines_of}

-- THE LAW: with any status but 1 the slots are as they were
pub order_careful : (rule : ℕ → Sort) (s v o : List ℕ) {r : ℕ} {left : List ℕ} → Gives o (order_given rule s (length v) o) r left → (r ≡ 1 → ⊥)
    → slots_left rule s v o ≡ v
order_careful rule s v o g z = room_careful o (ordered rule s (length v)) v (slots_after rule s v) (still (ordered rule s (length v))) g z
  where
    still : (x : Reply ℕ Told) → Still x v (slots_holding (order_of rule s) v x)
    still (gave n) = tt
    still nothing = refl
    still (refused t) = refl

pub bodies_careful : (rule : ℕ → Sort) (s b o : List ℕ) {r : ℕ} {left : List ℕ} → Gives o (bodies_given rule s (length b) o) r left → (r ≡ 1 → ⊥)
    → bodies_left rule s b o ≡ b
bodies_careful rule s b o g z = room_careful o (body_list rule s (length b)) b (bodies_after rule s b) (still (body_list rule s (length b))) g z
  where
    still : (x : Reply ℕ Told) → Still x b (slots_holding (starts_from rule s 0) b x)
    still (gave n) = tt
    still nothing = refl
    still (refused t) = refl

module _ (o p q : List ℕ) (w : LineWalk) (n r k m : ℕ) (room : asked_size state_size ≤ length o) where
  -- p behind the state, and q behind the number
  pub gives_count : Gives o (given 1 0 (line_walk_words w)) k p → Gives p (given m state_size (n ∷ [])) r q → Gives o (given m 0 (line_walk_words w ++ (n ∷ []))) r q
  gives_count f g =
      let l = walk_length w in
      let ws = line_walk_words w ++ (n ∷ []) in
      let fits : 0 + length (line_walk_words w) ≤ length o = omega arith in
      let ep : p ≡ put o 0 (line_walk_words w) = f.words ∙ sym (store_put o 0 (line_walk_words w) state_size l (omega arith)) in
      let lp : length p ≡ length o = ap length ep ∙ put_length_lem o 0 (line_walk_words w) fits in
      let z = behind_walk o p q w (n ∷ []) (omega arith) ep g.words in
      let sp = (gives_put p (given m state_size (n ∷ [])) (omega arith)).status in
      let so = (gives_put o (given m 0 ws) (omega (arith, length-append (line_walk_words w) (n ∷ [])))).status in
      record { status = g.status ∙ sym sp ∙ so; words = z.words }

-- THE LAW: with any status but 1 and 4 the words lent for records are as they were
pub lines_careful : (rule : ℕ → Sort) (s v x o : List ℕ) {r : ℕ} {left : List ℕ} → Gives o (lines_given rule s v (length x) o) r left → (r ≡ 1 → ⊥) → (r ≡ 4 → ⊥)
    → records_left rule s v x o ≡ x
lines_careful rule s v x o {r} {left} = by (line_walk_in o)
  where
    by : (m : Option LineWalk) → Gives o (if_chosen choice_given (λ w. fill_given state_size over_walk line_walk_words o (lines_of rule s v (length x) w)) m) r left
        → (r ≡ 1 → ⊥) → (r ≡ 4 → ⊥) → if_chosen x (λ w. fill_left state_size record_words o x (lines_of rule s v (length x) w)) m ≡ x
    by none g z u = refl
    by (some w) g z u = fill_careful state_size over_walk line_walk_words record_words o x (lines_of rule s v (length x) w) walk_length g z u

-- ---- the end of a walk, as code sees it

module _ (how : EndLines) (w : LineWalk) (t : Rest) (e : w ≡ Between how t) where
  pub over_last : t.left ≡ 0 → (b : Bool) → b ≡ holds_one t.held → not b ≡ over_walk w
  over_last z b q = ap not q ∙ sym (simp tests) ∙ ap over_walk (sym e)

  pub over_more : (t.left ≡ 0 → ⊥) → false ≡ over_walk w
  over_more z = sym (simp tests) ∙ ap over_walk (sym e)
