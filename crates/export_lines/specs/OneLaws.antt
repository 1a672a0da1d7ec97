-- One record by a call with room for one: it is the step's, and its words are those that the call put.
use Rattle.std.specs.Prelude.{ℕ, ◌+◌, ◌≤◌, ◌≡◌, refl, List, [], ◌∷◌, ◌++◌, length}
use Rattle.std.proofs.Common.{sym, ◌∙◌, subst, append-nil, arith, drop_of_length-le}
use Rattle.std.proofs.Math.Path.{ap}
use Rattle.word.specs.Word.{put}
use Rattle.walk.specs.Listing.{Answer, gives, none, refuses}
use Rattle.walk.specs.Many.{Many, as_many, many}
use Rattle.walk.specs.ManyLaws.{many_step, many_zero}
use Rattle.refusal.specs.Told.{Told}
use Rattle.kinds.specs.Kind.{Sort}
use Rattle.line_record.specs.declared.LineRecord.{LineRecord}
use Rattle.line_state_words.specs.LineWords.{record_size, state_size, line_walk_words, record_words, line_words}
use Rattle.line_state_words.specs.LineWordsLaws.{record_length}
use Rattle.line_step.specs.declared.LineWalk.{LineWalk}
use Rattle.line_walk.specs.Next.{next_of}
use Rattle.answer_words.specs.Given.{Gives, given, step_given}
use Rattle.answer_words.specs.Fill.{words_of, counted, filled, fill_of}
use Rattle.many_lines.specs.Lines.{lines_of}

-- an answer that is none, or a refusal, of many records is that of the step
module _ (m : Many LineWalk LineRecord) where
  step_none : (b : Answer LineWalk LineRecord Told) → none ≡ counted (as_many m b) → none ≡ b
  step_none (gives r u) e = let z : ◌≡◌ {A = ℕ} 0 1 = cc in absurd (omega arith)
  step_none none e = refl
  step_none (refuses t) e = let z : ◌≡◌ {A = ℕ} 0 1 = cc in absurd (omega arith)

  step_refused : (t : Told) (b : Answer LineWalk LineRecord Told) → refuses t ≡ counted (as_many m b) → refuses t ≡ b
  step_refused t (gives r u) e = let z : ◌≡◌ {A = ℕ} 0 1 = cc in absurd (omega arith)
  step_refused t none e = let z : ◌≡◌ {A = ℕ} 0 1 = cc in absurd (omega arith)
  step_refused t (refuses u) e = ap refuses (same e)
    where
      same : ◌≡◌ {A = Answer LineWalk ℕ Told} (refuses t) (refuses u) → t ≡ u
      same q = ap why q
        where
          why : Answer LineWalk ℕ Told → Told
          why (gives n w) = t
          why none = t
          why (refuses x) = x

abbrev state_of : LineWalk → Answer LineWalk ℕ Told → LineWalk
state_of x (gives n w) = w
state_of x none = x
state_of x (refuses t) = x

-- x are the words lent, of which there are as many as a record has, and y what they are then; w is the walk
module _ (rule : ℕ → Sort) (s v x : List ℕ) (size : length x ≡ record_size) (w : LineWalk) where
  abbrev first : Many LineWalk LineRecord
  first = many (next_of rule s v) 1 w

  one_is : lines_of rule s v (length x) w ≡ as_many first (next_of rule s v w)
  unfolding fill_of
  one_is = ap (λ (n : ℕ). lines_of rule s v n w) size

  pub one_none : none ≡ counted (lines_of rule s v (length x) w) → none ≡ next_of rule s v w
  one_none e = step_none first (next_of rule s v w) (e ∙ ap counted one_is)

  pub one_refused : (t : Told) → refuses t ≡ counted (lines_of rule s v (length x) w) → refuses t ≡ next_of rule s v w
  one_refused t e = step_refused first t (next_of rule s v w) (e ∙ ap counted one_is)

  whole : (ws : List ℕ) → length ws ≡ record_size → put x 0 (ws ++ []) ≡ ws
  whole ws l =
      let h : length x ≤ 0 + length ws = omega arith in
      ap (λ k. put x 0 k) (append-nil ws) ∙ ap (λ k. ws ++ k) (drop_of_length-le x h) ∙ append-nil ws

  -- the state t and the words y behind it are those of the step
  pub one_line : (n : ℕ) (t : LineWalk) (y : List ℕ) → gives n t ≡ counted (lines_of rule s v (length x) w) → y ≡ filled record_words x (lines_of rule s v (length x) w)
      → (o : List ℕ) (r : ℕ) (left : List ℕ) → Gives o (given 1 0 (line_walk_words t ++ y)) r left → Gives o (step_given state_size line_words (next_of rule s v w)) r left
  one_line n t y e q o r left g = on (next_of rule s v w) refl
    where
      on : (b : Answer LineWalk LineRecord Told) → b ≡ next_of rule s v w → Gives o (step_given state_size line_words b) r left
      on (gives c z) k =
          let b = ap (as_many first) (sym k) in
          let m = many_step (next_of rule s v) 0 w (gives c z) k in
          let l = many_zero (next_of rule s v) z in
          let es : t ≡ z = ap (state_of t) (e ∙ ap counted (one_is ∙ b)) ∙ ap (λ d. d.next) (sym m) ∙ ap (λ d. d.next) l in
          let er : first.records ≡ c ∷ [] = ap (λ d. d.records) (sym m) ∙ ap (λ d. c ∷ d.records) l in
          let ey : y ≡ record_words c = q ∙ ap (filled record_words x) (one_is ∙ b) ∙ ap (λ rs. put x 0 (words_of record_words rs)) er ∙ whole (record_words c) (record_length c) in
          subst (λ d. Gives o (given 1 0 d) r left) (λ i. line_walk_words (es i) ++ ey i) g
      on none k = let z : gives n t ≡ none = e ∙ ap counted (one_is ∙ ap (as_many first) (sym k)) in let a : ◌≡◌ {A = ℕ} 0 1 = cc in absurd (omega arith)
      on (refuses d) k = let z : gives n t ≡ refuses d = e ∙ ap counted (one_is ∙ ap (as_many first) (sym k)) in let a : ◌≡◌ {A = ℕ} 0 1 = cc in absurd (omega arith)
