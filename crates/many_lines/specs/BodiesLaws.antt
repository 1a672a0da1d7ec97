-- Laws of many turns at once, of the loop that makes turns one by one, and of how a call stops.
use Rattle.std.specs.Prelude.{ℕ, ◌+◌, ◌-◌, ◌*◌, ◌/◌, ◌^◌, ◌≤◌, ◌<◌, ◌≡◌, refl, List, ◌++◌, Bool, true, false, length, get_or, take, drop, Option, None, Some, Result, Ok}
use Rattle.std.proofs.Common.{sym, ap, ◌∙◌, subst, ⊎_elim, arith, take-append-drop, length-take-le}
use Rattle.std.proofs.Math.Path.{subst⁻¹}
use Rattle.word.specs.Word.{store}
use Rattle.walk.specs.Cases.{le_or_gt, eq_or_ne}
use Rattle.walk.specs.Listing.{item, pass, over, Answer, gives, none, refuses, gave, nothing}
use Rattle.walk.specs.First.{on_first}
use Rattle.walk.specs.ManyLaws.{NoRecord}
use Rattle.refusal.specs.Told.{Told, longest}
use Rattle.refusal.specs.declared.Refusal.{Refusal}
use Rattle.kinds.specs.Kind.{LINES, Sort, known, crate_rule}
use Rattle.area.specs.Subs.{step_at}
use Rattle.area.specs.SubsLaws.{whole_as, head_whole, step_gives}
use Rattle.find.specs.Find.{Span}
use Rattle.find.specs.declared as find
use Rattle.line_record.specs.declared.EndLines.{EndLines}
use Rattle.line_record.specs.declared.LineRecord.{LineRecord}
use Rattle.line_state_words.specs.LineWords.{record_size, record_words}
use Rattle.line_state_words.specs.LineWordsLaws.{record_length}
use Rattle.lines.specs.Lines.{count_lines}
use Rattle.lines.specs.LinesLaws.{counted_short}
use Rattle.lines.specs.Slots.{slot_at}
use Rattle.lines.specs.SlotsLaws.{seek_hit, scan_on, slot_is, slot_scans}
use Rattle.lines.specs.Told.{told_named}
use Rattle.body_list.specs.Search.{Right}
use Rattle.body_list.specs.declared.Known.{Known}
use Rattle.body_list.specs.declared.Known.TheVariants as known
use Rattle.line_step.specs.Turn.{LineMove, fresh_rest, with_held, end_held, enter_place, behind_body, open_of, finish_of, turn_of}
use Rattle.line_step.specs.TurnLaws.{end_on, sub_entered, enter_ends, between_end, between_sub, block_is, inside_block, turn_is}
use Rattle.line_step.specs.declared.Rest.{Rest}
use Rattle.line_step.specs.declared.Place.{Place}
use Rattle.line_step.specs.declared.LineWalk.{LineWalk}
use Rattle.line_step.specs.declared.LineWalk.TheVariants.{New, Between, Inside}
use Rattle.line_walk.specs.Next.{next_of}
use Rattle.line_walk.proofs.NextLaws.{next_is}
use Rattle.walk.specs.Many.{as_many, many}
use Rattle.answer_words.specs.Fill.{no_room, counted, fill_of}
use Rattle.body_lines.specs.declared.InBody.{InBody}
use Rattle.body_lines.specs.BodyLines.{Used, BodyPut}
use Rattle.body_lines.specs.BodyLinesLaws.{stored_length}
use Rattle.body_lines.specs.Turns.{Filled, UnderWay, TurnsPut}
use Rattle.body_lines.specs.TurnsLaws.{turns_put_same, turns_put_pass, turns_put_record, turns_put_on, turns_put_both, turns_put_last}
use Rattle.answer_words.specs.FillLaws as fill
use Rattle.body_lines.specs.FillLaws.{turns_start, turns_full}
use Rattle.many_lines.specs.Bodies.{Look, Knows, LocatedIs, LastAs, LastIs, walk_at, stands_at, BodyPassed, StandOf, StandsFor, BodiesPut, told_end, StopsAt, FilledBy, Answers, Refilled, without_room}
use Rattle.many_lines.specs.AgainLaws.{same_count, same_state, lines_again}
use Rattle.many_lines.specs.declared.Stand.{Stand}
use Rattle.many_lines.specs.declared.Reached.{Reached}
use Rattle.many_lines.specs.declared.Stopped.{Stopped}
use Rattle.many_lines.specs.Told.{told_lines}

-- how much is left to do: whether the walk is inside a body, and m subsections behind it
abbrev pub to_go : Bool → ℕ → ℕ
to_go true m = 2 * m + 1
to_go false m = 2 * m

pub go_first : (first : Bool) (k m : ℕ) → first ≡ true → k ≤ m → to_go false k < to_go first m
go_first first k m e h = subst (λ x. to_go false k < to_go x m) (sym e) (omega arith)

pub go_turn : (first : Bool) (k m : ℕ) → first ≡ false → k < m → (next : Bool) → to_go next k < to_go first m
go_turn first k m e h next = subst (λ x. to_go next k < to_go x m) (sym e) (to next)
  where
    to : (x : Bool) → to_go x k < 2 * m
    to true = omega arith
    to false = omega arith

not_so : {A : Type 0} → false ≡ true → A
not_so e = let z : ◌≡◌ {A = ℕ} 0 1 = cc in absurd (omega arith)

-- ---- a search that ends at its first look

pub crate_lines : crate_rule LINES ≡ known
unfolding crate_rule
crate_lines = refl

module _ (rule : ℕ → Sort) (lines : rule LINES ≡ known) (s : List ℕ) (p u n : ℕ) (h : Look s p u n) where
  look_whole : item (record { kind = LINES; start = p + 8; len = n }) (p + 8 + n) ≡ whole_as rule LINES p n
  unfolding whole_as
  look_whole = rw lines

  look_step : gives (record { kind = LINES; start = p + 8; len = n }) (p + 8 + n) ≡ step_at rule s p
  look_step = step_gives rule s p (record { kind = LINES; start = p + 8; len = n }) (p + 8 + n)
      (look_whole
      ∙ head_whole rule s p h.short (omega (arith, h.place, h.inside)) (omega (arith, h.place, h.inside)) (omega (arith, h.place, h.inside))
      (omega (arith, h.place, h.inside, h.len)) LINES n (sym h.kind) (sym h.len))

  pub look_slot : (v : List ℕ) (i : ℕ) → i < length v → get_or v i 0 ≡ u → gave (record { start = u; len = n }) ≡ slot_at rule s v i p
  look_slot v i l e =
      ap (λ (k : ℕ). gave (record { start = k; len = n })) (sym h.place)
      ∙ slot_is rule s v i p l p (gave (record { start = p + 8; len = n })) (scan_on p (get_or v i 0) (omega (arith, h.place)))
      (seek_hit rule s p (get_or v i 0) (record { kind = LINES; start = p + 8; len = n }) (p + 8 + n) look_step (h.place ∙ sym e) refl)

-- ---- the body that a slot names

module _ (rule : ℕ → Sort) (s v b : List ℕ) (i p : ℕ) where
  -- what is known stays so behind a body that is found from there on
  right_on : (k : Known) → Right rule s b k p → (a : Span) → gave a ≡ slot_at rule s v i p → Right rule s b k (a.start + a.len)
  right_on known.Nothing g a e = tt
  right_on known.Bodies g a e = (slot_scans rule s v i p g.0 a e, g.1)
  right_on known.Other g a e = tt

  pub located_as : (k : Known) (x : Result find.Span.Span Refusal) → Knows rule s b k p → told_named x ≡ slot_at rule s v i p → LocatedIs rule s v b i p (record { named = x; known = k })
  located_as k x g e = record { named = e; known = λ a q. record { so = right_on k g.so a (q ∙ e) } }

pub knows_nothing : (rule : ℕ → Sort) (s b : List ℕ) (p : ℕ) → Knows rule s b known.Nothing p
knows_nothing rule s b p = record { so = tt }

pub knows_at : (rule : ℕ → Sort) (s b : List ℕ) (k : Known) (p q : ℕ) → p ≡ q → Knows rule s b k q → Knows rule s b k p
knows_at rule s b k p q e = subst⁻¹ (Knows rule s b k) e

-- ---- the last record, as code puts it

module _ (n : ℕ) (how : EndLines) (t : Rest) (o : List ℕ) where
  pub last_none : t.held ≡ None → LastIs n how t o (record { n = n; walk = Between how t; over = false }) o
  last_none e = record { is = subst⁻¹ (λ x. LastAs x n how t o (record { n = n; walk = Between how t; over = false }) o) e (refl, refl) }

  pub last_one : (q : LineRecord) (u : Rest) (o' : List ℕ) → t.held ≡ Some q → u ≡ with_held t None → o' ≡ store o (record_size * n) (record_words q)
      → LastIs n how t o (record { n = n + 1; walk = Between how u; over = true }) o'
  last_one q u o' e eu eo = record {
    is = subst⁻¹ (λ x. LastAs x n how t o (record { n = n + 1; walk = Between how u; over = true }) o') e
        (ap (λ x. record { n = n + 1; walk = Between how x; over = true }) eu, eo);
  }

-- ---- turns that pass on

module _ (rule : ℕ → Sort) (s v : List ℕ) where
  -- over the end of a body: o is the record that is held then
  pub pass_end : (p : Place) (t u : Rest) (o : Option LineRecord) → Used s p → gave o ≡ end_held p.head t.held → u ≡ with_held t o
      → pass (Between p.how u) ≡ turn_of rule s v (Inside p t)
  pass_end p t u o k e eu =
      end_on p t o u e eu ∙ block_is (take p.end s) p t nothing k.over ∙ inside_block s p t k.fit.end k.fit.body k.lines
      ∙ turn_is rule s v (Inside p t) k.fit.short (Inside p t) refl

  -- into the next one, whose n bytes start at a
  module _ (how : EndLines) (t : Rest) (f : length s ≤ longest) (l : t.left ≡ 0 → ⊥) (g : length v < 2 ^ 64) (a n : ℕ)
      (e : gave (record { start = a; len = n }) ≡ slot_at rule s v t.slot t.scan) (q : Place) (eq : gave q ≡ enter_place how s a n) where
    pub pass_in : (u : Rest) → u ≡ behind_body t q.end → pass (Inside q u) ≡ turn_of rule s v (Between how t)
    pass_in u eu =
        sub_entered rule s v how t a n g e q u eq eu ∙ between_sub rule s v how t l ∙ turn_is rule s v (Between how t) f (Between how t) refl

    pub in_less : (u : Rest) → u ≡ behind_body t q.end → u.left < t.left
    in_less u eu = let z : u.left ≡ t.left - 1 = ap (λ r. r.left) eu in omega arith

    pub in_scan : (u : Rest) → u ≡ behind_body t q.end → u.scan ≡ a + n
    in_scan u eu = ap (λ r. r.scan) eu ∙ enter_ends how s a n q eq

  -- the last record is given
  pub last_gives : (how : EndLines) (t u : Rest) (r : LineRecord) → length s ≤ longest → t.left ≡ 0 → t.held ≡ Some r → u ≡ with_held t None
      → item r (Between how u) ≡ turn_of rule s v (Between how t)
  last_gives how t u r f z e eu =
      ap (λ x. item r (Between how x)) eu ∙ given t.held e ∙ between_end rule s v how t z ∙ turn_is rule s v (Between how t) f (Between how t) refl
    where
      given : (o : Option LineRecord) → o ≡ Some r → item r (Between how (with_held t None)) ≡ finish_of how (with_held t o)
      given o q = rw q

  last_over : (how : EndLines) (t u : Rest) → length s ≤ longest → t.left ≡ 0 → u ≡ with_held t None → over ≡ turn_of rule s v (Between how u)
  last_over how t u f z eu =
      between_end rule s v how (with_held t None) z ∙ turn_is rule s v (Between how (with_held t None)) f (Between how (with_held t None)) refl
      ∙ ap (λ x. turn_of rule s v (Between how x)) (sym eu)

  -- ---- where a walk stands

  module _ (n : ℕ) where
    pub stand_same : (w : LineWalk) (b : Bool) (p : Place) (t : Rest) → length s ≤ longest → w ≡ walk_at b p t
        → StandOf rule s v n w (record { n = n; inside = b; place = p; rest = t })
    stand_same w b p t f e =
        record { short = f; count = refl; turns = λ room o l. subst (λ y. TurnsPut rule s v room n w o n y o) e (turns_put_same rule s v room) }

    -- a walk between two bodies, at a place that is in none
    pub stand_between : (w : LineWalk) (how : EndLines) (p : Place) (t : Rest) → length s ≤ longest → w ≡ Between how t → p.how ≡ how
        → StandOf rule s v n w (record { n = n; inside = false; place = p; rest = t })
    stand_between w how p t f e q = stand_same w false p t f (e ∙ ap (λ x. Between x t) (sym q))

    -- a new walk; k is how many line subsections there are
    pub stand_new_lem : (how : EndLines) (k : ℕ) (p : Place) (t : Rest) → p.how ≡ how → gave k ≡ count_lines rule s → t ≡ fresh_rest 0 k
        → StandOf rule s v n (New how) (record { n = n; inside = false; place = p; rest = t })
    stand_new_lem how k p t q e et =
        let f = counted_short rule s k e in
        let z : pass (Between p.how t) ≡ turn_of rule s v (New how)
        = (λ i. pass (Between (q i) (et i))) ∙ ap (open_of how) e ∙ turn_is rule s v (New how) f (New how) refl in
        record { short = f; count = refl; turns = λ room o l. turns_put_pass rule s v room l (Between p.how t) z }

-- w is x
pub stands_as : (rule : ℕ → Sort) (s : List ℕ) (n : ℕ) (w x : LineWalk) (r : Option Stand) → w ≡ x → StandsFor rule s n x r → StandsFor rule s n w r
stands_as rule s n w x r e = subst⁻¹ (λ y. StandsFor rule s n y r) e

-- ---- the lines of a body, r being how far they came, and its end

module _ (rule : ℕ → Sort) (s : List ℕ) (p : Place) (held : Option LineRecord) (n : ℕ) (o : List ℕ) (r : InBody) (o' : List ℕ)
    (h : BodyPut rule s (length o / record_size) p held n o r o') where
  abbrev Passed : InBody → Type 0
  Passed x = BodyPassed rule s p held n o x o'

  pub passed_stays : Passed (record { n = r.n; place = r.place; held = r.held; stuck = true })
  passed_stays = record { size = h.size; turns = h.turns; room = λ z. not_so (sym z) }

  pub passed_stuck : r.stuck ≡ true → Passed r
  passed_stuck e = subst⁻¹ (λ (b : Bool). Passed (record { n = r.n; place = r.place; held = r.held; stuck = b })) e passed_stays

  -- q is the record that is held behind the end
  pub passed_end : r.stuck ≡ false → (q : Option LineRecord) → gave q ≡ end_held r.place.head r.held
      → Passed (record { n = r.n; place = r.place; held = q; stuck = false })
  passed_end e q eq =
      let k = h.used e in
      let room = length o / record_size in
      record {
        size = h.size;
        turns = λ v t. turns_put_on rule s v room (h.turns v t)
            (turns_put_pass rule s v room k.1 (Between r.place.how (with_held t q)) (pass_end rule s v r.place (with_held t r.held) (with_held t q) q k.0 eq refl));
        room = λ _. k.1;
      }

-- ---- many turns at once

module _ (rule : ℕ → Sort) (s v : List ℕ) (n : ℕ) (w : LineWalk) (o : List ℕ) where
  -- where they have come to so far: x stands with room for another record
  pub record Comes (m : ℕ) (x : LineWalk) (o' : List ℕ) : Type 0 where
    pub size : length o' ≡ length o
    pub turns : TurnsPut rule s v (length o / record_size) n w o m x o'

  pub comes_first : Comes n w o
  comes_first = record { size = refl; turns = turns_put_same rule s v (length o / record_size) }

  -- b says whether it is inside a body
  pub comes_at : (b c : Bool) → b ≡ c → (m : ℕ) (p : Place) (t : Rest) (o' : List ℕ) → Comes m (walk_at b p t) o' → Comes m (walk_at c p t) o'
  comes_at b c e m p t o' = subst (λ x. Comes m (walk_at x p t) o') e

  module _ (m : ℕ) (o' : List ℕ) where
    pub comes_pass : (x y : LineWalk) → Comes m x o' → m < length o / record_size → pass y ≡ turn_of rule s v x → Comes m y o'
    comes_pass x y h l e = record { size = h.size; turns = turns_put_on rule s v (length o / record_size) h.turns (turns_put_pass rule s v (length o / record_size) l y e) }

    -- a body, u being what is behind it
    pub comes_body : (p : Place) (t : Rest) (r : InBody) (o'' : List ℕ) (u : Rest) → Comes m (Inside p t) o' → BodyPassed rule s p t.held m o' r o''
        → u ≡ with_held t r.held → Comes r.n (walk_at r.stuck r.place u) o''
    comes_body p t r o'' u h k e =
        let er : length o' / record_size ≡ length o / record_size = ap (λ (x : ℕ). x / record_size) h.size in
        let g = subst (λ (x : ℕ). TurnsPut rule s v x m (Inside p t) o' r.n (walk_at r.stuck r.place (with_held t r.held)) o'') er (k.turns v t) in
        subst (λ x. Comes r.n (walk_at r.stuck r.place x) o'') (sym e)
        (record { size = k.size ∙ h.size; turns = turns_put_on rule s v (length o / record_size) h.turns g })

  -- ---- how they end

  pub bodies_stuck : (m : ℕ) (x : LineWalk) (o' : List ℕ) → Comes m x o' → BodiesPut rule s v n w o (record { n = m; walk = x; over = false }) o'
  bodies_stuck m x o' h = record { size = h.size; turns = h.turns; ends = not_so; exactly = not_so }

  -- r is where code says that it is
  pub bodies_at : (m : ℕ) (x : LineWalk) (o' : List ℕ) (r : Reached) → Comes m x o' → r ≡ record { n = m; walk = x; over = false } → BodiesPut rule s v n w o r o'
  bodies_at m x o' r h e = subst⁻¹ (λ y. BodiesPut rule s v n w o y o') e (bodies_stuck m x o' h)

  -- behind a walk that stands at x
  pub bodies_behind : (x : Stand) (r : Reached) (o' : List ℕ) → StandOf rule s v n w x → n < length o / record_size → BodiesPut rule s v x.n (stands_at x) o r o'
      → BodiesPut rule s v n w o r o'
  bodies_behind x r o' h l k =
      let room = length o / record_size in
      let f = h.turns room o l in
      record {
        size = k.size;
        turns = turns_put_on rule s v room f k.turns;
        ends = k.ends;
        exactly = λ z w₁ o₁ e g. ap (λ u. u.last) (turns_put_both rule s v room f k.turns w₁ o₁ e g) ∙ k.exactly z w₁ o₁ e (f.under_way w₁ o₁ e g);
      }

  pub bodies_last : (m : ℕ) (how : EndLines) (t u : Rest) (o' o'' : List ℕ) (r : LineRecord) → Comes m (Between how t) o' → m < length o / record_size → length s ≤ longest → t.left ≡ 0 → t.held ≡ Some r
      → u ≡ with_held t None → o'' ≡ store o' (record_size * m) (record_words r) → record_size * m + record_size ≤ length o'
      → BodiesPut rule s v n w o (record { n = m + 1; walk = Between how u; over = true }) o''
  bodies_last m how t u o' o'' r h l f z e eu eo k =
      let room = length o / record_size in
      let q = last_gives rule s v how t u r f z e eu in
      record {
        size = stored_length o' (record_size * m) r o'' eo k ∙ h.size;
        turns = turns_put_on rule s v room h.turns (turns_put_record rule s v room l r (Between how u) o'' q eo);
        ends = λ _. (last_over rule s v how t u f z eu, omega arith);
        exactly = λ _ w₁ o₁ e₁ g. turns_put_last rule s v room h.turns l r (Between how u) o'' q eo w₁ o₁ e₁ g;
      }

  -- a is what `last_record` answers
  pub bodies_finish : (m : ℕ) (how : EndLines) (t : Rest) (o' o'' : List ℕ) (r : Reached) → Comes m (Between how t) o' → m < length o / record_size → length s ≤ longest → t.left ≡ 0
      → record_size * m + record_size ≤ length o' → LastIs m how t o' r o'' → BodiesPut rule s v n w o r o''
  bodies_finish m how t o' o'' r h l f z k a = by t.held refl a.is
    where
      by : (x : Option LineRecord) → t.held ≡ x → LastAs x m how t o' r o'' → BodiesPut rule s v n w o r o''
      by None e q = rw (q.0, q.1) (bodies_stuck m (Between how t) o' h)
      by (Some c) e q = subst⁻¹ (λ y. BodiesPut rule s v n w o y o'') q.0 (bodies_last m how t (with_held t None) o' o'' c h l f z e refl q.1 k)

-- ---- turn by turn

module _ (rule : ℕ → Sort) (s v : List ℕ) (n₀ : ℕ) (w₀ : LineWalk) (o₀ : List ℕ) where
  -- what the loop keeps: n records are put, the walk stands at w, and `exact` says that this is right behind the last of them
  pub record Turning (n : ℕ) (w : LineWalk) (exact : Bool) (o : List ℕ) : Type 0 where
    pub size : length o ≡ length o₀
    pub turns : TurnsPut rule s v (length o₀ / record_size) n₀ w₀ o₀ n w o
    pub exactly : exact ≡ true → (w₁ : LineWalk) (o₁ : List ℕ) (e : length o₁ / record_size ≡ length o₀ / record_size) (g : UnderWay rule s v w₁ o₁ n₀ w₀ o₀)
        → (turns.under_way w₁ o₁ e g).last ≡ w

  pub turning_start : Turning n₀ w₀ false o₀
  turning_start = record { size = refl; turns = turns_put_same rule s v (length o₀ / record_size); exactly = not_so }

  module _ (n : ℕ) (w : LineWalk) (exact : Bool) (o : List ℕ) (h : Turning n w exact o) where
    abbrev room : ℕ
    room = length o₀ / record_size

    module _ (l : n < length o₀ / record_size) where
      pub turning_record : (r : LineRecord) (t : LineWalk) (o' : List ℕ) → item r t ≡ turn_of rule s v w → o' ≡ store o (record_size * n) (record_words r)
          → record_size * n + record_size ≤ length o → Turning (n + 1) t true o'
      turning_record r t o' e q k = record {
        size = stored_length o (record_size * n) r o' q k ∙ h.size;
        turns = turns_put_on rule s v room h.turns (turns_put_record rule s v room l r t o' e q);
        exactly = λ _ w₁ o₁ f g. turns_put_last rule s v room h.turns l r t o' e q w₁ o₁ f g;
      }

      -- a turn that passes on, and many at once behind it
      pub turning_pass : (t : LineWalk) (x : Reached) (o' : List ℕ) → pass t ≡ turn_of rule s v w → BodiesPut rule s v n t o x o' → Turning x.n x.walk false o'
      turning_pass t x o' e k =
          let er : length o / record_size ≡ length o₀ / record_size = ap (λ (z : ℕ). z / record_size) h.size in
          let f = subst (λ (z : ℕ). TurnsPut rule s v z n t o x.n x.walk o') er k.turns in
          record {
            size = k.size ∙ h.size;
            turns = turns_put_on rule s v room h.turns (turns_put_on rule s v room (turns_put_pass rule s v room l t e) f);
            exactly = not_so;
          }

      -- a turn that tells an end
      pub turning_stops : (u : LineMove) (k : Option Refusal) (r : Stopped) → u ≡ turn_of rule s v w → told_end k ≡ on_first (next_of rule s v) u
          → r ≡ record { n = n; walk = w; exact = exact; end = k } → StopsAt rule s v n₀ w₀ o₀ r o
      turning_stops u k r e q er = subst⁻¹ (λ y. StopsAt rule s v n₀ w₀ o₀ y o) er (record {
        size = h.size;
        turns = h.turns;
        exactly = λ x _. h.exactly x;
        stops = λ _. q ∙ next_is rule s v w u e;
        inexact = λ _. l;
      })

    pub turning_full : length o₀ / record_size ≤ n → (r : Stopped) → r ≡ record { n = n; walk = w; exact = true; end = None }
        → StopsAt rule s v n₀ w₀ o₀ r o
    turning_full l r er = subst⁻¹ (λ y. StopsAt rule s v n₀ w₀ o₀ y o) er (record {
      size = h.size;
      turns = h.turns;
      exactly = λ _ z. absurd (omega arith);
      stops = λ z. absurd (omega arith);
      inexact = λ z. not_so (sym z);
    })

end_no_record : (k : Option Refusal) → NoRecord (told_end k)
end_no_record None = tt
end_no_record (Some r) = tt

-- ---- how a call stops

module _ (rule : ℕ → Sort) (s v : List ℕ) (w₀ : LineWalk) (o₁ : List ℕ) (fits : record_size ≤ length o₁) where
  abbrev begun : UnderWay rule s v w₀ o₁ 0 w₀ o₁
  begun = record { last = w₀; fills = turns_start rule s v w₀ o₁; full = λ z. refl }

  -- there is no more room
  pub filled_full : (n : ℕ) (w : LineWalk) (o : List ℕ) → UnderWay rule s v w₀ o₁ n w o → length o₁ / record_size ≤ n → Filled rule s v w₀ o₁ (gives n w) o
  filled_full n w o h l = subst (λ z. Filled rule s v w₀ o₁ (gives n z) o) (h.full l) (turns_full rule s v w₀ o₁ h.fills fits l)

  -- no record comes: a is what is answered where another was looked for
  module _ (n : ℕ) (w : LineWalk) (o : List ℕ) (h : UnderWay rule s v w₀ o₁ n w o) (a : Answer LineWalk LineRecord Told) (e : a ≡ next_of rule s v w) (f : NoRecord a) where
    pub filled_stop : (n ≡ 0 → ⊥) → Filled rule s v w₀ o₁ (gives n h.last) o
    filled_stop z = fill.fill_stop record_size record_words record_length (next_of rule s v) w₀ o₁ h.fills fits a e f z

    pub filled_none : n ≡ 0 → Filled rule s v w₀ o₁ (counted (no_room a)) o
    filled_none z = fill.fill_none record_size record_words record_length (next_of rule s v) w₀ o₁ h.fills fits a e f z

  -- the walk is over
  pub filled_over : (r : Reached) (o : List ℕ) → BodiesPut rule s v 0 w₀ o₁ r o → r.over ≡ true → Filled rule s v w₀ o₁ (gives r.n r.walk) o
  filled_over r o h z =
      let k = h.turns.under_way w₀ o₁ refl begun in
      subst (λ x. Filled rule s v w₀ o₁ (gives r.n x) o) (h.exactly z w₀ o₁ refl begun)
      (filled_stop r.n r.walk o k none (next_is rule s v r.walk over (h.ends z).0) tt (λ y. let m = (h.ends z).1 in omega arith))

  -- many turns at once, and then whatever answers
  pub filled_on : (r : Reached) (o : List ℕ) → BodiesPut rule s v 0 w₀ o₁ r o → UnderWay rule s v w₀ o₁ r.n r.walk o
  filled_on r o h = h.turns.under_way w₀ o₁ refl begun

  -- the records once more, with n of them behind many turns at once and x where turns stopped
  pub refilled : (r : Reached) (o : List ℕ) (x : Stopped) (o' : List ℕ) → BodiesPut rule s v 0 w₀ o₁ r o → StopsAt rule s v r.n r.walk o x o' → Refilled rule s v w₀ o₁ x.walk o'
  refilled r o x o' h k = ⊎_elim full stops (le_or_gt (length o₁ / record_size) x.n)
    where
      er : length o₁ / record_size ≡ length o / record_size
      er = ap (λ (z : ℕ). z / record_size) (sym h.size)

      under : UnderWay rule s v w₀ o₁ x.n x.walk o'
      under = k.turns.under_way w₀ o₁ er (filled_on r o h)

      full : length o₁ / record_size ≤ x.n → Refilled rule s v w₀ o₁ x.walk o'
      full l = record { answer = gives x.n x.walk; filled = filled_full x.n x.walk o' under l; full = λ n last e z. sym (same_state e) }

      some : (x.n ≡ 0 → ⊥) → x.n < length o₁ / record_size → Refilled rule s v w₀ o₁ x.walk o'
      some z l = record {
        answer = gives x.n under.last;
        filled = filled_stop x.n x.walk o' under (told_end x.end) (k.stops (omega arith)) (end_no_record x.end) z;
        full = λ n last e y. let m = same_count e in absurd (omega arith);
      }

      no_answer : (a : Option Refusal) (n : ℕ) (last : LineWalk) → counted (no_room (told_end a)) ≡ gives n last → ⊥
      no_answer None n last e = let z : ◌≡◌ {A = ℕ} 0 1 = cc in omega arith
      no_answer (Some t) n last e = let z : ◌≡◌ {A = ℕ} 0 1 = cc in omega arith

      nothing_put : x.n ≡ 0 → x.n < length o₁ / record_size → Refilled rule s v w₀ o₁ x.walk o'
      nothing_put z l = record {
        answer = counted (no_room (told_end x.end));
        filled = filled_none x.n x.walk o' under (told_end x.end) (k.stops (omega arith)) (end_no_record x.end) z;
        full = λ n last e y. absurd (no_answer x.end n last e);
      }

      stops : x.n < length o₁ / record_size → Refilled rule s v w₀ o₁ x.walk o'
      stops l = ⊎_elim (λ (z : x.n ≡ 0). nothing_put z l) (λ (z : x.n ≡ 0 → ⊥). some z l) (eq_or_ne x.n 0)

-- the room of n records, of which there is one at least
pub take_fits : (o : List ℕ) (n : ℕ) → (n ≡ 0 → ⊥) → record_size * n ≤ length o → record_size ≤ length (take (record_size * n) o)
take_fits o n z h = omega (arith, length-take-le (record_size * n) o h)

-- ---- a call that stands behind many turns at once, and then stops at x

module _ (rule : ℕ → Sort) (s v : List ℕ) (w₀ : LineWalk) (n : ℕ) (w : LineWalk) (o : List ℕ) (x : Stopped) (o' : List ℕ) (h : StopsAt rule s v n w o x o') where
  module _ (o₁ : List ℕ) (e : length o₁ ≡ length o) (g : UnderWay rule s v w₀ o₁ n w o) where
    abbrev same_room : length o₁ / record_size ≡ length o / record_size
    same_room = ap (λ (z : ℕ). z / record_size) e

    abbrev under_x : UnderWay rule s v w₀ o₁ x.n x.walk o'
    under_x = h.turns.under_way w₀ o₁ same_room g

  -- there is none
  pub answers_none : x.n ≡ 0 → (r : Result (Option (ℕ × LineWalk)) Refusal) → told_lines r ≡ counted (no_room (told_end x.end)) → Answers rule s v w₀ n w o r o'
  answers_none z r er = record {
    filled = λ o₁ e fits g.
        let l : x.n < length o / record_size = omega arith in
        subst (λ a. Filled rule s v w₀ o₁ a o') (sym er)
        (filled_none rule s v w₀ o₁ fits x.n x.walk o' (under_x o₁ e g) (told_end x.end) (h.stops l) (end_no_record x.end) z);
  }

  -- the walk is right behind the last
  pub answers_exact : (x.n ≡ 0 → ⊥) → x.exact ≡ true → Answers rule s v w₀ n w o (Ok (Some (x.n, x.walk))) o'
  answers_exact z q = record {
    filled = λ o₁ e fits g. ⊎_elim
        (λ (l : length o₁ / record_size ≤ x.n). filled_full rule s v w₀ o₁ fits x.n x.walk o' (under_x o₁ e g) l)
        (λ (l : x.n < length o₁ / record_size).
        subst (λ y. Filled rule s v w₀ o₁ (gives x.n y) o') (h.exactly q (omega (arith, same_room o₁ e g)) w₀ o₁ (same_room o₁ e g) g)
        (filled_stop rule s v w₀ o₁ fits x.n x.walk o' (under_x o₁ e g) (told_end x.end) (h.stops (omega (arith, same_room o₁ e g))) (end_no_record x.end) z))
        (le_or_gt (length o₁ / record_size) x.n);
  }

  -- it is found by filling the room of just these once more, y being the walk behind them
  pub answers_again : (x.n ≡ 0 → ⊥) → x.exact ≡ false → (y : LineWalk) (o'' : List ℕ) → Refilled rule s v w₀ (take (record_size * x.n) o') y o''
      → Answers rule s v w₀ n w o (Ok (Some (x.n, y))) (o'' ++ drop (record_size * x.n) o')
  answers_again z q y o'' k = record {
    filled = λ o₁ e fits g.
        let l = h.inexact q in
        let f = filled_stop rule s v w₀ o₁ fits x.n x.walk o' (under_x o₁ e g) (told_end x.end) (h.stops l) (end_no_record x.end) z in
        let a = lines_again rule s v w₀ o₁ o' x.n (under_x o₁ e g).last fits f k.answer o'' k.filled in
        let m : record_size * x.n ≤ length o' = omega (arith, h.size) in
        let d : x.n ≡ length (take (record_size * x.n) o') / record_size = omega (arith, length-take-le (record_size * x.n) o' m) in
        let ey : (under_x o₁ e g).last ≡ y = k.full x.n (under_x o₁ e g).last a.0 (omega arith) in
        let eo : o' ≡ o'' ++ drop (record_size * x.n) o' = sym (take-append-drop (record_size * x.n) o') ∙ ap (λ l. l ++ drop (record_size * x.n) o') (sym a.1) in
        subst (λ u. Filled rule s v w₀ o₁ (gives x.n y) u) eo (subst (λ u. Filled rule s v w₀ o₁ (gives x.n u) o') ey f);
  }

-- ---- without room for a record: x and o'' are what is answered with room for one, the words y

one_room : (rule : ℕ → Sort) (s v : List ℕ) (w : LineWalk) → without_room (counted (fill_of record_size (next_of rule s v) record_size w)) ≡ counted (no_room (next_of rule s v w))
unfolding fill_of
one_room rule s v w = on (next_of rule s v w)
  where
    on : (a : Answer LineWalk LineRecord Told) → without_room (counted (as_many (many (next_of rule s v) (record_size / record_size) w) a)) ≡ counted (no_room a)
    on (gives r t) = refl
    on none = refl
    on (refuses t) = refl

pub lines_short : (rule : ℕ → Sort) (s v : List ℕ) (w : LineWalk) (o : List ℕ) → length o < record_size → (y o'' : List ℕ) (x b : Result (Option (ℕ × LineWalk)) Refusal)
    → FilledBy rule s v w y x o'' → length y ≡ record_size → told_lines b ≡ without_room (told_lines x) → Filled rule s v w o (told_lines b) o
lines_short rule s v w o h y o'' x b q ey e =
    let f = fill.fill_no_room record_size record_words record_length (next_of rule s v) w o h (next_of rule s v w) refl in
    let eb : told_lines b ≡ counted (no_room (next_of rule s v w))
    = e ∙ ap without_room q.is.0 ∙ ap (λ (n : ℕ). without_room (counted (fill_of record_size (next_of rule s v) n w))) ey ∙ one_room rule s v w in
    subst⁻¹ (λ a. Filled rule s v w o a o) eb f
