-- Laws of the turns: one for each way out of the code's tests.
use Rattle.std.specs.Prelude.{◌≡◌, ℕ, ◌+◌, ◌-◌, ◌*◌, ◌%◌, ◌^◌, ◌<◌, ◌≤◌, Bool, true, false, List, length, take, ◌≢◌, nat_lt, refl, Option, None, Some}
use Rattle.std.proofs.Math.Path.{sym, ap, subst⁻¹}
use Rattle.std.proofs.Common.{◌∙◌, arith, length-take-le, ltb-false}
use Rattle.word.specs.Word.{u32_at}
use Rattle.walk.specs.Cases.{tests, by_cases}
use Rattle.walk.specs.Listing.{item, pass, fail, Answer, gives, none, refuses, Reply, gave, nothing, refused}
use Rattle.refusal.specs.Told.{Told, told, longest}
use Rattle.refusal.specs.declared.Refusal.TheVariants as why
use Rattle.kinds.specs.Kind.{Sort}
use Rattle.body.specs.Lines.{line_head_size, line_head, columned, line_bytes}
use Rattle.find.specs.Find.{Span, bytes_at}
use Rattle.line_record.specs.Record.{max_offset, column_if, entry_of, closed_at}
use Rattle.line_record.specs.declared.EndLines.{EndLines}
use Rattle.line_record.specs.declared.LineRecord.{LineRecord}
use Rattle.line_record.specs.declared.LineSource.{LineSource}
use Rattle.lines.specs.Blocks.{LineBlock, block_at}
use Rattle.lines.specs.BlocksLaws.{block_in}
use Rattle.lines.specs.Slots.{slot_at}
use Rattle.lines.specs.SlotsLaws.{slot_inside}
use Rattle.lines.specs.Told.{told_header, untold_header}
use Rattle.lines.specs.declared.LineHeader.{LineHeader}
use Rattle.line_step.specs.declared.Rest.{Rest}
use Rattle.line_step.specs.declared.Place.{Place}
use Rattle.line_step.specs.declared.LineWalk.{LineWalk}
use Rattle.line_step.specs.declared.LineWalk.TheVariants.{Between, Inside}
use Rattle.line_step.specs.Turn.{LineMove, source_of, entry_in, line_entry_at, with_held, lines_on, past_lines, hold_in, hold_of, line_of, line_turn, column_place, block_place, next_block, end_held, end_move, end_of, block_of, block_turn, inside_turn, place_at, headed_place, enter_place, rest_at, behind_body, enter_move, named_of, sub_turn, finish_in, finish_of, between_turn, turn_in, turn_of}

-- ---- a line

module _ (b : List ℕ) (p : Place) where
  pub entry_past : length b < p.line + 8 → refused (told why.Cut) ≡ line_entry_at b p
  unfolding line_entry_at
  entry_past h = simp tests

  module _ (h₁ : p.line + 8 ≤ length b) where
    pub entry_past_column : length b < p.column + 4 → refused (told why.Cut) ≡ line_entry_at b p
    unfolding line_entry_at
    entry_past_column h = simp tests

    module _ (h₂ : p.column + 4 ≤ length b) where
      pub entry_inside : entry_in b p ≡ line_entry_at b p
      unfolding line_entry_at
      entry_inside = sym (simp tests)

      -- what was read, as code has it
      pub entry_in_lem : (x : LineSource) (o g w : ℕ) → x ≡ source_of p → o ≡ u32_at b p.line → g ≡ u32_at b (p.line + 4) → w ≡ u32_at b p.column
          → entry_of x o g (column_if x.columns w) ≡ line_entry_at b p
      entry_in_lem x o g w ex eo eg ew = (λ i. entry_of (ex i) (eo i) (eg i) (column_if (ex i).columns (ew i))) ∙ entry_inside

-- an entry that is no refusal lies inside the body
abbrev EntryIn : ℕ → Place → Reply LineRecord Told → Type 0
EntryIn m p (gave r) = (p.line + 8 ≤ m) × (p.column + 4 ≤ m)
EntryIn m p nothing = (p.line + 8 ≤ m) × (p.column + 4 ≤ m)
EntryIn m p (refused t) = Unit {0}

entry_is_in : (m : ℕ) (p : Place) (e : Reply LineRecord Told) → p.line + 8 ≤ m → p.column + 4 ≤ m → EntryIn m p e
entry_is_in m p (gave r) h g = (h, g)
entry_is_in m p nothing h g = (h, g)
entry_is_in m p (refused t) h g = tt

entry_lies : (b : List ℕ) (p : Place) → EntryIn (length b) p (line_entry_at b p)
unfolding line_entry_at
entry_lies b p =
    by_cases (EntryIn (length b) p) (nat_lt (length b) (p.line + 8)) (λ e. tt)
    (λ e. by_cases (EntryIn (length b) p) (nat_lt (length b) (p.column + 4)) (λ g. tt)
    (λ g. entry_is_in (length b) p (entry_in b p) (ltb-false (length b) (p.line + 8) e) (ltb-false (length b) (p.column + 4) g)))

pub entry_within : (b : List ℕ) (p : Place) (e : Reply LineRecord Told) → e ≡ line_entry_at b p → EntryIn (length b) p e
entry_within b p e q = subst⁻¹ (EntryIn (length b) p) q (entry_lies b p)

-- n lines on, as code reckons it
pub past_lines_in : (p : Place) (n l a k : ℕ) → l ≡ p.lines - n → a ≡ (p.line + 8 * (n % 2 ^ 61)) % 2 ^ 64 → k ≡ (p.column + 4 * (n % 2 ^ 62)) % 2 ^ 64
    → record { head = p.head; how = p.how; body = p.body; end = p.end; next = p.next; file = p.file; lines = l; line = a; column = k } ≡ past_lines p n
past_lines_in p n l a k el ea ek =
    let fa : a ≡ (p.line + 8 * n) % 2 ^ 64 = omega arith in
    let fk : k ≡ (p.column + 4 * n) % 2 ^ 64 = omega arith in
    λ i. record { head = p.head; how = p.how; body = p.body; end = p.end; next = p.next; file = p.file; lines = el i; line = fa i; column = fk i }

-- and where the places fit
pub past_lines_are : (p : Place) (n : ℕ) → p.line + 8 * n < 2 ^ 64 → p.column + 4 * n < 2 ^ 64 → (q : Place) → q ≡ past_lines p n → q ≡ lines_on p n
past_lines_are p n h g q e =
    let a : (p.line + 8 * n) % 2 ^ 64 ≡ p.line + 8 * n = omega arith in
    let b : (p.column + 4 * n) % 2 ^ 64 ≡ p.column + 4 * n = omega arith in
    e ∙ (λ i. record { head = p.head; how = p.how; body = p.body; end = p.end; next = p.next; file = p.file; lines = p.lines - n; line = a i; column = b i })

module _ (o : Option LineRecord) (p : Place) (t : Rest) (r : LineRecord) (u : Rest) (eu : u ≡ with_held t (Some r)) where
  pub hold_nothing : o ≡ None → pass (Inside p u) ≡ hold_in o r (Inside p (with_held t (Some r)))
  hold_nothing e = rw e (ap (λ k. pass (Inside p k)) eu)

  pub hold_one : (q k : LineRecord) → o ≡ Some q → k ≡ closed_at r.section r.offset q
      → item k (Inside p u) ≡ hold_in o r (Inside p (with_held t (Some r)))
  hold_one q k e ek = rw e (λ i. item (ek i) (Inside p (eu i)))

module _ (b : List ℕ) (p : Place) (t : Rest) where
  module _ (k : Place) (ek : k ≡ lines_on p 1) where
    pub line_line : (r : LineRecord) (u : LineMove) → gave r ≡ line_entry_at b p → u ≡ hold_of k t r → u ≡ line_turn b p t
    line_line r u e eu = eu ∙ ap (λ q. hold_of q t r) ek ∙ ap (line_of p t) e

    pub line_marker : nothing ≡ line_entry_at b p → pass (Inside k t) ≡ line_turn b p t
    line_marker e = ap (λ q. pass (Inside q t)) ek ∙ ap (line_of p t) e

  pub line_refused : (e : Told) → refused e ≡ line_entry_at b p → fail e ≡ line_turn b p t
  line_refused e q = ap (line_of p t) q

-- ---- a block, or the end of the blocks

module _ (h : LineHeader) (o : Option LineRecord) where
  pub end_nothing : o ≡ None → gave None ≡ end_held h o
  unfolding end_held
  end_nothing e = rw e

  module _ (r : LineRecord) (e : o ≡ Some r) where
    pub end_large : max_offset < h.offset + h.code → refused (told why.OffsetTooLarge) ≡ end_held h o
    unfolding end_held
    end_large g = simp (tests, e)

    pub end_close : h.offset + h.code ≤ max_offset → (k : LineRecord) → k ≡ closed_at h.section (h.offset + h.code) r → gave (Some k) ≡ end_held h o
    unfolding end_held
    end_close g k ek = ap (λ x. gave (Some x)) ek ∙ sym (simp (tests, e))

-- a is what the end of the body answers, and u the rest with it
module _ (p : Place) (t : Rest) where
  pub end_on : (o : Option LineRecord) (u : Rest) → gave o ≡ end_held p.head t.held → u ≡ with_held t o → pass (Between p.how u) ≡ end_of p t
  end_on o u e eu = ap (λ x. pass (Between p.how x)) eu ∙ ap (end_move p.how t) e

  pub end_refused : (e : Told) → refused e ≡ end_held p.head t.held → fail e ≡ end_of p t
  end_refused e q = ap (end_move p.how t) q

module _ (b : List ℕ) (p : Place) (c : Bool) (ec : c ≡ columned p.head.flags) where
  pub next_block_is : (a : Answer ℕ LineBlock Told) → a ≡ block_at c b p.next → block_place p a ≡ next_block b p
  next_block_is a e = ap (block_place p) (e ∙ ap (λ x. block_at x b p.next) ec)

  -- k is the block, x the place behind it, and j that of its columns
  pub next_block_in : (k : LineBlock) (x j : ℕ) → gives k x ≡ block_at c b p.next → j ≡ column_place c k.start k.count
      → gave (record { head = p.head; how = p.how; body = p.body; end = p.end; next = x; file = k.file; lines = k.count; line = k.start; column = j }) ≡ next_block b p
  next_block_in k x j e ej =
      let ej' = ej ∙ ap (λ d. column_place d k.start k.count) ec in
      ap (λ i. gave (record { head = p.head; how = p.how; body = p.body; end = p.end; next = x; file = k.file; lines = k.count; line = k.start; column = i })) ej'
      ∙ next_block_is (gives k x) e

-- q is a place in the block behind p: its lines and columns lie in the body, and less of that is left
pub record Opens (p q : Place) : Type 0 where
  pub head : q.head ≡ p.head
  pub body : q.body ≡ p.body
  pub end : q.end ≡ p.end
  pub next : q.next ≤ q.end
  pub lines : q.line + 8 * q.lines ≤ q.end
  pub columns : q.column + 4 * q.lines ≤ q.end
  pub less : q.end - q.next + 2 * q.lines < p.end - p.next

abbrev pub OpensIn : Place → Reply Place Told → Type 0
OpensIn p (gave q) = Opens p q
OpensIn p nothing = Unit {0}
OpensIn p (refused t) = Unit {0}

-- the columns of n lines at a end where its bytes do
bytes_columns : (c : Bool) (a n : ℕ) → column_place c a n + 4 * n ≤ a + line_bytes c n
bytes_columns true a n = omega arith
bytes_columns false a n = omega arith

module _ (s : List ℕ) (p : Place) (h : p.end ≤ length s) where
  pub next_block_lies : OpensIn p (next_block (take p.end s) p)
  next_block_lies = on (block_at c b p.next) refl
    where
      b : List ℕ
      b = take p.end s

      c : Bool
      c = columned p.head.flags

      on : (a : Answer ℕ LineBlock Told) → a ≡ block_at c b p.next → OpensIn p (block_place p a)
      on (gives k x) e =
          let m = length-take-le p.end s h in
          let w = block_in c b p.next k x e in
          record { head = refl; body = refl; end = refl; next = omega arith; lines = omega arith; columns = omega (arith, bytes_columns c k.start k.count); less = omega arith }
      on none e = tt
      on (refuses t) e = tt

  pub next_block_opens : (q : Place) → gave q ≡ next_block (take p.end s) p → Opens p q
  next_block_opens q e = subst⁻¹ (OpensIn p) e next_block_lies

pub block_is : (b : List ℕ) (p : Place) (t : Rest) (a : Reply Place Told) → a ≡ next_block b p → block_of p t a ≡ block_turn b p t
block_is b p t a e = ap (block_of p t) e

module _ (s : List ℕ) (p : Place) (t : Rest) where
  pub inside_past : length s < p.end → fail (told why.Cut) ≡ inside_turn s p t
  unfolding inside_turn
  inside_past h = simp tests

  pub inside_behind : p.end ≤ length s → p.end < p.body → fail (told why.Cut) ≡ inside_turn s p t
  unfolding inside_turn
  inside_behind h g = simp tests

  module _ (h₁ : p.end ≤ length s) (h₂ : p.body ≤ p.end) where
    pub inside_block : p.lines ≡ 0 → block_turn (take p.end s) p t ≡ inside_turn s p t
    unfolding inside_turn
    inside_block h = sym (simp tests)

    pub inside_line : (p.lines ≢ 0) → line_turn (take p.end s) p t ≡ inside_turn s p t
    unfolding inside_turn
    inside_line h = sym (simp tests)

-- ---- a subsection

module _ (how : EndLines) (s : List ℕ) (a n : ℕ) where
  pub enter_outside : length s < a + n → refused (told why.Cut) ≡ enter_place how s a n
  unfolding enter_place
  enter_outside h = simp tests

  module _ (h₁ : a + n ≤ length s) where
    -- the case that a walk comes to
    pub enter_lies : headed_place how s a n ≡ enter_place how s a n
    unfolding enter_place
    enter_lies = sym (simp tests)

    pub enter_short : n < line_head_size → refused (told why.Cut) ≡ enter_place how s a n
    unfolding headed_place
    enter_short h = sym (simp tests) ∙ enter_lies

    -- k is the length of the part that was lent, g its header, and q the place before its first block
    pub enter_in : line_head_size ≤ n → (k : ℕ) (g : LineHeader) (q : Place) → k ≡ n
        → told_header g ≡ line_head (bytes_at s (record { start = a; len = k })) → q ≡ place_at how g a (a + line_head_size) (a + n) → gave q ≡ enter_place how s a n
    unfolding headed_place
    enter_in h k g q ek eg eq =
        let e = eg ∙ ap (λ (j : ℕ). line_head (bytes_at s (record { start = a; len = j }))) ek in
        ap gave (eq ∙ ap (λ x. place_at how (untold_header x) a (a + line_head_size) (a + n)) e) ∙ sym (simp tests) ∙ enter_lies

-- a place in a body ends where the body does
abbrev EndsAt : ℕ → Reply Place Told → Type 0
EndsAt x (gave q) = q.end ≡ x
EndsAt x nothing = Unit {0}
EndsAt x (refused t) = Unit {0}

enter_ends_at : (how : EndLines) (s : List ℕ) (a n : ℕ) → EndsAt (a + n) (enter_place how s a n)
unfolding enter_place headed_place
enter_ends_at how s a n = by_cases (EndsAt (a + n)) (nat_lt (length s) (a + n)) (λ e. tt) (λ e. by_cases (EndsAt (a + n)) (nat_lt n line_head_size) (λ f. tt) (λ f. refl))

pub enter_ends : (how : EndLines) (s : List ℕ) (a n : ℕ) (q : Place) → gave q ≡ enter_place how s a n → q.end ≡ a + n
enter_ends how s a n q e = subst⁻¹ (EndsAt (a + n)) e (enter_ends_at how s a n)

-- what comes behind a body, as code reckons it
pub behind_in : (t : Rest) (x i l : ℕ) → i ≡ (t.slot + 1) % 2 ^ 64 → l ≡ t.left - 1 → record { slot = i; left = l; scan = x; held = t.held } ≡ behind_body t x
behind_in t x i l ei el = λ j. record { slot = ei j; left = el j; scan = x; held = t.held }

-- and where the slot's number fits
pub behind_is : (t : Rest) (x : ℕ) → t.slot + 1 < 2 ^ 64 → behind_body t x ≡ rest_at t x
behind_is t x h =
    let e : (t.slot + 1) % 2 ^ 64 ≡ t.slot + 1 = omega arith in
    ap (λ k. record { slot = k; left = t.left - 1; scan = x; held = t.held }) e

module _ (rule : ℕ → Sort) (s v : List ℕ) (how : EndLines) (t : Rest) where
  pub sub_is : (x : Reply Span Told) → x ≡ slot_at rule s v t.slot t.scan → named_of s how t x ≡ sub_turn rule s v how t
  sub_is x e = ap (named_of s how t) e

  -- the slot names the body of n bytes at a
  module _ (a n : ℕ) (h : length v < 2 ^ 64) (e : gave (record { start = a; len = n }) ≡ slot_at rule s v t.slot t.scan) where
    sub_lies : enter_move t (a + n) (enter_place how s a n) ≡ sub_turn rule s v how t
    sub_lies =
        let i = slot_inside rule s v t.slot t.scan (record { start = a; len = n }) e in
        ap (enter_move t (a + n)) (sym (enter_lies how s a n i.1)) ∙ sub_is (gave (record { start = a; len = n })) e

    -- q is the place in it, and u what comes behind it
    pub sub_entered : (q : Place) (u : Rest) → gave q ≡ enter_place how s a n → u ≡ behind_body t q.end → pass (Inside q u) ≡ sub_turn rule s v how t
    sub_entered q u f eu =
        let i = slot_inside rule s v t.slot t.scan (record { start = a; len = n }) e in
        ap (λ x. pass (Inside q x)) (eu ∙ ap (behind_body t) (enter_ends how s a n q f) ∙ behind_is t (a + n) (omega arith)) ∙ ap (enter_move t (a + n)) f ∙ sub_lies

    pub sub_cut : (x : Told) → refused x ≡ enter_place how s a n → fail x ≡ sub_turn rule s v how t
    sub_cut x f = ap (enter_move t (a + n)) f ∙ sub_lies

  -- ---- the whole turn

  pub between_end : t.left ≡ 0 → finish_of how t ≡ between_turn rule s v how t
  unfolding between_turn
  between_end h = sym (simp tests)

  pub between_sub : (t.left ≢ 0) → sub_turn rule s v how t ≡ between_turn rule s v how t
  unfolding between_turn
  between_sub h = sym (simp tests)

pub finish_one : (how : EndLines) (o : Option LineRecord) (t : Rest) (r : LineRecord) (u : Rest) → o ≡ Some r → u ≡ with_held t None → item r (Between how u) ≡ finish_in how o t
finish_one how o t r u e eu = rw e (ap (λ k. item r (Between how k)) eu)

module _ (rule : ℕ → Sort) (s v : List ℕ) (w : LineWalk) where
  pub turn_long : longest < length s → fail (told why.TooLong) ≡ turn_of rule s v w
  unfolding turn_of
  turn_long h = simp tests

  -- x is the state that w is
  pub turn_is : length s ≤ longest → (x : LineWalk) → w ≡ x → turn_in rule s v x ≡ turn_of rule s v w
  unfolding turn_of
  turn_is h x e = ap (turn_in rule s v) (sym e) ∙ sym (simp tests)
