-- Laws of the lines of a body: each line is a turn.
use Rattle.std.specs.Prelude.{ℕ, ◌+◌, ◌-◌, ◌*◌, ◌/◌, ◌≤◌, ◌<◌, ◌≡◌, refl, List, Bool, true, false, cond, zero, suc, length, take, drop, Option, None, Some}
use Rattle.std.proofs.Common.{sym, ap, ◌∙◌, subst, arith, add-zero, length-take-le}
use Rattle.word.specs.Word.{u32_at, store}
use Rattle.word.specs.WordLaws.{u32_drop, u32_take, put_length_lem}
use Rattle.walk.specs.Listing.{item, pass, gave, nothing}
use Rattle.refusal.specs.Told.{longest}
use Rattle.kinds.specs.Kind.{Sort}
use Rattle.body.specs.Lines.{columned}
use Rattle.line_record.specs.Flags.{is_marker}
use Rattle.line_record.specs.Record.{max_offset, column_if, record_of, entry_of, closed_at}
use Rattle.line_record.proofs.RecordLaws.{entry_marker, entry_line, close_before}
use Rattle.line_record.specs.declared.LineRecord.{LineRecord}
use Rattle.line_record.specs.declared.LineSource.{LineSource}
use Rattle.line_state_words.specs.LineWords.{record_size, record_words}
use Rattle.line_state_words.specs.LineWordsLaws.{record_length, record_is}
use Rattle.line_step.specs.Turn.{source_of, line_entry_at, with_held, lines_on, past_lines, hold_in, line_of, line_turn, next_block, block_turn, turn_of}
use Rattle.line_step.specs.TurnLaws.{entry_in_lem, past_lines_are, next_block_opens, block_is, inside_block, inside_line, turn_is}
use Rattle.line_step.specs.declared.Rest.{Rest}
use Rattle.line_step.specs.declared.Place.{Place}
use Rattle.line_step.specs.declared.LineWalk.TheVariants.{Inside}
use Rattle.body_lines.specs.declared.LineHeld.{LineHeld}
use Rattle.body_lines.specs.declared.InBody.{InBody}
use Rattle.body_lines.specs.Turns.{TurnsPut}
use Rattle.body_lines.specs.TurnsLaws.{turns_put_same, turns_put_pass, turns_put_record, turns_put_on}
use Rattle.body_lines.specs.BodyLines.{held_record, LinesFit, LinePut, inside_at, LinesPut, PutAs, HeldPut, FirstLine, count_markers, BlockPut, BodyPut}

-- ---- words of a part

-- the part of k bytes at `at`, of the length as code has it
pub part_word : (s : List ℕ) (at k i j : ℕ) → i + 4 ≤ k → at + i ≡ j → u32_at (take (at + k - at) (drop at s)) i ≡ u32_at s j
part_word s at k i j h e = u32_take (drop at s) (at + k - at) i (omega arith) ∙ u32_drop s at i ∙ ap (u32_at s) e

pub no_columns_lem : (c : Bool) (v w : ℕ) → c ≡ false → column_if c v ≡ column_if c w
no_columns_lem c v w e = rw e

pub columns_as : (c d : Bool) (v w : ℕ) → c ≡ d → column_if c v ≡ column_if c w → column_if d v ≡ column_if d w
columns_as c d v w e = subst (λ (x : Bool). column_if x v ≡ column_if x w) e

-- the words of a record r that an end closed, put as code has it
pub put_closed : (o o' : List ℕ) (at section end : ℕ) (r k x : LineRecord) → r ≡ x → k ≡ closed_at section end r → o' ≡ store o at (record_words k)
    → o' ≡ store o at (record_words (closed_at section end x))
put_closed o o' at section end r k x er ek eo = eo ∙ ap (λ d. store o at (record_words d)) (ek ∙ ap (closed_at section end) er)

-- the words of a record r of the section that an end before it does not close, put as code has it
pub put_before : (o o' : List ℕ) (at section end : ℕ) (r x : LineRecord) → x.section ≡ section → end < x.offset → r ≡ x → o' ≡ store o at (record_words r)
    → o' ≡ store o at (record_words (closed_at section end x))
put_before o o' at section end r x es l er eo = eo ∙ ap (λ d. store o at (record_words d)) (er ∙ close_before section end x es l)

-- a record as code makes it
pub record_held : (p : Place) (offset flags w : ℕ) (x : LineSource) (r : LineRecord) → x ≡ source_of p → r ≡ record_of x offset flags (column_if x.columns w) → r ≡ held_record p offset flags w
record_held p offset flags w x r ex er = er ∙ ap (λ y. record_of y offset flags (column_if y.columns w)) ex

-- ---- a line is a turn

module _ (rule : ℕ → Sort) (s v : List ℕ) (p : Place) (f : LinesFit s p) (i : ℕ) (l : i < p.lines) where
  body_length : length (take p.end s) ≡ p.end
  body_length = length-take-le p.end s f.end

  past_line : lines_on (lines_on p i) 1 ≡ lines_on p (i + 1)
  past_line =
      let a : p.lines - i - 1 ≡ p.lines - (i + 1) = omega arith in
      let b : p.line + 8 * i + 8 ≡ p.line + 8 * (i + 1) = omega arith in
      let c : p.column + 4 * i + 4 ≡ p.column + 4 * (i + 1) = omega arith in
      λ j. record { head = p.head; how = p.how; body = p.body; end = p.end; next = p.next; file = p.file; lines = a j; line = b j; column = c j }

  -- o and g are the line's words, and w its column word where it has one
  module _ (o g w : ℕ) (eo : o ≡ u32_at s (p.line + 8 * i)) (eg : g ≡ u32_at s (p.line + 8 * i + 4))
      (ew : column_if (columned p.head.flags) w ≡ column_if (columned p.head.flags) (u32_at s (p.column + 4 * i))) where
    entry_words : entry_of (source_of p) o g (column_if (source_of p).columns w) ≡ line_entry_at (take p.end s) (lines_on p i)
    entry_words =
        let b = take p.end s in
        let wo = sym (u32_take s p.end (p.line + 8 * i) (omega (arith, f.lines))) in
        let wg = sym (u32_take s p.end (p.line + 8 * i + 4) (omega (arith, f.lines))) in
        let ww = sym (u32_take s p.end (p.column + 4 * i) (omega (arith, f.columns))) in
        ap (entry_of (source_of p) o g) (ew ∙ ap (column_if (source_of p).columns) ww)
        ∙ entry_in_lem b (lines_on p i) (omega (arith, body_length, f.lines)) (omega (arith, body_length, f.columns)) (source_of p) o g (u32_at b (p.column + 4 * i)) refl (eo ∙ wo) (eg ∙ wg) refl

    line_turn_is : (t : Rest) → line_turn (take p.end s) (lines_on p i) t ≡ turn_of rule s v (Inside (lines_on p i) t)
    line_turn_is t =
        inside_line s (lines_on p i) t f.end f.body (λ z. omega arith) ∙ turn_is rule s v (Inside (lines_on p i) t) f.short (Inside (lines_on p i) t) refl

    pub turn_marker : is_marker g ≡ true → (t : Rest) → pass (Inside (lines_on p (i + 1)) t) ≡ turn_of rule s v (Inside (lines_on p i) t)
    turn_marker m t =
        ap (λ q. pass (Inside q t)) (sym past_line)
        ∙ ap (line_of (lines_on p i) t) (entry_marker _ _ _ _ m ∙ entry_words)
        ∙ line_turn_is t

    turn_line : is_marker g ≡ false → p.head.offset + o ≤ max_offset → (t : Rest) (h : Option LineRecord)
        → hold_in h (held_record p (p.head.offset + o) g w) (Inside (lines_on p (i + 1)) (with_held t (Some (held_record p (p.head.offset + o) g w))))
        ≡ turn_of rule s v (Inside (lines_on p i) (with_held t h))
    turn_line m k t h =
        ap (λ q. hold_in h (held_record p (p.head.offset + o) g w) (Inside q (with_held t (Some (held_record p (p.head.offset + o) g w))))) (sym past_line)
        ∙ ap (line_of (lines_on p i) (with_held t h)) (entry_line _ _ _ _ m k ∙ entry_words)
        ∙ line_turn_is (with_held t h)

    pub turn_first : is_marker g ≡ false → p.head.offset + o ≤ max_offset → (t : Rest)
        → pass (Inside (lines_on p (i + 1)) (with_held t (Some (held_record p (p.head.offset + o) g w)))) ≡ turn_of rule s v (Inside (lines_on p i) (with_held t None))
    turn_first m k t = turn_line m k t None

    pub turn_next : is_marker g ≡ false → p.head.offset + o ≤ max_offset → (t : Rest) (r : LineRecord)
        → item (closed_at p.head.section (p.head.offset + o) r) (Inside (lines_on p (i + 1)) (with_held t (Some (held_record p (p.head.offset + o) g w))))
        ≡ turn_of rule s v (Inside (lines_on p i) (with_held t (Some r)))
    turn_next m k t r = turn_line m k t (Some r)

-- a record put where it fits leaves as many words
pub stored_length : (o : List ℕ) (at : ℕ) (r : LineRecord) (o' : List ℕ) → o' ≡ store o at (record_words r) → at + record_size ≤ length o → length o' ≡ length o
stored_length o at r o' e h = ap length (record_is o o' at r e h) ∙ put_length_lem o at (record_words r) (omega (arith, record_length r))

-- ---- the loop

module _ (rule : ℕ → Sort) (s : List ℕ) (p : Place) (room : ℕ) (x : LineHeld) (o : List ℕ) where
  pub lines_put_start : x.n ≤ room → x.done ≤ p.lines → LinesPut rule s p room x o x o
  lines_put_start h l = record { most = h; on = omega arith; inside = l; size = refl; turns = λ v t. turns_put_same rule s v room }

  module _ (f : LinesFit s p) (y : LineHeld) (o' : List ℕ) (h : LinesPut rule s p room x o y o') (less : y.n < room) (l : y.done < p.lines) where
    pub lines_put_marker : (g : ℕ) → g ≡ u32_at s (p.line + 8 * y.done + 4) → is_marker g ≡ true
        → LinesPut rule s p room x o (record { n = y.n; done = y.done + 1; offset = y.offset; flags = y.flags; word = y.word }) o'
    lines_put_marker g eg m = record {
      most = h.most;
      on = omega (arith, h.on);
      inside = omega arith;
      size = h.size;
      turns = λ v t. turns_put_on rule s v room (h.turns v t)
          (turns_put_pass rule s v room less (Inside (lines_on p (y.done + 1)) (with_held t (Some (held_record p y.offset y.flags y.word))))
          (turn_marker rule s v p f y.done l (u32_at s (p.line + 8 * y.done)) g (u32_at s (p.column + 4 * y.done)) refl eg refl m (with_held t (Some (held_record p y.offset y.flags y.word)))));
    }

    pub lines_put_line : (a g : ℕ) (z : LineHeld) (o'' : List ℕ) → a ≡ u32_at s (p.line + 8 * y.done) → g ≡ u32_at s (p.line + 8 * y.done + 4) → is_marker g ≡ false
        → p.head.offset + a ≤ max_offset → record_size * room ≤ length o → LinePut s p y a g o' z o'' → LinesPut rule s p room x o z o''
    lines_put_line a g z o'' ea eg m k fits d =
        let r = held_record p y.offset y.flags y.word in
        let c = closed_at p.head.section (p.head.offset + a) r in
        record {
          most = omega (arith, d.n);
          on = omega (arith, d.done, h.on);
          inside = omega (arith, d.done);
          size = stored_length o' (record_size * y.n) c o'' d.words (omega (arith, h.size)) ∙ h.size;
          turns = λ v t. turns_put_on rule s v room (h.turns v t)
              (rw (d.n, d.done, d.offset, d.flags) (turns_put_record rule s v room less c (Inside (lines_on p (y.done + 1)) (with_held t (Some (held_record p (p.head.offset + a) g z.word)))) o''
              (turn_next rule s v p f y.done l a g z.word ea eg d.word m k t r) d.words));
        }

-- ---- the first line of a block

module _ (h : Option LineRecord) (section end n : ℕ) (o : List ℕ) where
  pub held_none : h ≡ None → HeldPut h section end n o n o
  held_none e = record { words = rw e (refl, refl) }

  pub held_some : (q k : LineRecord) (o' : List ℕ) → h ≡ Some q → k ≡ closed_at section end q → o' ≡ store o (record_size * n) (record_words k) → HeldPut h section end n o (n + 1) o'
  held_some q k o' e ek eo = record { words = rw e (refl, eo ∙ ap (λ x. store o (record_size * n) (record_words x)) ek) }

module _ (section end n m : ℕ) (o o₁ : List ℕ) where
  most_put : (h : Option LineRecord) → PutAs h section end n o m o₁ → (room : ℕ) → n < room → m ≤ room
  most_put None q room l = omega (arith, q.0)
  most_put (Some r) q room l = omega (arith, q.0)

  size_put : (h : Option LineRecord) → PutAs h section end n o m o₁ → record_size * n + record_size ≤ length o → length o₁ ≡ length o
  size_put None q l = ap length q.1
  size_put (Some r) q l = stored_length o (record_size * n) (closed_at section end r) o₁ q.1 l

  pub held_most : (h : Option LineRecord) → HeldPut h section end n o m o₁ → (room : ℕ) → n < room → m ≤ room
  held_most h put = most_put h put.words

  pub held_size : (h : Option LineRecord) → HeldPut h section end n o m o₁ → record_size * n + record_size ≤ length o → length o₁ ≡ length o
  held_size h put = size_put h put.words

pub false_not : {A : Type 0} → false ≡ true → A
false_not e = let z : ◌≡◌ {A = ℕ} 0 1 = cc in absurd (omega arith)

-- the tests as code makes them
pub lines_fit_from : (s : List ℕ) (p : Place) → length s ≤ longest → p.end ≤ length s → p.body ≤ p.end → p.line ≤ p.end → p.lines ≤ (p.end - p.line) / 8 → p.column ≤ p.end
    → p.lines ≤ (p.end - p.column) / 4 → LinesFit s p
lines_fit_from s p a b k c d e f = record { short = a; end = b; body = k; lines = omega arith; columns = omega arith }

-- what is asked of a walk that turns on, where it does not
pub not_false : {A : Type 0} → true ≡ false → A
not_false e = let z : ◌≡◌ {A = ℕ} 0 1 = cc in absurd (omega arith)

-- no lines on
at_none : (p : Place) → lines_on p 0 ≡ p
at_none p =
    let a : p.lines - 0 ≡ p.lines = omega arith in
    let b : p.line + 8 * 0 ≡ p.line = omega arith in
    let c : p.column + 4 * 0 ≡ p.column = omega arith in
    λ j. record { head = p.head; how = p.how; body = p.body; end = p.end; next = p.next; file = p.file; lines = a j; line = b j; column = c j }

lines_fit_on : (s : List ℕ) (p : Place) → LinesFit s p → (i : ℕ) → i ≤ p.lines → LinesFit s (lines_on p i)
lines_fit_on s p f i h =
    record { short = f.short; end = f.end; body = f.body; lines = omega (arith, f.lines); columns = omega (arith, f.columns) }

-- i lines on, as code has it
past_fit : (s : List ℕ) (p : Place) → LinesFit s p → (i : ℕ) → i ≤ p.lines → (q : Place) → q ≡ past_lines p i → q ≡ lines_on p i
past_fit s p f i h = past_lines_are p i (omega (arith, f.short, f.end, f.lines)) (omega (arith, f.short, f.end, f.columns))

-- ---- markers, one behind the other

module _ (s : List ℕ) where
  pub markers_most : (k a : ℕ) → count_markers s a k ≤ k
  unfolding count_markers
  markers_most zero a = omega arith
  markers_most (suc k) a = on (is_marker (u32_at s (a + 4))) (markers_most k (a + 8))
    where
      on : (b : Bool) → count_markers s (a + 8) k ≤ k → cond b (1 + count_markers s (a + 8) k) 0 ≤ suc k
      on true l = omega (arith, l)
      on false l = omega arith

  -- of k lines at a those from line i on; g are the flags of line i
  module _ (a k i g : ℕ) (l : i < k) (e : g ≡ u32_at s (a + 8 * i + 4)) where
    markers_from : count_markers s (a + 8 * i) (k - i) ≡ cond (is_marker g) (1 + count_markers s (a + 8 * (i + 1)) (k - (i + 1))) 0
    unfolding count_markers
    markers_from =
        let n : k - i ≡ suc (k - (i + 1)) = omega arith in
        let b : a + 8 * (i + 1) ≡ a + 8 * i + 8 = omega arith in
        rw (n, b, e) refl

    pub markers_on : is_marker g ≡ true → i + 1 + count_markers s (a + 8 * (i + 1)) (k - (i + 1)) ≡ i + count_markers s (a + 8 * i) (k - i)
    markers_on m = omega (arith, rw m at markers_from)

    pub markers_stop : is_marker g ≡ false → i ≡ i + count_markers s (a + 8 * i) (k - i)
    markers_stop m = omega (arith, rw m at markers_from)

  pub markers_some : (a k g : ℕ) → 0 < k → g ≡ u32_at s (a + 4) → is_marker g ≡ true → 1 ≤ count_markers s a k
  unfolding count_markers
  markers_some a (suc k) g l e m = rw (sym e, m) (omega arith)
  markers_some a zero g l e m = absurd (omega arith)

-- each is a turn
module _ (rule : ℕ → Sort) (s v : List ℕ) (room : ℕ) (p : Place) (f : LinesFit s p) (n : ℕ) (o : List ℕ) (less : n < room) (t : Rest) where
  abbrev Passed : Place → Place → Type 0
  Passed a b = TurnsPut rule s v room n (Inside a t) o n (Inside b t) o

  -- from line i on, of those that are left
  turns_markers : (k i left : ℕ) → i + left ≡ p.lines → k ≤ count_markers s (p.line + 8 * i) left → Passed (lines_on p i) (lines_on p (i + k))
  unfolding count_markers
  turns_markers zero i left e h = rw (add-zero i) (turns_put_same rule s v room)
  turns_markers (suc k) i zero e h = absurd (omega (arith, h))
  turns_markers (suc k) i (suc left) e h =
      let a : p.line + 8 * i + 8 ≡ p.line + 8 * (i + 1) = omega arith in
      let b = ap (λ (x : ℕ). count_markers s x left) a in
      let c : i + 1 + k ≡ i + suc k = omega arith in
      on (is_marker (u32_at s (p.line + 8 * i + 4))) refl h
      (λ l. subst (λ (x : ℕ). Passed (lines_on p (i + 1)) (lines_on p x)) c (turns_markers k (i + 1) left (omega arith) (omega (arith, l, b))))
    where
      on : (b : Bool) → is_marker (u32_at s (p.line + 8 * i + 4)) ≡ b → suc k ≤ cond b (1 + count_markers s (p.line + 8 * i + 8) left) 0
          → (k ≤ count_markers s (p.line + 8 * i + 8) left → Passed (lines_on p (i + 1)) (lines_on p (i + suc k))) → Passed (lines_on p i) (lines_on p (i + suc k))
      on true m h go =
          turns_put_on rule s v room
          (turns_put_pass rule s v room less (Inside (lines_on p (i + 1)) t)
          (turn_marker rule s v p f i (omega arith) (u32_at s (p.line + 8 * i)) (u32_at s (p.line + 8 * i + 4)) (u32_at s (p.column + 4 * i)) refl refl refl m t))
          (go (omega (arith, h)))
      on false m h go = absurd (omega (arith, h))

  first_markers : (k : ℕ) → k ≤ count_markers s p.line p.lines → Passed p (lines_on p k)
  first_markers k h =
      let a : p.line ≡ p.line + 8 * 0 = omega arith in
      let c : 0 + k ≡ k = omega arith in
      subst (λ (x : Place). Passed x (lines_on p k)) (at_none p)
      (subst (λ (x : ℕ). Passed (lines_on p 0) (lines_on p x)) c
      (turns_markers k 0 p.lines (omega arith) (omega (arith, h, ap (λ (x : ℕ). count_markers s x p.lines) a))))

module _ (rule : ℕ → Sort) (s : List ℕ) (room : ℕ) (p : Place) (held : Option LineRecord) (n : ℕ) (o : List ℕ) (f : LinesFit s p) (less : n < room) where
  -- it stays
  pub block_put_same : (stuck : Bool) → BlockPut rule s room p held n o (record { n = n; place = p; held = held; stuck = stuck }) o
  block_put_same stuck =
      record { most = omega arith; size = refl; fit = f; head = refl; end = refl; next = refl; turns = λ v t. turns_put_same rule s v room }

  -- it passes markers
  pub block_put_markers : (k : ℕ) (q : Place) → k ≤ count_markers s p.line p.lines → q ≡ past_lines p k
      → BlockPut rule s room p held n o (record { n = n; place = q; held = held; stuck = false }) o
  block_put_markers k q h eq =
      let l : k ≤ p.lines = omega (arith, h, markers_most s p.lines p.line) in
      rw (past_fit s p f k l q eq) (record {
        most = omega arith;
        size = refl;
        fit = lines_fit_on s p f k l;
        head = refl;
        end = refl;
        next = refl;
        turns = λ v t. first_markers rule s v room p f n o less (with_held t held) k h;
      })

  module _ (l : 1 ≤ p.lines) where
    -- w is the column word of the line, and m the number of the records with the one that it closed
    module _ (a g w m : ℕ) (o₁ : List ℕ) (d : FirstLine s p a g)
        (ew : column_if (columned p.head.flags) w ≡ column_if (columned p.head.flags) (u32_at s p.column)) (fits : record_size * room ≤ length o)
        (put : HeldPut held p.head.section (p.head.offset + a) n o m o₁) where
      abbrev first : LineHeld
      first = record { n = m; done = 1; offset = p.head.offset + a; flags = g; word = w }

      first_turns : (v : List ℕ) (t : Rest) (h : Option LineRecord) → PutAs h p.head.section (p.head.offset + a) n o m o₁
          → TurnsPut rule s v room n (Inside p (with_held t h)) o m (inside_at p t first) o₁
      first_turns v t h q =
          let e₀ : p.line ≡ p.line + 8 * 0 = omega arith in
          let e₁ : p.column ≡ p.column + 4 * 0 = omega arith in
          let ea : a ≡ u32_at s (p.line + 8 * 0) = d.offset ∙ ap (u32_at s) e₀ in
          let eg : g ≡ u32_at s (p.line + 8 * 0 + 4) = d.flags ∙ ap (λ (x : ℕ). u32_at s (x + 4)) e₀ in
          let ec = ew ∙ ap (λ (x : ℕ). column_if (columned p.head.flags) (u32_at s x)) e₁ in
          let l₀ : 0 < p.lines = omega arith in
          go h q
          (λ x. turn_first rule s v p f 0 l₀ a g w ea eg ec d.line d.sum x ∙ ap (λ y. turn_of rule s v (Inside y (with_held x None))) (at_none p))
          (λ r x. turn_next rule s v p f 0 l₀ a g w ea eg ec d.line d.sum x r ∙ ap (λ y. turn_of rule s v (Inside y (with_held x (Some r)))) (at_none p))
        where
          go : (h : Option LineRecord) → PutAs h p.head.section (p.head.offset + a) n o m o₁
              → ((x : Rest) → pass (Inside (lines_on p 1) (with_held x (Some (held_record p (p.head.offset + a) g w)))) ≡ turn_of rule s v (Inside p (with_held x None)))
              → ((r : LineRecord) (x : Rest) → item (closed_at p.head.section (p.head.offset + a) r) (Inside (lines_on p 1) (with_held x (Some (held_record p (p.head.offset + a) g w)))) ≡ turn_of rule s v (Inside p (with_held x (Some r))))
              → TurnsPut rule s v room n (Inside p (with_held t h)) o m (inside_at p t first) o₁
          go None q one two = rw (q.0, q.1) (turns_put_pass rule s v room less (inside_at p t first) (one t))
          go (Some r) q one two =
              rw q.0 (turns_put_record rule s v room less (closed_at p.head.section (p.head.offset + a) r) (inside_at p t first) o₁ (two r t) q.1)

      pub block_put_first : (x : LineHeld) (o₂ : List ℕ) (q : Place) (r : LineRecord) (stuck : Bool) → LinesPut rule s p room first o₁ x o₂ → q ≡ past_lines p x.done
          → r ≡ held_record p x.offset x.flags x.word → BlockPut rule s room p held n o (record { n = x.n; place = q; held = Some r; stuck = stuck }) o₂
      block_put_first x o₂ q r stuck k eq er =
          rw (past_fit s p f x.done k.inside q eq, er) (record {
            most = k.most;
            size = k.size ∙ held_size p.head.section (p.head.offset + a) n m o o₁ held put (omega arith);
            fit = lines_fit_on s p f x.done k.inside;
            head = refl;
            end = refl;
            next = refl;
            turns = λ v t. turns_put_on rule s v room (first_turns v t held put.words) (k.turns v t);
          })

-- ---- block after block: what the loop keeps

-- x stands in the body of p, with room for another record
pub record BlocksPut (rule : ℕ → Sort) (s : List ℕ) (room : ℕ) (p : Place) (held : Option LineRecord) (n : ℕ) (o : List ℕ) (x : InBody) (o' : List ℕ) : Type 0 where
  pub fit : LinesFit s x.place
  pub less : x.n < room
  pub size : length o' ≡ length o
  pub head : x.place.head ≡ p.head
  pub end : x.place.end ≡ p.end
  pub turns : (v : List ℕ) (t : Rest) → TurnsPut rule s v room n (Inside p (with_held t held)) o x.n (Inside x.place (with_held t x.held)) o'

module _ (rule : ℕ → Sort) (s : List ℕ) (room : ℕ) (p : Place) (held : Option LineRecord) (n : ℕ) (o : List ℕ) where
  pub blocks_put_start : LinesFit s p → n < room → (stuck : Bool) → BlocksPut rule s room p held n o (record { n = n; place = p; held = held; stuck = stuck }) o
  blocks_put_start f l stuck = record { fit = f; less = l; size = refl; head = refl; end = refl; turns = λ v t. turns_put_same rule s v room }

  module _ (x : InBody) (o' : List ℕ) (h : BlocksPut rule s room p held n o x o') where
    block_turn_is : x.place.lines ≡ 0 → (v : List ℕ) (t : Rest) → block_turn (take x.place.end s) x.place t ≡ turn_of rule s v (Inside x.place t)
    block_turn_is z v t =
        inside_block s x.place t h.fit.end h.fit.body z ∙ turn_is rule s v (Inside x.place t) h.fit.short (Inside x.place t) refl

    pub blocks_put_block : x.place.lines ≡ 0 → (q : Place) (stuck : Bool) → gave q ≡ next_block (take x.place.end s) x.place
        → BlocksPut rule s room p held n o (record { n = x.n; place = q; held = x.held; stuck = stuck }) o'
    blocks_put_block z q stuck e =
        let k = next_block_opens s x.place h.fit.end q e in
        record {
          fit = record { short = h.fit.short; end = omega (arith, k.end, h.fit.end); body = omega (arith, k.body, k.end, h.fit.body); lines = k.lines; columns = k.columns };
          less = h.less;
          size = h.size;
          head = k.head ∙ h.head;
          end = k.end ∙ h.end;
          turns = λ v t. turns_put_on rule s v room (h.turns v t) (turns_put_pass rule s v room h.less (Inside q (with_held t x.held))
              (block_is (take x.place.end s) x.place (with_held t x.held) (gave q) e ∙ block_turn_is z v (with_held t x.held)));
        }

    pub blocks_put_lines : (y : InBody) (o'' : List ℕ) → BlockPut rule s room x.place x.held x.n o' y o'' → y.n < room → BlocksPut rule s room p held n o y o''
    blocks_put_lines y o'' k l = record {
      fit = k.fit;
      less = l;
      size = k.size ∙ h.size;
      head = k.head ∙ h.head;
      end = k.end ∙ h.end;
      turns = λ v t. turns_put_on rule s v room (h.turns v t) (k.turns v t);
    }

    -- ---- how it ends

    pub body_put_stuck : (y : InBody) (o'' : List ℕ) → BlockPut rule s room x.place x.held x.n o' y o'' → y.stuck ≡ true → BodyPut rule s room p held n o y o''
    body_put_stuck y o'' k e = record {
      size = k.size ∙ h.size;
      head = k.head ∙ h.head;
      end = k.end ∙ h.end;
      turns = λ v t. turns_put_on rule s v room (h.turns v t) (k.turns v t);
      used = λ z. not_false (sym e ∙ z);
    }

    pub body_put_refused : BodyPut rule s room p held n o (record { n = x.n; place = x.place; held = x.held; stuck = true }) o'
    body_put_refused = record { size = h.size; head = h.head; end = h.end; turns = h.turns; used = not_false }

    pub body_put_used : x.place.lines ≡ 0 → nothing ≡ next_block (take x.place.end s) x.place
        → BodyPut rule s room p held n o (record { n = x.n; place = x.place; held = x.held; stuck = false }) o'
    body_put_used z e = record {
      size = h.size;
      head = h.head;
      end = h.end;
      turns = h.turns;
      used = λ q. (record { fit = h.fit; lines = z; over = e }, h.less);
    }

  pub body_put_same : BodyPut rule s room p held n o (record { n = n; place = p; held = held; stuck = true }) o
  body_put_same = record { size = refl; head = refl; end = refl; turns = λ v t. turns_put_same rule s v room; used = not_false }
