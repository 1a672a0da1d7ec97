-- The walk is its meaning: n steps from a new walk on answer the records of `records_of` in order, by the reading of end lines that the new walk names, and
-- then its end again and again.
use Prim.Native.Nat.{ℕ, zero, suc, ◌+◌, ◌-◌, ◌*◌, ◌%◌, ◌^◌, ◌<◌, ◌≤◌}
use Rattle.std.specs.Prelude.{◌≡◌, List, [], ◌∷◌, Bool, cond, drop, ltb, eqb, Option, None, Some}
use Rattle.std.proofs.Math.Path.{refl, sym, ap, subst⁻¹}
use Rattle.std.proofs.Common.{◌∙◌, add-zero, drop-drop}
use Rattle.std.proofs.Math.Bool.{true, false}
use native.Mathlib.Omega.{arith}
use Rattle.std.proofs.Math.ListN.{length, take, length-drop}
use Rattle.std.proofs.Math.Seq.{length-take-le, take-nil}
use borrow.Author.Tests.{ltb-true, ltb-false, eqb-true, eqb-false}
use Rattle.word.specs.Word.{u32_at}
use Rattle.word.specs.WordLaws.{u32_drop}
use Rattle.walk.specs.Cases.{by_cases}
use Rattle.walk.specs.Listing.{more, ends, fails, on_move, all, Answer, gives, none, refuses, moved, Reply, gave, nothing, refused, calls, replies}
use Rattle.walk.specs.ListingLaws.{To, calls_are}
use Rattle.walk.specs.First.{first}
use Rattle.walk.specs.FirstLaws.{all_first, all_kept, first_less, first_kept}
use Rattle.walk.specs.Pick.{map_reply}
use Rattle.walk.specs.PickLaws.{Gives}
use Rattle.refusal.specs.Told.{Told, told, longest}
use Rattle.refusal.specs.declared.Refusal.TheVariants as why
use Rattle.kinds.specs.Kind.{Sort}
use Rattle.body.specs.Words.{words_in}
use Rattle.body.specs.Lines.{LineHead, line_head, columned, columns_of, blocks}
use Rattle.find.specs.Find.{same, Span, bytes_at}
use Rattle.line_record.specs.Record.{max_offset, column_if, head_source, entry_of, closed_at}
use Rattle.line_record.specs.declared.EndLines.{EndLines}
use Rattle.line_record.specs.declared.LineRecord.{LineRecord}
use Rattle.line_record.specs.declared.LineSource.{LineSource}
use Rattle.lines.specs.declared.LineHeader.{LineHeader}
use Rattle.lines.specs.Told.{told_header}
use Rattle.lines.specs.Lines.{count_lines, body_on}
use Rattle.lines.specs.Blocks.{LineBlock, block_at}
use Rattle.lines.specs.BlocksLaws.{blocks_on, blocks_step}
use Rattle.lines.specs.Slots.{body_at, name_then, named, slot_at, list_in, Scans}
use Rattle.lines.specs.SlotsLaws.{scans_start, SlotIn, slot_lies, slot_scanned, named_slot}
use Rattle.lines.specs.LinesLaws.{count_long, counted_short}
use Rattle.line_step.specs.declared.Rest.{Rest}
use Rattle.line_step.specs.declared.Place.{Place}
use Rattle.line_step.specs.declared.LineWalk.{LineWalk}
use Rattle.line_step.specs.declared.LineWalk.TheVariants.{New, Between, Inside}
use Rattle.line_step.specs.Turn.{LineMove, source_of, entry_in, line_entry_at, with_held, lines_on, hold_in, line_of, column_place, block_place, next_block, end_held, end_move, block_of, inside_turn, body_place, headed_place, rest_at, enter_move, enter_at, named_of, finish_in, between_turn, open_of, turn_in, turn_of}
use Rattle.line_step.specs.TurnLaws.{entry_inside, OpensIn, next_block_lies}
use Rattle.line_walk.specs.Meaning.{line, done, Events, entry_then, lines_then, blocks_then, body_then, events_of, Records, settle_one, settle, records_of}
use Rattle.line_walk.specs.Next.{todo, next_of}
use Rattle.line_walk.proofs.NextLaws.{falls}

-- ---- words at places

words_one : (n : ℕ) (s : List ℕ) (p : ℕ) → words_in (suc n) (drop p s) ≡ u32_at s p ∷ words_in n (drop (p + 4) s)
unfolding words_in
words_one n s p = simp (u32_drop, drop-drop, add-zero)

words_two : (n : ℕ) (s : List ℕ) (p : ℕ) → words_in (2 * suc n) (drop p s) ≡ u32_at s p ∷ u32_at s (p + 4) ∷ words_in (2 * n) (drop (p + 8) s)
words_two n s p =
    let e : 2 * suc n ≡ suc (suc (2 * n)) = omega arith in
    let f : p + 4 + 4 ≡ p + 8 = omega arith in
    ap (λ k. words_in k (drop p s)) e ∙ words_one (suc (2 * n)) s p ∙ ap (λ l. u32_at s p ∷ l) (words_one (2 * n) s (p + 4))
    ∙ ap (λ k. u32_at s p ∷ u32_at s (p + 4) ∷ words_in (2 * n) (drop k s)) f

-- the first of n + 1 lines at a, their columns at k
lines_at : (source : LineSource) (c : Bool) (n : ℕ) (b : List ℕ) (a k : ℕ) (l : Events)
    → lines_then source (words_in (2 * suc n) (drop a b)) (words_in (columns_of c (suc n)) (drop k b)) l
    ≡ entry_then (entry_of source (u32_at b a) (u32_at b (a + 4)) (column_if c (u32_at b k)))
    (lines_then source (words_in (2 * n) (drop (a + 8) b)) (words_in (columns_of c n) (drop (k + 4) b)) l)
unfolding lines_then words_in entry_of
lines_at source true n b a k l = λ i. lines_then source (words_two n b a i) (words_one n b k i) l
lines_at source false n b a k l = λ i. lines_then source (words_two n b a i) [] l

-- where the columns of n lines at a begin
columns_at_lem : (c : Bool) (b : List ℕ) (a n : ℕ) → words_in (columns_of c n) (drop (a + 8 * n) b) ≡ words_in (columns_of c n) (drop (column_place c a n) b)
unfolding words_in
columns_at_lem true b a n = refl
columns_at_lem false b a n = refl

-- a part that starts at a is what is behind a in the bytes up to its end
take_behind : (a n : ℕ) (s : List ℕ) → take n (drop a s) ≡ drop a (take (a + n) s)
take_behind zero n s = let e : n ≡ 0 + n = omega arith in ap (λ k. take k s) e
take_behind (suc a) n [] = take-nil n ∙ sym (ap (drop (suc a)) (take-nil (suc a + n)))
take_behind (suc a) n (x ∷ s) =
    let e : suc (a + n) ≡ suc a + n = omega arith in
    take_behind a n s ∙ ap (λ k. drop (suc a) (take k (x ∷ s))) e

-- ---- the records that a walk has still to give

-- the records of the events l behind a record that may be held
abbrev pub held_then : Option LineRecord → Events → Records
held_then None l = settle l
held_then (Some o) l = settle_one o l

held_fails : (o : Option LineRecord) (t : Told) → held_then o (fails t) ≡ fails t
unfolding settle settle_one
held_fails None t = refl
held_fails (Some o) t = refl

abbrev head_of : Place → LineHead
head_of p = told_header p.head

-- where its body starts, as `source_of` has it
abbrev start_on : Place → ℕ
start_on p = p.body % 2 ^ 32

abbrev columns_on : Place → Bool
columns_on p = columned p.head.flags

-- of the present block, and of those behind it, in the bytes b; and then l
abbrev pub lines_left : List ℕ → Place → Events → Events
lines_left b p l =
    lines_then (source_of p) (words_in (2 * p.lines) (drop p.line b)) (words_in (columns_of (columns_on p) p.lines) (drop p.column b)) l

abbrev pub blocks_left : List ℕ → Place → Events → Events
blocks_left b p l = blocks_then p.how (start_on p) (head_of p) (blocks (columns_on p) (drop p.next b)) l

module _ (rule : ℕ → Sort) (s v : List ℕ) where
  -- of the subsections that are to come
  abbrev later : EndLines → Rest → Events
  later how t = events_of how (named (body_at rule s) t.left (drop t.slot v))

  abbrev pub records_at : LineWalk → Records
  records_at (New how) = records_of how rule s v
  records_at (Between how t) = held_then t.held (later how t)
  records_at (Inside p t) = held_then t.held (lines_left (take p.end s) p (blocks_left (take p.end s) p (later p.how t)))

  -- what is true of each walk that a new one comes to
  abbrev pub Walked : LineWalk → Type 0
  Walked (New how) = Unit {0}
  Walked (Between how t) = (length s ≤ longest) × Scans rule s t.scan
  Walked (Inside p t) =
      (length s ≤ longest) × Scans rule s t.scan × (p.end ≤ length s) × (p.next ≤ p.end)
      × (p.line + 8 * p.lines ≤ p.end) × (p.column + 4 * p.lines ≤ p.end) × (p.body ≤ p.end)

  -- ---- a turn leaves the records as they are

  abbrev Right : Records → LineMove → Type 0
  Right l u = l ≡ on_move records_at u

  open_right : (how : EndLines) (k : Reply ℕ Told) → Right (settle (events_of how (list_in rule s v k))) (open_of how k)
  unfolding events_of settle
  open_right how (gave n) = refl
  open_right how nothing = refl
  open_right how (refused t) = refl

  finish_right : (how : EndLines) (t : Rest) (o : Option LineRecord) → t.left ≡ 0 → Right (held_then o (later how t)) (finish_in how o t)
  unfolding settle settle_one events_of named
  finish_right how t None e = ap (λ n. settle (events_of how (named (body_at rule s) n (drop t.slot v)))) e
  finish_right how t (Some r) e =
      ap (λ n. settle_one r (events_of how (named (body_at rule s) n (drop t.slot v)))) e
      ∙ ap (more r) (sym (ap (λ n. settle (events_of how (named (body_at rule s) n (drop t.slot v)))) e))

  -- a body is the same in its own bytes and in those of the area up to its end
  body_blocks : (how : EndLines) (a : Span) (h : LineHead) (l : Events) → a.start ≤ longest
      → blocks_then how a.start h (blocks (columned h.flags) (drop 12 (bytes_at s a))) l
      ≡ blocks_then how (a.start % 2 ^ 32) h (blocks (columned h.flags) (drop (a.start + 12) (take (a.start + a.len) s))) l
  body_blocks how a h l g =
      let start : a.start ≡ a.start % 2 ^ 32 = omega arith in
      let bytes = ap (drop 12) (take_behind a.start a.len s) ∙ drop-drop 12 a.start (take (a.start + a.len) s) in
      λ i. blocks_then how (start i) h (blocks (columned h.flags) (bytes i)) l

  enter_right : (how : EndLines) (t : Rest) (a : Span) → length s ≤ longest → a.start + a.len ≤ length s
      → Right (held_then t.held (body_then how (body_on s a) (later how (rest_at t (a.start + a.len))))) (enter_at s how t a.start a.len)
  unfolding body_then headed_place lines_then words_in
  enter_right how t a m g =
      let n : length (bytes_at s a) ≡ a.len = length-take-le a.len (drop a.start s) (simp length-drop (omega arith)) in
      ap (λ k. held_then t.held (cond (ltb k 12) (fails (told why.Cut)) (blocks_then how a.start h (blocks (columned h.flags) (drop 12 (bytes_at s a))) l))) n
      ∙ both (ltb a.len 12)
    where
      h : LineHead
      h = line_head (bytes_at s a)

      l : Events
      l = later how (rest_at t (a.start + a.len))

      both : (c : Bool) → Right
          (held_then t.held (cond c (fails (told why.Cut)) (blocks_then how a.start h (blocks (columned h.flags) (drop 12 (bytes_at s a))) l)))
          (enter_move t (a.start + a.len) (cond c (refused (told why.Cut)) (gave (body_place how s a.start a.len))))
      both true = held_fails t.held (told why.Cut)
      both false = ap (held_then t.held) (body_blocks how a h l (omega arith))

  named_right : (how : EndLines) (t : Rest) (o : Reply Span Told) → length s ≤ longest → Gives (SlotIn rule s v t.slot t.scan) o
      → Right (held_then t.held (events_of how (name_then (map_reply (body_on s) same o) (named (body_at rule s) (t.left - 1) (drop (t.slot + 1) v))))) (named_of s how t o)
  unfolding events_of
  named_right how t (gave a) m g = enter_right how t a m g.1
  named_right how t nothing m g = held_fails t.held (told why.WrongSlot)
  named_right how t (refused e) m g = held_fails t.held e

  between_right : (how : EndLines) (t : Rest) → length s ≤ longest → Scans rule s t.scan → Right (held_then t.held (later how t)) (between_turn rule s v how t)
  unfolding between_turn
  between_right how t m g =
      by_cases (Right (held_then t.held (later how t))) (eqb t.left 0) (λ e. finish_right how t t.held (eqb-true t.left 0 e))
      (λ e. ap (λ k. held_then t.held (events_of how k)) (named_slot rule s v t.slot t.scan g t.left (omega (arith, eqb-false)))
      ∙ named_right how t (slot_at rule s v t.slot t.scan) m (slot_lies rule s v t.slot t.scan))

  end_right : (how : EndLines) (h : LineHeader) (t : Rest) (o : Option LineRecord) → t.held ≡ o
      → Right (held_then o (more (done (told_header h)) (later how t))) (end_move how t (end_held h o))
  unfolding settle settle_one end_held
  end_right how h t None e = refl
  end_right how h t (Some r) e = both (ltb max_offset (h.offset + h.code))
    where
      both : (c : Bool) → Right
          (cond c (fails (told why.OffsetTooLarge)) (settle_one (closed_at h.section (h.offset + h.code) r) (later how t)))
          (end_move how t (cond c (refused (told why.OffsetTooLarge)) (gave (Some (closed_at h.section (h.offset + h.code) r)))))
      both true = refl
      both false = refl

  block_right : (p : Place) (t : Rest) (k : Answer ℕ LineBlock Told)
      → Right (held_then t.held (blocks_then p.how (start_on p) (head_of p) (blocks_on (columns_on p) (take p.end s) k) (later p.how t))) (block_of p t (block_place p k))
  unfolding blocks_then
  block_right p t (gives k x) =
      ap (λ cs. held_then t.held (lines_then (head_source p.how (start_on p) (head_of p) k.file) (words_in (2 * k.count) (drop k.start (take p.end s))) cs
      (blocks_then p.how (start_on p) (head_of p) (blocks (columns_on p) (drop x (take p.end s))) (later p.how t))))
      (columns_at_lem (columns_on p) (take p.end s) k.start k.count)
  block_right p t none = end_right p.how p.head t t.held refl
  block_right p t (refuses e) = held_fails t.held e

  hold_right : (p : Place) (t : Rest) (r : LineRecord) (o : Option LineRecord)
      → Right (held_then o (more (line r) (lines_left (take p.end s) p (blocks_left (take p.end s) p (later p.how t))))) (hold_in o r (Inside p (with_held t (Some r))))
  unfolding settle settle_one
  hold_right p t r None = refl
  hold_right p t r (Some o) = refl

  line_right : (p : Place) (t : Rest) (e : Reply LineRecord Told)
      → Right (held_then t.held (entry_then e (lines_left (take p.end s) (lines_on p 1) (blocks_left (take p.end s) p (later p.how t))))) (line_of p t e)
  line_right p t (gave r) = hold_right (lines_on p 1) t r t.held
  line_right p t nothing = refl
  line_right p t (refused e) = held_fails t.held e

  inside_right : (p : Place) (t : Rest) → Walked (Inside p t) → Right (records_at (Inside p t)) (inside_turn s p t)
  unfolding inside_turn lines_then words_in
  inside_right p t w =
      let b = take p.end s in
      let m : length b ≡ p.end = length-take-le p.end s w.2 in
      by_cases (Right (records_at (Inside p t))) (ltb (length s) p.end) (λ f. absurd (omega (arith, ltb-true)))
      (λ f. by_cases (Right (records_at (Inside p t))) (ltb p.end p.body) (λ f. absurd (omega (arith, ltb-true)))
      (λ f. by_cases (Right (records_at (Inside p t))) (eqb p.lines 0)
      (λ e. ap (λ n. held_then t.held (lines_then (source_of p) (words_in (2 * n) (drop p.line b)) (words_in (columns_of (columns_on p) n) (drop p.column b)) (blocks_left b p (later p.how t)))) (eqb-true p.lines 0 e)
      ∙ ap (λ k. held_then t.held (blocks_then p.how (start_on p) (head_of p) k (later p.how t))) (blocks_step (columns_on p) b p.next (omega arith))
      ∙ block_right p t (block_at (columns_on p) b p.next))
      (λ e.
      let one : 1 ≤ p.lines = omega (arith, eqb-false) in
      let n : p.lines ≡ suc (p.lines - 1) = omega arith in
      ap (λ k. held_then t.held (lines_then (source_of p) (words_in (2 * k) (drop p.line b)) (words_in (columns_of (columns_on p) k) (drop p.column b)) (blocks_left b p (later p.how t)))) n
      ∙ ap (held_then t.held) (lines_at (source_of p) (columns_on p) (p.lines - 1) b p.line p.column (blocks_left b p (later p.how t)))
      ∙ line_right p t (entry_in b p)
      ∙ ap (λ k. on_move records_at (line_of p t k)) (entry_inside b p (omega arith) (omega arith)))))

  turn_right : (w : LineWalk) → Walked w → Right (records_at w) (turn_in rule s v w)
  turn_right (New how) i = open_right how (count_lines rule s)
  turn_right (Between how t) i = between_right how t i.0 i.1
  turn_right (Inside p t) i = inside_right p t i

  long_right : (w : LineWalk) → Walked w → longest < length s → records_at w ≡ fails (told why.TooLong)
  unfolding events_of settle
  long_right (New how) i h = ap (λ k. settle (events_of how (list_in rule s v k))) (sym (count_long rule s h))
  long_right (Between how t) i h = absurd (omega arith)
  long_right (Inside p t) i h = absurd (omega arith)

  right : (w : LineWalk) → Walked w → records_at w ≡ on_move records_at (turn_of rule s v w)
  unfolding turn_of
  right w i =
      by_cases (Right (records_at w)) (ltb longest (length s)) (λ e. long_right w i (ltb-true longest (length s) e)) (λ e. turn_right w i)

  -- ---- and keeps to walks that a new one comes to

  abbrev Kept : LineMove → Type 0
  Kept u = To u Walked

  open_kept : (how : EndLines) (k : Reply ℕ Told) → k ≡ count_lines rule s → Kept (open_of how k)
  open_kept how (gave n) e = (counted_short rule s n e, scans_start rule s)
  open_kept how nothing e = tt
  open_kept how (refused t) e = tt

  finish_kept : (how : EndLines) (t : Rest) (o : Option LineRecord) → Walked (Between how t) → Kept (finish_in how o t)
  finish_kept how t None g = tt
  finish_kept how t (Some r) g = g

  enter_kept : (how : EndLines) (t : Rest) (a n : ℕ) → length s ≤ longest → a + n ≤ length s → Scans rule s (a + n) → Kept (enter_at s how t a n)
  unfolding headed_place
  enter_kept how t a n m h g =
      by_cases (λ k. Kept (enter_move t (a + n) k)) (ltb n 12) (λ e. tt) (λ e. let l = ltb-false n 12 e in (m, g, h, omega arith, omega arith, omega arith, omega arith))

  named_kept : (how : EndLines) (t : Rest) (o : Reply Span Told) → length s ≤ longest → Gives (SlotIn rule s v t.slot t.scan) o
      → Gives (λ a. Scans rule s (a.start + a.len)) o → Kept (named_of s how t o)
  named_kept how t (gave a) m i g = enter_kept how t a.start a.len m i.1 g
  named_kept how t nothing m i g = tt
  named_kept how t (refused e) m i g = tt

  between_kept : (how : EndLines) (t : Rest) → Walked (Between how t) → Kept (between_turn rule s v how t)
  unfolding between_turn
  between_kept how t g =
      by_cases Kept (eqb t.left 0) (λ e. finish_kept how t t.held g)
      (λ e. named_kept how t (slot_at rule s v t.slot t.scan) g.0 (slot_lies rule s v t.slot t.scan) (slot_scanned rule s v t.slot t.scan g.1))

  end_kept : (how : EndLines) (h : LineHeader) (t : Rest) (o : Option LineRecord) → Walked (Between how t) → Kept (end_move how t (end_held h o))
  unfolding end_held
  end_kept how h t None g = g
  end_kept how h t (Some r) g = by_cases (λ k. Kept (end_move how t k)) (ltb max_offset (h.offset + h.code)) (λ e. tt) (λ e. g)

  block_kept : (p : Place) (t : Rest) (k : Reply Place Told) → Walked (Between p.how t) → p.end ≤ length s → p.body ≤ p.end → OpensIn p k → Kept (block_of p t k)
  block_kept p t (gave q) g l m o = (g.0, g.1, omega (arith, o.end), o.next, o.lines, o.columns, omega (arith, o.end, o.body))
  block_kept p t nothing g l m o = end_kept p.how p.head t t.held g
  block_kept p t (refused e) g l m o = tt

  hold_kept : (p : Place) (t : Rest) (r : LineRecord) (o : Option LineRecord) → Walked (Inside p t) → Kept (hold_in o r (Inside p (with_held t (Some r))))
  hold_kept p t r None w = w
  hold_kept p t r (Some o) w = w

  line_kept : (p : Place) (t : Rest) (e : Reply LineRecord Told) → Walked (Inside (lines_on p 1) t) → Kept (line_of p t e)
  line_kept p t (gave r) w = hold_kept (lines_on p 1) t r t.held w
  line_kept p t nothing w = w
  line_kept p t (refused e) w = tt

  inside_kept : (p : Place) (t : Rest) → Walked (Inside p t) → Kept (inside_turn s p t)
  unfolding inside_turn
  inside_kept p t w =
      let b = take p.end s in
      by_cases Kept (ltb (length s) p.end) (λ f. tt)
      (λ f. by_cases Kept (ltb p.end p.body) (λ f. tt)
      (λ f. by_cases Kept (eqb p.lines 0)
      (λ e. block_kept p t (next_block b p) (w.0, w.1) w.2 w.6 (next_block_lies s p w.2))
      (λ e. let one : 1 ≤ p.lines = omega (arith, eqb-false) in
      line_kept p t (line_entry_at b p) (w.0, w.1, w.2, w.3, omega arith, omega arith, w.6))))

  turn_kept : (w : LineWalk) → Walked w → Kept (turn_in rule s v w)
  turn_kept (New how) i = open_kept how (count_lines rule s) refl
  turn_kept (Between how t) i = between_kept how t i
  turn_kept (Inside p t) i = inside_kept p t i

  kept : (w : LineWalk) → Walked w → To (turn_of rule s v w) Walked
  unfolding turn_of
  kept w i = by_cases Kept (ltb longest (length s)) (λ e. tt) (λ e. turn_kept w i)

  -- ---- THE THEOREM

  turns : LineWalk → Records
  turns = all (turn_of rule s v) (todo rule s)

  turns_are : (w : LineWalk) → Walked w → records_at w ≡ turns w
  unfolding turns
  turns_are w i = all_kept (turn_of rule s v) (todo rule s) (falls rule s v) Walked kept records_at right w i

  turns_step : (w : LineWalk) → turns w ≡ on_move turns (moved (next_of rule s v w))
  unfolding turns next_of
  turns_step w = all_first (turn_of rule s v) (todo rule s) (falls rule s v) w

  -- n steps, each at the walk that the step before handed on
  pub walk_from : (n : ℕ) (w : LineWalk) → Walked w → calls (next_of rule s v) n w ≡ replies n (records_at w)
  walk_from n w i = calls_are (next_of rule s v) turns turns_step n w ∙ ap (replies n) (sym (turns_are w i))

  -- the first of them at a new walk: its answers, taken until it ends, are the records; so none is lost, and an end or a refusal is answered again
  pub walk_is : (how : EndLines) (n : ℕ) → calls (next_of rule s v) n (New how) ≡ replies n (records_of how rule s v)
  walk_is how n = walk_from n (New how) tt

  -- ---- one step, for each answer: what a loop over it cites

  Goes : LineWalk → Answer LineWalk LineRecord Told → Type 0
  Goes w (gives r t) = (more r (records_at t) ≡ records_at w) × Walked t × (todo rule s t < todo rule s w)
  Goes w none = ends ≡ records_at w
  Goes w (refuses e) = fails e ≡ records_at w

  goes : (w : LineWalk) (i : Walked w) (a : Answer LineWalk LineRecord Told) → To (moved a) Walked → To (moved a) (λ t. todo rule s t < todo rule s w)
      → turns w ≡ on_move turns (moved a) → Goes w a
  unfolding Goes
  goes w i (gives r t) k l e = (ap (more r) (turns_are t k) ∙ sym e ∙ sym (turns_are w i), k, l)
  goes w i none k l e = sym e ∙ sym (turns_are w i)
  goes w i (refuses t) k l e = sym e ∙ sym (turns_are w i)

  next_goes : (w : LineWalk) → Walked w → Goes w (next_of rule s v w)
  unfolding next_of
  next_goes w i =
      goes w i (first (turn_of rule s v) (todo rule s) w) (first_kept (turn_of rule s v) (todo rule s) (falls rule s v) Walked kept w i)
      (first_less (turn_of rule s v) (todo rule s) (falls rule s v) w) (turns_step w)

  module _ (w : LineWalk) (i : Walked w) where
    pub walk_line : (r : LineRecord) (t : LineWalk) → gives r t ≡ next_of rule s v w
        → (more r (records_at t) ≡ records_at w) × Walked t × (todo rule s t < todo rule s w)
    unfolding Goes
    walk_line r t e = subst⁻¹ (Goes w) e (next_goes w i)

    pub walk_none : none ≡ next_of rule s v w → ends ≡ records_at w
    unfolding Goes
    walk_none e = subst⁻¹ (Goes w) e (next_goes w i)

    pub walk_refused : (t : Told) → refuses t ≡ next_of rule s v w → fails t ≡ records_at w
    unfolding Goes
    walk_refused t e = subst⁻¹ (Goes w) e (next_goes w i)
