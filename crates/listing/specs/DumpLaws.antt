-- THE THEOREM of the text: n steps, each at the state that the step before handed on, put the lines of `sheet_lines` in order and then answer "none"
-- again and again, if the slots hold the area's order list. And what a loop over the steps needs: each line leaves less to do.
use Rattle.std.specs.Prelude.{ℕ, zero, suc, ◌+◌, ◌≤◌, ◌≡◌, List, ◌++◌, Bool, length, ltb}
use Rattle.std.proofs.Math.Path.{refl, sym, ap}
use Rattle.std.proofs.Common.{◌∙◌, arith, le-ltb}
use Rattle.std.proofs.Math.Bool.{true, false, cond}
use Rattle.walk.specs.Listing.{Listing, more, ends, fails, mapped, and_then, on_move, all, Answer, gives, none, refuses, Reply, gave, nothing, refused, moved, calls, replies}
use Rattle.walk.specs.ListingLaws.{calls_are}
use Rattle.walk.specs.CallsLaws.{replies_same, calls_step}
use Rattle.walk.specs.FirstLaws.{all_first}
use Rattle.refusal.specs.Told.{Told, told}
use Rattle.refusal.specs.declared.Refusal.TheVariants as why
use Rattle.kinds.specs.Kind.{Sort}
use Rattle.area.specs.Subs.{subs_from, step_at}
use Rattle.area.specs.SubsLaws.{steps_are}
use Rattle.find.specs.Find.{same}
use Rattle.table.specs.TableLaws.{from, table_from}
use Rattle.table.specs.declared.TableWalk.{TableWalk}
use Rattle.table.specs.declared.TableWalk.TheVariants as table
use Rattle.checksums.specs.Entry.{entry_at, entries_from}
use Rattle.checksums.specs.EntryLaws.{entries_step}
use Rattle.lines.specs.Lines.{plus, count_of, count_lines, Body}
use Rattle.lines.specs.Lines as lines
use Rattle.body_list.specs.BodyList.{in_room}
use Rattle.order.specs.Order.{ordered, slots_after}
use Rattle.order.specs.BuiltLaws.{built}
use Rattle.files.specs.Files.{File, file_of, files_sub, file_step, files_in}
use Rattle.files.proofs.FilesLaws.{files_finds, files_walk}
use Rattle.line_step.specs.Turn.{turn_of}
use Rattle.line_step.specs.declared.LineWalk.{LineWalk}
use Rattle.line_step.specs.declared.LineWalk.TheVariants as line
use Rattle.line_record.specs.declared.EndLines.TheVariants.{Crate}
use Rattle.line_walk.specs.Meaning.{Records, events_of, settle, records_of, area_records}
use Rattle.line_walk.specs.Next.{todo, next_of}
use Rattle.line_walk.proofs.NextLaws.{falls}
use Rattle.line_walk.proofs.WalkLaws.{walk_is}
use Rattle.text.specs.Text.{joined}
use Rattle.printed.specs.Printed.{Pieces, head_line, end_of_text}
use Rattle.printed.specs.LineText.{record_line}
use Rattle.listing.specs.Dump.{most_bytes, sub_row, file_row, refusal, closing, sheet_lines, sheet_bytes, text_of, Room, spoken, sheet_size}
use Rattle.listing.specs.Step.{Line, stage, lines_step, files_step, subs_step, head_step, step_of}
use Rattle.listing.specs.RoomLaws.{room_taken}
use Rattle.listing.specs.declared.TextWalk.{TextWalk}
use Rattle.listing.specs.declared.TextWalk.TheVariants.{Head, Subs, Files, Lines, Done}

module _ (rule : ℕ → Sort) (s v : List ℕ) where
  -- ---- what each walk has still to give

  files_at : TableWalk → Listing File Told
  files_at = from entry_at file_of entries_from entries_step s (files_sub rule s) (files_finds rule s)

  files_step_lem : (w : TableWalk) → files_at w ≡ on_move files_at (moved (file_step rule s w))
  unfolding files_at file_step
  files_step_lem = calls_step (file_step rule s) files_at (table_from entry_at file_of entries_from entries_step s (files_sub rule s) (files_finds rule s))

  files_new : files_at table.New ≡ files_in rule s
  unfolding files_at file_step
  files_new =
      replies_same (files_at table.New) (files_in rule s)
      (λ n. sym (table_from entry_at file_of entries_from entries_step s (files_sub rule s) (files_finds rule s) n table.New) ∙ files_walk rule s n)

  records_at : LineWalk → Records
  records_at = all (turn_of rule s v) (todo rule s)

  records_step : (w : LineWalk) → records_at w ≡ on_move records_at (moved (next_of rule s v w))
  unfolding records_at next_of
  records_step w = all_first (turn_of rule s v) (todo rule s) (falls rule s v) w

  records_new : records_at (line.New Crate) ≡ records_of Crate rule s v
  records_new =
      replies_same (records_at (line.New Crate)) (records_of Crate rule s v)
      (λ n. sym (calls_are (next_of rule s v) records_at records_step n (line.New Crate)) ∙ walk_is rule s v Crate n)

  subs_step_lem : (p : ℕ) → subs_from rule s p ≡ on_move (subs_from rule s) (moved (step_at rule s p))
  subs_step_lem = calls_step (step_at rule s) (subs_from rule s) (steps_are rule s)

  -- ---- the lines from a state on

  record_lines : LineWalk → Listing Pieces Told
  record_lines w = mapped record_line same (records_at w)

  file_lines : TableWalk → Listing Pieces Told
  file_lines w = and_then (mapped (file_row s) same (files_at w)) (record_lines (line.New Crate))

  sub_lines : ℕ → Listing Pieces Told
  sub_lines p = and_then (mapped sub_row same (subs_from rule s p)) (file_lines table.New)

  pub lines_from : TextWalk → Listing Pieces Told
  lines_from Head =
      cond (ltb most_bytes (length s)) (more (refusal (told why.TooLong)) ends) (more (head_line (length s)) (closing (sub_lines 0)))
  lines_from (Subs p) = closing (sub_lines p)
  lines_from (Files w) = closing (file_lines w)
  lines_from (Lines w) = closing (record_lines w)
  lines_from Done = ends

  -- a stage: the lines of its walk and then the rest, whose step is x
  stage_right : {S B : Type 0} (state : S → TextWalk) (row : B → Pieces) (L : S → Listing B Told) (rest : Listing Pieces Told) (x : Line)
      → ((t : S) → lines_from (state t) ≡ closing (and_then (mapped row same (L t)) rest)) → closing rest ≡ on_move lines_from (moved x)
      → (l : Listing B Told) (a : Answer S B Told) → l ≡ on_move L (moved a)
      → closing (and_then (mapped row same l) rest) ≡ on_move lines_from (moved (stage state row a x))
  unfolding closing stage lines_from
  stage_right state row L rest x on over l (gives b t) e = rw e (ap (more (row b)) (sym (on t)))
  stage_right state row L rest x on over l none e = rw e over
  stage_right state row L rest x on over l (refuses t) e = rw e

  and_ends : {B R : Type 0} (l : Listing B R) → and_then l ends ≡ l
  and_ends (more b l) = ap (more b) (and_ends l)
  and_ends ends = refl
  and_ends (fails r) = refl

  lines_right : (w : LineWalk) → closing (record_lines w) ≡ on_move lines_from (moved (lines_step rule s v w))
  unfolding lines_from record_lines closing
  lines_right w =
      ap closing (sym (and_ends (record_lines w)))
      ∙ stage_right Lines record_line records_at ends (gives end_of_text Done) (λ t. ap closing (sym (and_ends (record_lines t)))) refl (records_at w) (next_of rule s v w) (records_step w)

  files_right : (w : TableWalk) → closing (file_lines w) ≡ on_move lines_from (moved (files_step rule s v w))
  unfolding lines_from file_lines
  files_right w = stage_right Files (file_row s) files_at (record_lines (line.New Crate)) (lines_step rule s v (line.New Crate)) (λ t. refl) (lines_right (line.New Crate)) (files_at w) (file_step rule s w) (files_step_lem w)

  subs_right : (p : ℕ) → closing (sub_lines p) ≡ on_move lines_from (moved (subs_step rule s v p))
  unfolding lines_from sub_lines
  subs_right p = stage_right Subs sub_row (subs_from rule s) (file_lines table.New) (files_step rule s v table.New) (λ t. refl) (files_right table.New) (subs_from rule s p) (step_at rule s p) (subs_step_lem p)

  pub text_right : (w : TextWalk) → lines_from w ≡ on_move lines_from (moved (step_of rule s v w))
  unfolding lines_from head_step
  text_right Head = by (ltb most_bytes (length s))
    where
      by : (t : Bool) → cond t (more (refusal (told why.TooLong)) ends) (more (head_line (length s)) (closing (sub_lines 0)))
          ≡ on_move lines_from (moved (cond t (gives (refusal (told why.TooLong)) Done) (gives (head_line (length s)) (Subs 0))))
      by true = refl
      by false = refl
  text_right (Subs p) = subs_right p
  text_right (Files w) = files_right w
  text_right (Lines w) = lines_right w
  text_right Done = refl

  -- n steps from any state on
  text_from : (n : ℕ) (w : TextWalk) → calls (step_of rule s v) n w ≡ replies n (lines_from w)
  text_from = calls_are (step_of rule s v) lines_from text_right

-- ---- the slots that `order_list` leaves

in_room_lem : (m n : ℕ) → n ≤ m → gave n ≡ in_room m (gave n)
in_room_lem m n h = rw (le-ltb m n h)

-- the tests answer a number or a refusal
Answers : Reply ℕ Told → Type 0
Answers (gave n) = Unit {0}
Answers nothing = ⊥
Answers (refused t) = Unit {0}

count_answers : {B : Type 0} (l : Listing B Told) → Answers (count_of l)
unfolding count_of Answers
count_answers (more b l) = by (count_of l) (count_answers l)
  where
    by : (x : Reply ℕ Told) → Answers x → Answers (plus 1 x)
    by (gave n) h = tt
    by nothing h = h
    by (refused t) h = tt
count_answers ends = tt
count_answers (fails t) = tt

-- where the tests pass, the walk over the list is that of the area; where they do not, the files are refused already
records_built : (rule : ℕ → Sort) (s xs : List ℕ) → Room rule s xs → (x : Reply ℕ Told) → count_lines rule s ≡ x → Answers x
    → and_then (mapped (file_row s) same (files_in rule s)) (mapped record_line same (records_of Crate rule s (slots_after rule s xs)))
    ≡ and_then (mapped (file_row s) same (files_in rule s)) (mapped record_line same (area_records Crate rule s))
unfolding files_sub Answers
records_built rule s xs room (gave n) e a =
    let o : gave n ≡ ordered rule s (length xs) = in_room_lem (length xs) n (room n (sym e)) ∙ ap (in_room (length xs)) (sym e) in
    ap (λ (l : Listing Body Told). and_then (mapped (file_row s) same (files_in rule s)) (mapped record_line same (settle (events_of Crate l)))) (built rule s xs n o)
records_built rule s xs room nothing e a = absurd a
records_built rule s xs room (refused t) e a = rw e

pub lines_new : (rule : ℕ → Sort) (s xs : List ℕ) → Room rule s xs → lines_from rule s (slots_after rule s xs) Head ≡ sheet_lines rule s
unfolding lines_from sheet_lines sub_lines file_lines record_lines
lines_new rule s xs room =
    let v = slots_after rule s xs in
    let l : and_then (mapped (file_row s) same (files_at rule s v table.New)) (mapped record_line same (records_at rule s v (line.New Crate)))
    ≡ and_then (mapped (file_row s) same (files_in rule s)) (mapped record_line same (area_records Crate rule s))
    = (λ i. and_then (mapped (file_row s) same (files_new rule s v i)) (mapped record_line same (records_new rule s v i)))
    ∙ records_built rule s xs room (count_lines rule s) refl (count_answers (lines.lines_from rule s 0)) in
    ap (λ (k : Listing Pieces Told). cond (ltb most_bytes (length s)) (more (refusal (told why.TooLong)) ends)
    (more (head_line (length s)) (closing (and_then (mapped sub_row same (subs_from rule s 0)) k)))) l

-- THE THEOREM
pub text_is : (rule : ℕ → Sort) (s xs : List ℕ) → Room rule s xs → (n : ℕ) → calls (step_of rule s (slots_after rule s xs)) n Head ≡ replies n (sheet_lines rule s)
text_is rule s xs room n = text_from rule s (slots_after rule s xs) n Head ∙ ap (replies n) (lines_new rule s xs room)

-- ---- the bytes: what the lines of enough calls make, one after the other, is the text

all_spoken : (l : Listing Pieces Told) (n : ℕ) → sheet_size l ≤ n → spoken (replies n l) ≡ sheet_bytes l
unfolding spoken sheet_size replies sheet_bytes
all_spoken (more x l) zero h = absurd (omega arith)
all_spoken (more x l) (suc n) h = ap (λ (k : List ℕ). joined x ++ k) (all_spoken l n (omega arith))
all_spoken ends zero h = refl
all_spoken ends (suc n) h = all_spoken ends n (omega arith)
all_spoken (fails t) zero h = refl
all_spoken (fails t) (suc n) h = all_spoken (fails t) n (omega arith)

pub text_bytes : (rule : ℕ → Sort) (s xs : List ℕ) → Room rule s xs → (n : ℕ) → sheet_size (sheet_lines rule s) ≤ n
    → spoken (calls (step_of rule s (slots_after rule s xs)) n Head) ≡ text_of rule s
text_bytes rule s xs room n h = ap spoken (text_is rule s xs room n) ∙ all_spoken (sheet_lines rule s) n h

-- 3,277 slots suffice for an area whose text has a head
pub slots_suffice : (rule : ℕ → Sort) (s xs : List ℕ) → length s ≤ most_bytes + 1 → 3277 ≤ length xs → Room rule s xs
slots_suffice rule s xs h m n e = omega (arith, room_taken rule s n e)
