-- Laws of the loop that puts the records of a line walk into lent words one by one: what it keeps, for each way of one turn, and how it stops.
use Rattle.std.specs.Prelude.{ℕ, ◌+◌, ◌*◌, ◌/◌, ◌≤◌, ◌<◌, ◌≡◌, List, length}
use Rattle.std.proofs.Common.{arith}
use Rattle.word.specs.Word.{store}
use Rattle.walk.specs.Listing.{item, pass, Answer, gives}
use Rattle.walk.specs.First.{on_first}
use Rattle.walk.specs.Many.{many}
use Rattle.walk.specs.ManyLaws.{NoRecord}
use Rattle.refusal.specs.Told.{Told}
use Rattle.kinds.specs.Kind.{Sort}
use Rattle.line_record.specs.declared.LineRecord.{LineRecord}
use Rattle.line_state_words.specs.LineWords.{record_size, record_words}
use Rattle.line_state_words.specs.LineWordsLaws.{record_length}
use Rattle.line_step.specs.declared.LineWalk.{LineWalk}
use Rattle.line_step.specs.Turn.{LineMove, turn_of}
use Rattle.line_walk.specs.Next.{todo, next_of}
use Rattle.line_walk.proofs.NextLaws.{falls, next_is}
use Rattle.answer_words.specs.Fill.{no_room, counted}
use Rattle.answer_words.specs.FillLaws as fill
use Rattle.body_lines.specs.Turns.{Filled, Fills}

module _ (rule : ℕ → Sort) (s v : List ℕ) (w₀ : LineWalk) (o₀ : List ℕ) where
  abbrev Ends : Answer LineWalk ℕ Told → List ℕ → Type 0
  Ends = Filled rule s v w₀ o₀

  abbrev Keeps : ℕ → LineWalk → LineWalk → List ℕ → Type 0
  Keeps = Fills rule s v w₀ o₀

  pub turns_start : Keeps 0 w₀ w₀ o₀
  turns_start = fill.fill_start record_size record_words record_length (next_of rule s v) w₀ o₀

  -- without room for a record
  pub turns_no_room : length o₀ < record_size → (a : Answer LineWalk LineRecord Told) → a ≡ next_of rule s v w₀ → Ends (counted (no_room a)) o₀
  turns_no_room h a e = fill.fill_no_room record_size record_words record_length (next_of rule s v) w₀ o₀ h a e

  module _ {n : ℕ} {last w : LineWalk} {o : List ℕ} (h : Keeps n last w o) where
    pub turns_pass : (t : LineWalk) → pass t ≡ turn_of rule s v w → Keeps n last t o
    turns_pass t e = fill.fill_pass record_size record_words record_length (next_of rule s v) w₀ o₀ h t (next_is rule s v w (pass t) e)

    pub turns_record : (r : LineRecord) (t : LineWalk) (o' : List ℕ) → item r t ≡ turn_of rule s v w → n < length o₀ / record_size → o' ≡ store o (record_size * n) (record_words r)
        → Keeps (n + 1) t t o'
    turns_record r t o' e l q = fill.fill_stored record_size record_words record_length (next_of rule s v) w₀ o₀ h r t o' (next_is rule s v w (item r t) e) l q

    -- u is a turn that gives no record and does not pass on
    pub turns_behind : (u : LineMove) → u ≡ turn_of rule s v w → NoRecord (on_first (next_of rule s v) u) → last ≡ (many (next_of rule s v) n w₀).next
    turns_behind u e f =
        fill.fill_behind record_size record_words record_length (next_of rule s v) w₀ o₀ h (on_first (next_of rule s v) u) (next_is rule s v w u e) f

    module _ (room : record_size ≤ length o₀) where
      pub turns_full : length o₀ / record_size ≤ n → Ends (gives n last) o
      turns_full l = fill.fill_full record_size record_words record_length (next_of rule s v) w₀ o₀ h room l (omega arith)

      -- u is a turn that gives no record and does not pass on
      pub turns_stop : (u : LineMove) → u ≡ turn_of rule s v w → NoRecord (on_first (next_of rule s v) u) → (n ≡ 0 → ⊥) → Ends (gives n last) o
      turns_stop u e f z =
          fill.fill_stop record_size record_words record_length (next_of rule s v) w₀ o₀ h room (on_first (next_of rule s v) u) (next_is rule s v w u e) f z

      pub turns_none : (u : LineMove) → u ≡ turn_of rule s v w → NoRecord (on_first (next_of rule s v) u) → n ≡ 0 → Ends (counted (no_room (on_first (next_of rule s v) u))) o
      turns_none u e f z =
          fill.fill_none record_size record_words record_length (next_of rule s v) w₀ o₀ h room (on_first (next_of rule s v) u) (next_is rule s v w u e) f z

-- a turn that gives a record leaves less to do
pub record_falls : (rule : ℕ → Sort) (s v : List ℕ) (w : LineWalk) (r : LineRecord) (t : LineWalk) → item r t ≡ turn_of rule s v w → todo rule s t < todo rule s w
record_falls rule s v w r t e = rw (← e) at (falls rule s v w)
