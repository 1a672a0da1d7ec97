-- A step of the walk over a text's lines, for every state, and what it does to the lent buffer. What the steps of a walk give together is `lines_of`
-- of Dump (`text_is` of DumpLaws). Source: document 01, "What must change shape": a state by value and a step; number 10 for a lent room that is too
-- small, which then stays as found.
-- Definitions only; a reader must believe them, but for `Line` to `step_of`: `text_is` (listing DumpLaws) says what these mean; for `line_answer`: no public
-- contract cites it.
use Rattle.std.specs.Prelude.{ℕ, List, cond, length, ltb}
use Rattle.word.specs.Word.{put}
use Rattle.walk.specs.Listing.{Answer, gives, none, refuses}
use Rattle.refusal.specs.Told.{Told, told}
use Rattle.refusal.specs.declared.Refusal.TheVariants as why
use Rattle.kinds.specs.Kind.{Sort}
use Rattle.area.specs.Subs.{step_at}
use Rattle.table.specs.declared.TableWalk.{TableWalk}
use Rattle.table.specs.declared.TableWalk.TheVariants as table
use Rattle.files.specs.Files.{file_step}
use Rattle.line_record.specs.declared.EndLines.TheVariants.{Crate}
use Rattle.line_step.specs.declared.LineWalk.{LineWalk}
use Rattle.line_step.specs.declared.LineWalk.TheVariants as line
use Rattle.line_walk.specs.Next.{next_of}
use Rattle.text.specs.Text.{joined, Next, at, stopped}
use Rattle.printed.specs.Printed.{Pieces, longest_line, head_line, end_of_text}
use Rattle.printed.specs.LineText.{record_line}
use Rattle.listing.specs.Dump.{most_bytes, sub_row, file_row, refusal}
use Rattle.listing.specs.declared.TextWalk.{TextWalk}
use Rattle.listing.specs.declared.TextWalk.TheVariants.{Head, Subs, Files, Lines, Done}

-- ---- a step: the next line, and the state behind it

abbrev pub Line : Type 0
Line = Answer TextWalk Pieces Told

-- a stage: its walk's answer is a line and the walk goes on, or the stage is over and x comes next, or a refusal is the last line
unfoldable pub stage : {S B : Type 0} → (S → TextWalk) → (B → Pieces) → Answer S B Told → Line → Line
stage state row (gives b t) x = gives (row b) (state t)
stage state row none x = x
stage state row (refuses t) x = gives (refusal t) Done

module _ (rule : ℕ → Sort) (s v : List ℕ) where
  abbrev pub lines_step : LineWalk → Line
  lines_step w = stage Lines record_line (next_of rule s v w) (gives end_of_text Done)

  abbrev pub files_step : TableWalk → Line
  files_step w = stage Files (file_row s) (file_step rule s w) (lines_step (line.New Crate))

  abbrev pub subs_step : ℕ → Line
  subs_step p = stage Subs sub_row (step_at rule s p) (files_step table.New)

unfoldable pub head_step : List ℕ → Line
head_step s =
    cond (ltb most_bytes (length s)) (gives (refusal (told why.TooLong)) Done) (gives (head_line (length s)) (Subs 0))

module _ (rule : ℕ → Sort) (s v : List ℕ) where
  abbrev pub step_of : TextWalk → Line
  step_of Head = head_step s
  step_of (Subs p) = subs_step rule s v p
  step_of (Files w) = files_step rule s v w
  step_of (Lines w) = lines_step rule s v w
  step_of Done = none

-- ---- what is answered, and what the buffer then holds

pub record Both : Type 0 where
  pub answer : Answer TextWalk ℕ Told
  pub bytes : List ℕ

abbrev pub both : Answer TextWalk ℕ Told → List ℕ → Both
both a b = record { answer = a; bytes = b }

-- what a step answers, and the buffer b then: the line at its start, told by its length
unfoldable pub line_shown : List ℕ → Line → Both
line_shown b (gives x t) = both (gives (length (joined x)) t) (put b 0 (joined x))
line_shown b none = both none b
line_shown b (refuses t) = both (refuses t) b

unfoldable pub text_step : List ℕ → Line → Both
text_step b u = cond (ltb (length b) longest_line) (both (refuses (told why.NoRoom)) b) (line_shown b u)

-- what is answered of a line, by the place behind it
abbrev pub line_answer : Next → TextWalk → Answer TextWalk ℕ Told
line_answer (at n) t = gives n t
line_answer (stopped e) t = refuses e
