-- Many records of the line walk at once, in words: as many as the lent words have room for, at their start. Where the first step gives
-- no record the answer is that step's, and nothing is put. Where there is a record and no room for one it is refused with 10.
-- Source: docs/DECISIONS.md, 36.
-- Definitions only; a reader must believe them.
use Rattle.std.specs.Prelude.{ℕ, List}
use Rattle.walk.specs.Listing.{Answer}
use Rattle.refusal.specs.Told.{Told}
use Rattle.kinds.specs.Kind.{Sort}
use Rattle.line_record.specs.declared.LineRecord.{LineRecord}
use Rattle.line_state_words.specs.LineWords.{record_size}
use Rattle.line_step.specs.declared.LineWalk.{LineWalk}
use Rattle.line_walk.specs.Next.{next_of}
use Rattle.answer_words.specs.Fill.{fill_of}

-- the records of the walk from w on, over the area s and the slots v, with n words lent
abbrev pub lines_of : (ℕ → Sort) → List ℕ → List ℕ → ℕ → LineWalk → Answer LineWalk (List LineRecord) Told
lines_of rule s v n w = fill_of record_size (next_of rule s v) n w
