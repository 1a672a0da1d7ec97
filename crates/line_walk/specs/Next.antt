-- What a step of the line walk answers, for every state: the first record that its turns give. What the steps of a walk give together is
-- `records_of` of Meaning (`walk_is` of WalkLaws). Source: document 01, "What must change shape": a state by value and a step.
-- Definitions only; `walk_is` (line_walk WalkLaws) says what they mean.
use Rattle.std.specs.Prelude.{ℕ, suc, ◌+◌, ◌-◌, ◌*◌, List, length, Option, None, Some}
use Rattle.walk.specs.Listing.{Answer, Reply, gave, nothing, refused}
use Rattle.walk.specs.First.{first}
use Rattle.refusal.specs.Told.{Told}
use Rattle.kinds.specs.Kind.{Sort}
use Rattle.line_record.specs.declared.LineRecord.{LineRecord}
use Rattle.lines.specs.Lines.{count_lines}
use Rattle.line_step.specs.Turn.{turn_of}
use Rattle.line_step.specs.declared.LineWalk.{LineWalk}
use Rattle.line_step.specs.declared.LineWalk.TheVariants.{New, Between, Inside}

-- how much is to be done: a bound on the turns, which falls with each
abbrev pub one_held : Option LineRecord → ℕ
one_held None = 0
one_held (Some r) = 1

-- a line subsection takes no more turns than the area has bytes
unfoldable pub turn_bound : List ℕ → ℕ → ℕ
turn_bound s n = n * suc (length s)

abbrev pub counting : List ℕ → Reply ℕ Told → ℕ
counting s (gave n) = turn_bound s n
counting s nothing = 0
counting s (refused t) = 0

abbrev pub todo : (ℕ → Sort) → List ℕ → LineWalk → ℕ
todo rule s (New how) = suc (counting s (count_lines rule s))
todo rule s (Between how t) = turn_bound s t.left + one_held t.held
todo rule s (Inside p t) = suc (turn_bound s t.left + (p.end - p.next) + 2 * p.lines + one_held t.held)

-- what `next_line` answers
unfoldable pub next_of : (ℕ → Sort) → List ℕ → List ℕ → LineWalk → Answer LineWalk LineRecord Told
next_of rule s v = first (turn_of rule s v) (todo rule s)
