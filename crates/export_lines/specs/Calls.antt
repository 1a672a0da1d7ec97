-- What each call on lines gives, by the rule of kinds. s is the area, v the slots, and o the lent words, whose first are a walk's state. A call for a list
-- changes the slots only with room for a refusal in o, and the call for many records the words lent for these only with room for the state and a refusal.
-- The word of the state, or the parameter, that should name a reading of end lines is looked at first.
-- Source: docs/DECISIONS.md, 32 and 59.
-- Definitions only; a reader must believe them.
use Rattle.std.specs.Prelude.{ℕ, List, Bool, false, not, cond, eqb, length, Option, is_some}
use Rattle.kinds.specs.Kind.{Sort}
use Rattle.order.specs.Order.{ordered, slots_after}
use Rattle.body_list.specs.BodyList.{body_list, bodies_after}
use Rattle.line_record.specs.declared.LineRecord.{LineRecord}
use Rattle.line_step.specs.declared.Rest.{Rest}
use Rattle.line_step.specs.declared.LineWalk.{LineWalk}
use Rattle.line_step.specs.declared.LineWalk.TheVariants.{New, Between, Inside}
use Rattle.line_walk.specs.Next.{next_of}
use Rattle.symbol_lines.specs.Symbol.{symbol_walk}
use Rattle.answer_words.specs.Given.{Given, refusal_size, one, step_given, reply_given, if_room, short_given, if_chosen, choice_given}
use Rattle.line_state_words.specs.LineWords.{state_size, how_named, line_walk_in, line_walk_words, line_words, record_words}
use Rattle.answer_words.specs.FillGiven.{fill_given, fill_left}
use Rattle.many_lines.specs.Lines.{lines_of}

-- the order list, with n slots
abbrev pub order_given : (ℕ → Sort) → List ℕ → ℕ → List ℕ → Given
order_given rule s n o = if_room refusal_size o (reply_given one (ordered rule s n)) short_given

-- the slots v after the call for the order list
abbrev pub slots_left : (ℕ → Sort) → List ℕ → List ℕ → List ℕ → List ℕ
slots_left rule s v o = if_room refusal_size o (slots_after rule s v) v

-- the list of bodies, with n slots, and the slots b after the call for it
abbrev pub bodies_given : (ℕ → Sort) → List ℕ → ℕ → List ℕ → Given
bodies_given rule s n o = if_room refusal_size o (reply_given one (body_list rule s n)) short_given

abbrev pub bodies_left : (ℕ → Sort) → List ℕ → List ℕ → List ℕ → List ℕ
bodies_left rule s b o = if_room refusal_size o (bodies_after rule s b) b

abbrev pub line_given : (ℕ → Sort) → List ℕ → List ℕ → List ℕ → Given
line_given rule s v o = if_chosen choice_given (λ w. step_given state_size line_words (next_of rule s v w)) (line_walk_in o)

-- n names the reading
abbrev pub symbol_given : (ℕ → Sort) → List ℕ → List ℕ → ℕ → ℕ → ℕ → Given
symbol_given rule s v section offset n = if_chosen choice_given (λ how. reply_given line_walk_words (symbol_walk how rule s v section offset)) (how_named n)

-- whether no record comes behind a walk: no subsection is left, and no record held
abbrev pub holds_one : Option LineRecord → Bool
holds_one h = is_some h

abbrev pub over_rest : Rest → Bool
over_rest t = cond (eqb t.left 0) (not (holds_one t.held)) false

abbrev pub over_walk : LineWalk → Bool
over_walk (New how) = false
over_walk (Between how t) = over_rest t
over_walk (Inside p t) = false

-- many records, with n words lent for them
abbrev pub lines_given : (ℕ → Sort) → List ℕ → List ℕ → ℕ → List ℕ → Given
lines_given rule s v n o = if_chosen choice_given (λ w. fill_given state_size over_walk line_walk_words o (lines_of rule s v n w)) (line_walk_in o)

-- the words x lent for records, after the call for many
abbrev pub records_left : (ℕ → Sort) → List ℕ → List ℕ → List ℕ → List ℕ → List ℕ
records_left rule s v x o = if_chosen x (λ w. fill_left state_size record_words o x (lines_of rule s v (length x) w)) (line_walk_in o)
