-- What each call on parts gives, by the rule of kinds, and the words of each answer: of a subsection first the place behind it, which is the next state. s is
-- the area or the stream, and o the lent words, whose first is the place of the next subsection.
-- Source: docs/DECISIONS.md, 32.
-- Definitions only; a reader must believe them.
use Rattle.std.specs.Prelude.{ℕ, List, [], ◌∷◌, get_or}
use Rattle.kinds.specs.Kind.{Sort}
use Rattle.area.specs.Subs.{step_at, Sub}
use Rattle.strings.specs.Strings.{names_of, name_at}
use Rattle.modi.specs.Modi.{module_symbols, lines_span, tables_span}
use Rattle.answer_words.specs.Given.{Given, step_given, reply_given, span_words}

-- the state of a walk over subsections is a place
abbrev pub sub_state_size : ℕ
sub_state_size = 1

-- the place behind a subsection; its kind, and where its body stands
abbrev pub sub_words : Sub → ℕ → List ℕ
sub_words b next = next ∷ b.kind ∷ b.start ∷ b.len ∷ []

-- nothing but that there is an answer
abbrev pub yes : Unit {0} → List ℕ
yes u = []

abbrev pub sub_given : (ℕ → Sort) → List ℕ → List ℕ → Given
sub_given rule s o = step_given sub_state_size sub_words (step_at rule s (get_or o 0 0))

abbrev pub names_given : List ℕ → Given
names_given s = reply_given span_words (names_of s)

abbrev pub name_given : List ℕ → ℕ → Given
name_given s offset = reply_given span_words (name_at s offset)

-- a module's sizes: of its symbols, of its C11 lines and of its area
abbrev pub symbols_given : List ℕ → ℕ → ℕ → ℕ → Given
symbols_given s symbols c11 c13 = reply_given yes (module_symbols (record { symbols = symbols; c11 = c11; c13 = c13 }) s)

abbrev pub lines_part_given : List ℕ → ℕ → ℕ → ℕ → Given
lines_part_given s symbols c11 c13 = reply_given span_words (lines_span (record { symbols = symbols; c11 = c11; c13 = c13 }) s)

abbrev pub tables_part_given : List ℕ → ℕ → ℕ → ℕ → Given
tables_part_given s symbols c11 c13 = reply_given span_words (tables_span (record { symbols = symbols; c11 = c11; c13 = c13 }) s)
