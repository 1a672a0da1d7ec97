-- What each call on a table gives, by the rule of kinds, and the words of each record. s is the area, v the slots of a list of places, b a body that is
-- lent alone, and o the lent words, whose first are a walk's state. The list changes its slots only with room for a refusal in o.
-- Source: docs/DECISIONS.md, 32.
-- Definitions only; a reader must believe them.
use Rattle.std.specs.Prelude.{ℕ, List, [], ◌∷◌}
use Rattle.kinds.specs.Kind.{Sort}
use Rattle.table.specs.Table.{word_in}
use Rattle.inlinees.specs.Inlinees.{inlinee_step, SourceLine}
use Rattle.imports.specs.Imports.{import_step, resolve_import, ModuleAt, Ref}
use Rattle.imports.specs.Listed.{import_list, places_after, resolve_listed}
use Rattle.exports.specs.Exports.{export_step, export_count, resolve_export, Export, a_type, anId}
use Rattle.exports.specs.InBody.{export_body, export_at, global_in}
use Rattle.answer_words.specs.Given.{Given, refusal_size, one, step_given, reply_given, if_room, short_given, span_words}
use Rattle.answer_words.specs.TableWords.{table_state_size, walk_in, table_words}

-- the inlinee, its file and line, the place of its extra files, their number
abbrev pub inlinee_words : SourceLine → List ℕ
inlinee_words l = l.inlinee ∷ l.file ∷ l.line ∷ l.extra ∷ l.count ∷ []

-- a module of the imports: its name, the place of its words, their number
abbrev pub module_words : ModuleAt → List ℕ
module_words m = m.name ∷ m.words ∷ m.count ∷ []

-- a reference: its module's name, and its word
abbrev pub ref_words : Ref → List ℕ
ref_words r = r.name ∷ r.word ∷ []

-- 0 for a type or 1 for an id; the local and the global index
abbrev pub export_words : Export → List ℕ
export_words (a_type l g) = 0 ∷ l ∷ g ∷ []
export_words (anId l g) = 1 ∷ l ∷ g ∷ []

-- word i of the count words at a place
abbrev pub word_given : List ℕ → ℕ → ℕ → ℕ → Given
word_given s words count i = reply_given one (word_in s words count i)

abbrev pub inlinee_given : (ℕ → Sort) → List ℕ → List ℕ → Given
inlinee_given rule s o = step_given table_state_size (table_words inlinee_words) (inlinee_step rule s (walk_in o))

abbrev pub module_given : (ℕ → Sort) → List ℕ → List ℕ → Given
module_given rule s o = step_given table_state_size (table_words module_words) (import_step rule s (walk_in o))

abbrev pub ref_given : (ℕ → Sort) → List ℕ → ℕ → Given
ref_given rule s index = reply_given ref_words (resolve_import rule s index)

abbrev pub export_given : (ℕ → Sort) → List ℕ → List ℕ → Given
export_given rule s o = step_given table_state_size (table_words export_words) (export_step rule s (walk_in o))

abbrev pub count_given : (ℕ → Sort) → List ℕ → Given
count_given rule s = reply_given one (export_count rule s)

abbrev pub global_given : (ℕ → Sort) → List ℕ → ℕ → Given
global_given rule s local = reply_given one (resolve_export rule s local)

-- the list of the modules' places, with n slots, and the slots v after it
abbrev pub list_given : (ℕ → Sort) → List ℕ → ℕ → List ℕ → Given
list_given rule s n o = if_room refusal_size o (reply_given one (import_list rule s n)) short_given

abbrev pub places_left : (ℕ → Sort) → List ℕ → List ℕ → List ℕ → List ℕ
places_left rule s v o = if_room refusal_size o (places_after rule s v) v

abbrev pub listed_given : List ℕ → List ℕ → ℕ → Given
listed_given s v index = reply_given ref_words (resolve_listed s v index)

abbrev pub body_given : (ℕ → Sort) → List ℕ → Given
body_given rule s = reply_given span_words (export_body rule s)

abbrev pub export_at_given : List ℕ → ℕ → Given
export_at_given b i = reply_given export_words (export_at b i)

abbrev pub global_in_given : List ℕ → ℕ → Given
global_in_given b local = reply_given one (global_in b local)
