-- What each call on files gives, by the rule of kinds. s is the area, b a checksum body that is lent alone, and o the lent words, whose first are a
-- walk's state. Source: docs/DECISIONS.md, 32.
-- Definitions only; a reader must believe them.
use Rattle.std.specs.Prelude.{ℕ, List, length}
use Rattle.kinds.specs.Kind.{Sort}
use Rattle.files.specs.Files.{file_step, file_at, checksum_part, file_in}
use Rattle.answer_words.specs.Given.{Given, step_given, reply_given, span_words}
use Rattle.answer_words.specs.TableWords.{table_state_size, walk_in, walk_words, over_table, table_words}
use Rattle.answer_words.specs.FillGiven.{fill_given, fill_left}
use Rattle.many_files.specs.Files.{info_words, file_words, files_of}

abbrev pub file_given : (ℕ → Sort) → List ℕ → List ℕ → Given
file_given rule s o = step_given table_state_size (table_words file_words) (file_step rule s (walk_in o))

-- many files, with n words lent for them
abbrev pub files_given : (ℕ → Sort) → List ℕ → ℕ → List ℕ → Given
files_given rule s n o = fill_given table_state_size over_table walk_words o (files_of rule s n (walk_in o))

-- the words x lent for files, after the call for many
abbrev pub files_left : (ℕ → Sort) → List ℕ → List ℕ → List ℕ → List ℕ
files_left rule s x o = fill_left table_state_size file_words o x (files_of rule s (length x) (walk_in o))

abbrev pub info_given : (ℕ → Sort) → List ℕ → ℕ → Given
info_given rule s index = reply_given info_words (file_at rule s index)

-- where the checksum body stands
abbrev pub checksums_given : (ℕ → Sort) → List ℕ → Given
checksums_given rule s = reply_given span_words (checksum_part rule s)

abbrev pub file_in_given : List ℕ → ℕ → Given
file_in_given b index = reply_given info_words (file_in b index)
