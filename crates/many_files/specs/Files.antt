-- A file in words, and many files of an area at once: as many as the lent words have room for, at their start. Where the first step gives no file
-- the answer is that step's, and nothing is put. Where there is a file and no room for one it is refused with 10. Source: docs/DECISIONS.md, 32, 36.
-- Definitions only; a reader must believe them.
use Rattle.std.specs.Prelude.{ℕ, ◌+◌, List, [], ◌∷◌}
use Rattle.walk.specs.Listing.{Answer}
use Rattle.refusal.specs.Told.{Told}
use Rattle.kinds.specs.Kind.{Sort}
use Rattle.table.specs.declared.TableWalk.{TableWalk}
use Rattle.files.specs.Files.{File, file_step}
use Rattle.answer_words.specs.Fill.{fill_of}
use Rattle.checksums.specs.Entry.{Entry}

abbrev pub info_size : ℕ
info_size = 4

abbrev pub file_size : ℕ
file_size = 1 + info_size

-- what is known of a file: its name, its checksum's kind, and the place and the length of the bytes; in front of these its index
abbrev pub info_words : Entry → List ℕ
info_words f = f.name ∷ f.kind ∷ f.start ∷ f.len ∷ []

abbrev pub file_words : File → List ℕ
file_words f = f.index ∷ info_words f.info

-- the files of the area s from the walk w on, with n words lent
abbrev pub files_of : (ℕ → Sort) → List ℕ → ℕ → TableWalk → Answer TableWalk (List File) Told
files_of rule s n w = fill_of file_size (file_step rule s) n w
