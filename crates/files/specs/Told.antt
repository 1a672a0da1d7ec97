-- What the answers of this crate tell. Source: document 01, "Refusal numbers", and the values that it names for each.
-- Definitions only; a reader must believe them.
use Rattle.std.specs.Prelude.{Option, Result}
use Rattle.walk.specs.Listing.{Answer, Reply}
use Rattle.refusal.specs.Told.{Told}
use Rattle.refusal.specs.Answers.{told_result, told_answer}
use Rattle.refusal.specs.declared.Refusal.{Refusal}
use Rattle.table.specs.declared.TableWalk.{TableWalk}
use Rattle.checksums.specs.Entry.{Entry}
use Rattle.checksums.specs.Told.{told_one_entry}
use Rattle.checksums.specs.declared as entry
use Rattle.files.specs.Files.{File}
use Rattle.files.specs.declared as code

abbrev pub told_one_file : code.File.File → File
told_one_file f = record { index = f.index; info = told_one_entry f.entry }

abbrev pub told_file : Result (Option (code.File.File × TableWalk)) Refusal → Answer TableWalk File Told
told_file = told_answer told_one_file

abbrev pub told_info : Result entry.Entry.Entry Refusal → Reply Entry Told
told_info = told_result told_one_entry
