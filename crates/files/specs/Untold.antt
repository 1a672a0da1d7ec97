-- Nothing is lost in what the answers of this crate tell: no second one tells the same.
use Rattle.std.specs.Prelude.{◌≡◌, Option, Result}
use Rattle.walk.specs.Listing.{Answer, Reply}
use Rattle.refusal.specs.Told.{Told}
use Rattle.refusal.specs.Untold.{untold_result, untold_result_lem, untold_answer, untold_answer_lem}
use Rattle.refusal.specs.declared.Refusal.{Refusal}
use Rattle.table.specs.declared.TableWalk.{TableWalk}
use Rattle.checksums.specs.Entry.{Entry}
use Rattle.checksums.specs.Told.{told_one_entry}
use Rattle.checksums.specs.Untold.{untold_one_entry, untold_one_entry_lem}
use Rattle.checksums.specs.declared as entry
use Rattle.files.specs.Files.{File}
use Rattle.files.specs.declared as code
use Rattle.files.specs.Told.{told_one_file, told_file, told_info}

abbrev pub untold_one_file : File → code.File.File
untold_one_file f = record { index = f.index; entry = untold_one_entry f.info }

pub untold_one_file_lem : (f : code.File.File) → untold_one_file (told_one_file f) ≡ f
untold_one_file_lem f = λ i. record { index = f.index; entry = untold_one_entry_lem f.entry i }

abbrev pub untold_file : Answer TableWalk File Told → Result (Option (code.File.File × TableWalk)) Refusal
untold_file = untold_answer told_one_file untold_one_file untold_one_file_lem

pub untold_file_lem : (h : Result (Option (code.File.File × TableWalk)) Refusal) → untold_file (told_file h) ≡ h
untold_file_lem = untold_answer_lem told_one_file untold_one_file untold_one_file_lem

abbrev pub untold_info : Reply Entry Told → Result entry.Entry.Entry Refusal
untold_info = untold_result told_one_entry untold_one_entry untold_one_entry_lem

pub untold_info_lem : (h : Result entry.Entry.Entry Refusal) → untold_info (told_info h) ≡ h
untold_info_lem = untold_result_lem told_one_entry untold_one_entry untold_one_entry_lem
