-- What the answers of this crate tell. Source: document 01, "Refusal numbers", and the values that it names for each.
-- Definitions only; a reader must believe them.
use Rattle.std.specs.Prelude.{ℕ, Option, Result}
use Rattle.walk.specs.Listing.{Answer, Reply}
use Rattle.refusal.specs.Told.{Told}
use Rattle.refusal.specs.Answers.{told_result, told_answer}
use Rattle.refusal.specs.declared.Refusal.{Refusal}
use Rattle.checksums.specs.Entry.{Entry}
use Rattle.checksums.specs.declared as code
use Rattle.checksums.specs.declared.ChecksumKind.{ChecksumKind}
use Rattle.checksums.specs.declared.ChecksumKind.TheVariants as kind

-- cvinfo.h, `CV_SourceChksum_t`
abbrev pub told_kind : ChecksumKind → ℕ
told_kind kind.None = 0
told_kind kind.Md5 = 1
told_kind kind.Sha1 = 2
told_kind kind.Sha256 = 3

abbrev pub told_parsed : Result ChecksumKind Refusal → Reply ℕ Told
told_parsed = told_result told_kind

abbrev pub told_one_entry : code.Entry.Entry → Entry
told_one_entry e = record { name = e.name; kind = told_kind e.kind; start = e.start; len = e.len }

abbrev pub told_entry : Result (Option (code.Entry.Entry × ℕ)) Refusal → Answer ℕ Entry Told
told_entry = told_answer told_one_entry
