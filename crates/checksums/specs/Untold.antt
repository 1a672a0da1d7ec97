-- Nothing is lost in what the answers of this crate tell: no second one tells the same.
use Rattle.std.specs.Prelude.{ℕ, ◌≡◌, refl, List, [], ◌∷◌, get_or, Option, Result}
use Rattle.walk.specs.Listing.{Answer, Reply}
use Rattle.refusal.specs.Told.{Told}
use Rattle.refusal.specs.Untold.{untold_result, untold_result_lem, untold_answer, untold_answer_lem}
use Rattle.refusal.specs.declared.Refusal.{Refusal}
use Rattle.checksums.specs.Entry.{Entry}
use Rattle.checksums.specs.declared as code
use Rattle.checksums.specs.declared.ChecksumKind.{ChecksumKind}
use Rattle.checksums.specs.declared.ChecksumKind.TheVariants as kind
use Rattle.checksums.specs.Told.{told_kind, told_parsed, told_one_entry, told_entry}

abbrev kinds : List ChecksumKind
kinds = kind.None ∷ kind.Md5 ∷ kind.Sha1 ∷ kind.Sha256 ∷ []

abbrev pub untold_kind : ℕ → ChecksumKind
untold_kind k = get_or kinds k kind.None

pub untold_kind_lem : (k : ChecksumKind) → untold_kind (told_kind k) ≡ k
untold_kind_lem kind.None = refl
untold_kind_lem kind.Md5 = refl
untold_kind_lem kind.Sha1 = refl
untold_kind_lem kind.Sha256 = refl

abbrev pub untold_parsed : Reply ℕ Told → Result ChecksumKind Refusal
untold_parsed = untold_result told_kind untold_kind untold_kind_lem

pub untold_parsed_lem : (p : Result ChecksumKind Refusal) → untold_parsed (told_parsed p) ≡ p
untold_parsed_lem = untold_result_lem told_kind untold_kind untold_kind_lem

abbrev pub untold_one_entry : Entry → code.Entry.Entry
untold_one_entry e = record { name = e.name; kind = untold_kind e.kind; start = e.start; len = e.len }

pub untold_one_entry_lem : (e : code.Entry.Entry) → untold_one_entry (told_one_entry e) ≡ e
untold_one_entry_lem e = λ i. record { name = e.name; kind = untold_kind_lem e.kind i; start = e.start; len = e.len }

abbrev pub untold_entry : Answer ℕ Entry Told → Result (Option (code.Entry.Entry × ℕ)) Refusal
untold_entry = untold_answer told_one_entry untold_one_entry untold_one_entry_lem

pub untold_entry_lem : (h : Result (Option (code.Entry.Entry × ℕ)) Refusal) → untold_entry (told_entry h) ≡ h
untold_entry_lem = untold_answer_lem told_one_entry untold_one_entry untold_one_entry_lem
