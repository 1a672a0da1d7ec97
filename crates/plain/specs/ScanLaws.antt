-- The records of a body of each kind, for the one loop over all of them: how far one goes, whether a body is such records to its end, and that a
-- scan of each kind goes by the laws of `Scan`.
use Rattle.std.specs.Prelude.{ℕ, ◌≡◌, List, Bool}
use Rattle.std.proofs.Common.{sym, ap, ◌∙◌}
use Rattle.body.specs.Inlinees.{inlinee_bite}
use Rattle.body.specs.InlineesLaws.{inlinee_sound, inlinee_ended}
use Rattle.body.specs.Imports.{module_bite}
use Rattle.body.specs.ImportsLaws.{module_sound, module_ended}
use Rattle.plain.specs.Plain.{plain_block, plain_checksum, wholly}
use Rattle.plain.specs.PlainLaws.{plain_block_sound, plain_block_ended, plain_checksum_sound, plain_checksum_ended}
use Rattle.plain.specs.WalkLaws.{stride, Scan, scan}
use Rattle.plain.specs.declared.Records.{Records}
use Rattle.plain.specs.declared.Records.TheVariants as records

abbrev pub stride_of : Records → List ℕ → ℕ
stride_of (records.Blocks c) s = stride s (plain_block c s)
stride_of records.Checksums s = stride s (plain_checksum s)
stride_of (records.Inlinees x) s = stride s (inlinee_bite x s)
stride_of records.Modules s = stride s (module_bite s)

abbrev pub wholly_of : Records → List ℕ → Bool
wholly_of (records.Blocks c) s = wholly (plain_block c) s
wholly_of records.Checksums s = wholly plain_checksum s
wholly_of (records.Inlinees x) s = wholly (inlinee_bite x) s
wholly_of records.Modules s = wholly module_bite s

pub scans : (r : Records) (s : List ℕ) (i : ℕ) → Scan (stride_of r) (wholly_of r) s i
scans (records.Blocks c) = scan (plain_block c) (plain_block_sound c) (plain_block_ended c)
scans records.Checksums = scan plain_checksum plain_checksum_sound plain_checksum_ended
scans (records.Inlinees x) = scan (inlinee_bite x) (inlinee_sound x) (inlinee_ended x)
scans records.Modules = scan module_bite module_sound module_ended

-- the stride of records that are known
pub stride_known : {r q : Records} (s : List ℕ) (n : ℕ) → r ≡ q → n ≡ stride_of q s → n ≡ stride_of r s
stride_known s n e h = h ∙ ap (λ (x : Records). stride_of x s) (sym e)
