-- Nothing is lost in what the answers of this crate tell: no second one tells the same.
use Rattle.std.specs.Prelude.{ℕ, ◌≡◌, refl, Option, None, Some, Result}
use Rattle.std.proofs.Common.{ap}
use Rattle.refusal.specs.Untold.{untold_answer, untold_answer_lem}
use Rattle.refusal.specs.declared.Refusal.{Refusal}
use Rattle.lines.specs.Told.{untold_header}
use Rattle.reading_record.specs.Item.{ToldColumns, columns_at, no_columns, ToldItem}
use Rattle.reading_record.specs.Item as item
use Rattle.reading_record.specs.Record.{ItemAnswer}
use Rattle.reading_record.specs.declared.Item.{Item}
use Rattle.reading_record.specs.declared.Item.TheVariants as code
use Rattle.reading_record.specs.declared.ItemWalk.{ItemWalk}
use Rattle.reading_record.specs.Told.{told_columns, told_one_item, told_item}

abbrev pub untold_columns : ToldColumns → Option ℕ
untold_columns (columns_at p) = Some p
untold_columns no_columns = None

pub untold_columns_lem : (c : Option ℕ) → untold_columns (told_columns c) ≡ c
untold_columns_lem (Some p) = refl
untold_columns_lem None = refl

abbrev pub untold_one_item : ToldItem → Item
untold_one_item (item.open_lines h) = code.OpenLines (untold_header h)
untold_one_item (item.block f n l c) = code.Block f n l (untold_columns c)
untold_one_item item.open_checksums = code.OpenChecksums
untold_one_item (item.checksum n k a len) = code.Checksum n k a len
untold_one_item (item.open_inlinees g) = code.OpenInlinees g
untold_one_item (item.inlinee i f l a n) = code.Inlinee i f l a n
untold_one_item item.open_imports = code.OpenImports
untold_one_item (item.imports m a n) = code.Module m a n
untold_one_item item.open_exports = code.OpenExports
untold_one_item (item.exports p) = code.Pair p.local p.global
untold_one_item (item.opaque k a len) = code.Opaque k a len

pub untold_one_item_lem : (i : Item) → untold_one_item (told_one_item i) ≡ i
untold_one_item_lem (code.OpenLines h) = refl
untold_one_item_lem (code.Block f n l c) = ap (code.Block f n l) (untold_columns_lem c)
untold_one_item_lem code.OpenChecksums = refl
untold_one_item_lem (code.Checksum n k a len) = refl
untold_one_item_lem (code.OpenInlinees g) = refl
untold_one_item_lem (code.Inlinee i f l a n) = refl
untold_one_item_lem code.OpenImports = refl
untold_one_item_lem (code.Module m a n) = refl
untold_one_item_lem code.OpenExports = refl
untold_one_item_lem (code.Pair l g) = refl
untold_one_item_lem (code.Opaque k a len) = refl

abbrev pub untold_item : ItemAnswer → Result (Option (Item × ItemWalk)) Refusal
untold_item = untold_answer told_one_item untold_one_item untold_one_item_lem

pub untold_item_lem : (h : Result (Option (Item × ItemWalk)) Refusal) → untold_item (told_item h) ≡ h
untold_item_lem = untold_answer_lem told_one_item untold_one_item untold_one_item_lem
