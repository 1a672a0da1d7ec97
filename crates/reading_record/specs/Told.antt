-- What the answers of this crate tell. Source: document 01, "Refusal numbers", and the values that it names for each.
-- Definitions only; a reader must believe them.
use Rattle.std.specs.Prelude.{ℕ, Option, None, Some, Result}
use Rattle.refusal.specs.Answers.{told_answer}
use Rattle.refusal.specs.declared.Refusal.{Refusal}
use Rattle.lines.specs.Told.{told_header}
use Rattle.reading_record.specs.Item.{ToldColumns, columns_at, no_columns, ToldItem}
use Rattle.reading_record.specs.Item as item
use Rattle.reading_record.specs.Record.{ItemAnswer}
use Rattle.reading_record.specs.declared.Item.{Item}
use Rattle.reading_record.specs.declared.Item.TheVariants as code
use Rattle.reading_record.specs.declared.ItemWalk.{ItemWalk}

abbrev pub told_columns : Option ℕ → ToldColumns
told_columns (Some p) = columns_at p
told_columns None = no_columns

abbrev pub told_one_item : Item → ToldItem
told_one_item (code.OpenLines h) = item.open_lines (told_header h)
told_one_item (code.Block f n l c) = item.block f n l (told_columns c)
told_one_item code.OpenChecksums = item.open_checksums
told_one_item (code.Checksum n k a len) = item.checksum n k a len
told_one_item (code.OpenInlinees g) = item.open_inlinees g
told_one_item (code.Inlinee i f l a n) = item.inlinee i f l a n
told_one_item code.OpenImports = item.open_imports
told_one_item (code.Module m a n) = item.imports m a n
told_one_item code.OpenExports = item.open_exports
told_one_item (code.Pair l g) = item.exports (record { local = l; global = g })
told_one_item (code.Opaque k a len) = item.opaque k a len

abbrev pub told_item : Result (Option (Item × ItemWalk)) Refusal → ItemAnswer
told_item = told_answer told_one_item
