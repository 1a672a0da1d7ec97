-- The starred lines of document 01's sheet, in one table. A row has what a call answers, as the definition says that the call's contract is an equation
-- with, and the answer that document 01 writes; the comment behind a row names the call. Source: document 01, "Sheet lines to try".
-- Definitions only; no public contract cites them.
use Rattle.std.specs.Prelude.{ℕ, ◌≡◌, true, false, List, [], ◌∷◌, ◌++◌, None}
use Rattle.std.proofs.Math.Option as option
use Rattle.word.specs.Word.{le32, header}
use Rattle.walk.specs.Listing.{gives, none, refuses, Reply, gave, nothing, refused}
use Rattle.walk.specs.Pick.{map_reply}
use Rattle.refusal.specs.Told.{Told}
use Rattle.kinds.specs.Kind.{CROSS_SCOPE_IMPORTS, IGNORE, crate_rule}
use Rattle.area.specs.Subs.{step_at, crate_step}
use Rattle.find.specs.Find.{same}
use Rattle.table.specs.declared.TableWalk.TheVariants as table
use Rattle.lines.specs.Lines.{count_lines}
use Rattle.lines.specs.Blocks.{block_at}
use Rattle.order.specs.Order.{ordered, slots_after}
use Rattle.line_record.specs.declared.EndLines.TheVariants.{Crate}
use Rattle.line_record.specs.declared.LineSource.{LineSource}
use Rattle.line_record.specs.Record.{no_position, column_if, entry_of}
use Rattle.line_record.specs.Told.{ToldLine, told_record}
use Rattle.line_step.specs.declared.LineWalk.{LineWalk}
use Rattle.line_step.specs.declared.LineWalk.TheVariants as line
use Rattle.line_walk.specs.Next.{next_of}
use Rattle.symbol_lines.specs.Symbol.{symbol_walk}
use Rattle.files.specs.Files.{file_step, file_at}
use Rattle.inlinees.specs.Inlinees.{inlinee_step}
use Rattle.imports.specs.Imports.{import_step, resolve_import}
use Rattle.exports.specs.Exports.{export_step, export_count, resolve_export}
use Rattle.reading_record.specs.declared.ItemWalk.TheVariants as item
use Rattle.reading_walk.specs.Step.{item_step}

-- ---- a table

-- what is answered, and what document 01 writes
pub data Row : Type 1 where
  row : {A : Type 0} → A → A → Row

-- in each row the two are equal
infixr 20 ◌and◌
pub data Holds : List Row → Type 1 where
  done : Holds []
  ◌and◌ : {A : Type 0} {x y : A} {rs : List Row} → x ≡ y → Holds rs → Holds (row x y ∷ rs)

-- ---- words of its rows

-- a refusal by its number, which carries nothing, and one that carries k
abbrev pub number : ℕ → Told
number n = record { number = n; carries = [] }

abbrev pub number_on : ℕ → ℕ → Told
number_on n k = record { number = n; carries = k ∷ [] }

-- the walk over no lines
abbrev pub no_lines : LineWalk
no_lines = line.Between Crate (record { slot = 0; left = 0; scan = 0; held = None })

abbrev pub seven : List ℕ
seven = 0 ∷ 0 ∷ 0 ∷ 0 ∷ 0 ∷ 0 ∷ 0 ∷ []

-- of a section, from its start on, without columns, of no body, end lines by the crate's reading
abbrev pub source : LineSource
source = record { section = 1; base = 0; file = 0; columns = false; how = Crate; body = no_position }

-- what an entry says, its record by its numbers
abbrev pub entry_told : ℕ → Reply ToldLine Told
entry_told flags = map_reply told_record same (entry_of source 0 flags (column_if false 0))

-- the record of lines 10 to 10, Expression
abbrev pub ten_to_ten : ToldLine
ten_to_ten =
    record { section = 1; offset = 0; length = option.none; file = 0; start_line = 10; end_line = 10; start_column = option.none; end_column = option.none; kind = 0; body = no_position }

-- a line body with a header of zeros, and behind it a block of file 0 with this number of lines and this size
abbrev pub one_block : ℕ → ℕ → List ℕ → List ℕ
one_block count size bytes = le32 0 ++ (le32 0 ++ (le32 0 ++ (le32 0 ++ (le32 count ++ (le32 size ++ bytes)))))

abbrev pub aLine : List ℕ
aLine = header 0 0x8000_000a

-- an area with imports name 5, words 0x1003, 0x1004
abbrev pub two_words : List ℕ
two_words = header CROSS_SCOPE_IMPORTS 16 ++ (header 5 2 ++ header 0x1003 0x1004)

-- ---- THE TABLE

unfoldable pub rows : List Row
rows =
    -- empty area: everything empty
    row (step_at crate_rule [] 0) none  -- area::sub_at
    ∷ row (crate_step [] 0) (record { answer = none; behind = 0 })  -- area::SubWalk::step
    ∷ row (count_lines crate_rule []) (gave 0)  -- lines::count_lines
    ∷ row (ordered crate_rule [] 1) (gave 0)  -- order::order_list
    ∷ row (slots_after crate_rule [] (7 ∷ [])) (7 ∷ [])  -- order::order_list, its slots
    ∷ row (next_of crate_rule [] [] (line.New Crate)) none  -- line_walk::next_line
    ∷ row (symbol_walk Crate crate_rule [] [] 1 0x1000) (gave no_lines)  -- symbol_lines::lines_for_symbol
    ∷ row (next_of crate_rule [] [] no_lines) none  -- line_walk::next_line, of that walk
    ∷ row (file_step crate_rule [] table.New) none  -- files::next_file
    ∷ row (file_at crate_rule [] 0) (refused (number_on 18 0))  -- files::file_at
    ∷ row (inlinee_step crate_rule [] table.New) none  -- inlinees::next_inlinee
    ∷ row (import_step crate_rule [] table.New) none  -- imports::next_import
    ∷ row (resolve_import crate_rule [] 0x8000_0000) (refused (number_on 6 0x8000_0000))  -- imports::resolve_import
    ∷ row (export_step crate_rule [] table.New) none  -- exports::next_export
    ∷ row (export_count crate_rule []) (gave 0)  -- exports::export_count
    ∷ row (resolve_export crate_rule [] 7) nothing  -- exports::resolve_export
    ∷ row (item_step crate_rule [] (item.Between 0)) none  -- reading_walk::next_item
    -- 7 bytes: 1
    ∷ row (step_at crate_rule seven 0) (refuses (number 1))  -- area::sub_at
    ∷ row (crate_step seven 0) (record { answer = refuses (number 1); behind = 0 })  -- area::SubWalk::step
    ∷ row (count_lines crate_rule seven) (refused (number 1))  -- lines::count_lines
    ∷ row (ordered crate_rule seven 1) (refused (number 1))  -- order::order_list
    ∷ row (slots_after crate_rule seven (7 ∷ [])) (7 ∷ [])  -- order::order_list, its slots
    ∷ row (next_of crate_rule seven [] (line.New Crate)) (refuses (number 1))  -- line_walk::next_line
    ∷ row (symbol_walk Crate crate_rule seven [] 1 0x1000) (refused (number 1))  -- symbol_lines::lines_for_symbol
    ∷ row (file_step crate_rule seven table.New) (refuses (number 1))  -- files::next_file
    ∷ row (file_at crate_rule seven 0) (refused (number 1))  -- files::file_at
    ∷ row (inlinee_step crate_rule seven table.New) (refuses (number 1))  -- inlinees::next_inlinee
    ∷ row (import_step crate_rule seven table.New) (refuses (number 1))  -- imports::next_import
    ∷ row (resolve_import crate_rule seven 0x8000_0000) (refused (number 1))  -- imports::resolve_import
    ∷ row (export_step crate_rule seven table.New) (refuses (number 1))  -- exports::next_export
    ∷ row (export_count crate_rule seven) (refused (number 1))  -- exports::export_count
    ∷ row (resolve_export crate_rule seven 7) (refused (number 1))  -- exports::resolve_export
    ∷ row (item_step crate_rule seven (item.Between 0)) (refuses (number 1))  -- reading_walk::next_item
    -- kind 0xf0, length 0: 2; length 4, no body: 1. 0x80000000, length 4, its body: no subsections
    ∷ row (step_at crate_rule (header 0xf0 0) 0) (refuses (number_on 2 0xf0))  -- area::sub_at
    ∷ row (step_at crate_rule (header 0xf0 4) 0) (refuses (number 1))  -- area::sub_at
    ∷ row (step_at crate_rule (header IGNORE 4 ++ le32 0x0403_0201) 0) none  -- area::sub_at
    -- flags 0x0c00000a: lines 10 to 10, Expression. 0x80feefee: marker
    ∷ row (entry_told 0x0c00_000a) (gave ten_to_ten)  -- line_record::entry_of
    ∷ row (entry_told 0x80fe_efee) nothing  -- line_record::entry_of
    -- block size 12, no lines: accepted
    ∷ row (block_at false (one_block 0 12 []) 12) (gives (record { file = 0; count = 0; start = 24 }) 24)  -- lines::block_at
    -- 19 with one line: 7; 20: accepted, but 7 with columns; 24 then accepted
    ∷ row (block_at false (one_block 1 19 aLine) 12) (refuses (number 7))  -- lines::block_at
    ∷ row (block_at false (one_block 1 20 aLine) 12) (gives (record { file = 0; count = 1; start = 24 }) 32)  -- lines::block_at
    ∷ row (block_at true (one_block 1 20 aLine) 12) (refuses (number 7))  -- lines::block_at
    ∷ row (block_at true (one_block 1 24 (aLine ++ le32 0)) 12) (gives (record { file = 0; count = 1; start = 24 }) 36)  -- lines::block_at
    -- imports: 0x80000001 gives (5, 0x1004); 0x80000002 and 0x80100000 give 6; 1 gives 5
    ∷ row (resolve_import crate_rule two_words 0x8000_0001) (gave (record { name = 5; word = 0x1004 }))  -- imports::resolve_import
    ∷ row (resolve_import crate_rule two_words 0x8000_0002) (refused (number_on 6 0x8000_0002))  -- imports::resolve_import
    ∷ row (resolve_import crate_rule two_words 0x8010_0000) (refused (number_on 6 0x8010_0000))  -- imports::resolve_import
    ∷ row (resolve_import crate_rule two_words 1) (refused (number_on 5 1))  -- imports::resolve_import
    ∷ []
