-- THE STATEMENT of the table: each row holds, by computation.
use Rattle.std.specs.Prelude.{refl}
use Rattle.word.specs.Word.{u16_at, u32_at, le32}
use Rattle.walk.specs.Listing.{run, all}
use Rattle.walk.specs.First.{first_in, first}
use Rattle.walk.specs.Pick.{first_by, last_by, only}
use Rattle.area.specs.Parts.{bite, parts}
use Rattle.kinds.specs.Kind.{crate_rule}
use Rattle.area.specs.Subs.{placed, subs_from, crate_step}
use Rattle.body.specs.Words.{words_in}
use Rattle.body.specs.Imports.{module_bite, modules}
use Rattle.table.specs.Collect.{collected, of_nth}
use Rattle.lines.specs.Lines.{headed, count_of}
use Rattle.lines.specs.Blocks.{block_at}
use Rattle.lines.specs.Slots.{named}
use Rattle.slot_key.specs.Sort.{sort_by}
use Rattle.body_list.specs.BodyList.{listed}
use Rattle.line_record.specs.Flags.{line_kind, is_marker}
use Rattle.line_record.specs.EndLine.{end_from}
use Rattle.line_record.specs.Record.{entry_of}
use Rattle.line_step.specs.Turn.{between_turn, turn_of}
use Rattle.line_walk.specs.Next.{turn_bound, next_of}
use Rattle.symbol_lines.specs.Symbol.{numbered}
use Rattle.checksums.specs.Entry.{entry_at}
use Rattle.files.specs.Files.{files_sub, file_step, file_at, checksum_part, file_in}
use Rattle.inlinees.specs.Inlinees.{inlinee_step}
use Rattle.imports.specs.Imports.{if_ref}
use Rattle.exports.specs.Exports.{ascends, global_of, lookup}
use Rattle.sheet.specs.Sheet.{Holds, done, ◌and◌, rows}

pub sheet : Holds rows
unfolding rows u16_at u32_at le32 run all first_in first first_by last_by only bite parts crate_rule placed subs_from crate_step words_in module_bite modules collected of_nth headed count_of block_at named sort_by listed line_kind is_marker end_from entry_of between_turn turn_of turn_bound next_of numbered entry_at files_sub file_step file_at checksum_part file_in inlinee_step if_ref ascends global_of lookup
sheet =
    refl and refl and refl and refl and refl and refl and refl and refl and refl and refl and refl and refl and refl and refl and refl and refl
    and refl and refl and refl and refl and refl and refl and refl and refl and refl and refl and refl and refl and refl and refl and refl and refl
    and refl and refl and refl and refl and refl and refl and refl and refl and refl and refl and refl and refl and refl and refl and refl and done
