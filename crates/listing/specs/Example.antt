-- Document 01's example: the text of its area, computed.
use Rattle.std.specs.Prelude.{ℕ, ◌≡◌, refl, List, [], ◌∷◌, ◌++◌}
use Rattle.word.specs.Word.{u16_at, u32_at, le16, le32}
use Rattle.walk.specs.Listing.{run, all}
use Rattle.walk.specs.Pick.{last_by, only}
use Rattle.area.specs.Parts.{bite, parts}
use Rattle.kinds.specs.Kind.{LINES, FILE_CHECKSUMS, crate_rule}
use Rattle.area.specs.Subs.{placed, subs_from}
use Rattle.body.specs.Words.{words_in}
use Rattle.body.specs.Lines.{block_bite, blocks}
use Rattle.table.specs.Table.{spot_in}
use Rattle.checksums.specs.Entry.{kept_of, closed_as, entry_at, entries_from}
use Rattle.lines.specs.Lines.{headed, count_of}
use Rattle.files.specs.Files.{files_sub, part_of}
use Rattle.slot_key.specs.Sort.{ins_by, sort_by}
use Rattle.body_list.specs.BodyList.{listed}
use Rattle.order.specs.Order.{key_of}
use Rattle.line_record.specs.Flags.{line_kind, is_marker}
use Rattle.line_record.specs.EndLine.{end_from}
use Rattle.line_record.specs.Record.{entry_of, shorter_of, closed_at}
use Rattle.line_walk.specs.Meaning.{lines_then, blocks_then, body_then, events_of, settle_one, settle}
use Rattle.text.specs.Text.{ascii, glyph, numeral_in, numeral, hex_bytes}
use Rattle.printed.specs.Printed.{bytes_text}
use Rattle.listing.specs.Dump.{closing, sheet_lines, sheet_bytes, text_of}

-- a checksum body of one MD5 entry (name 1, bytes 00 to 0f, two zero bytes)
abbrev pub checksums : List ℕ
checksums =
    le32 FILE_CHECKSUMS ++ (le32 24 ++ (le32 1 ++ (16 ∷ 1 ∷ 0 ∷ 1 ∷ 2 ∷ 3 ∷ 4 ∷ 5 ∷ 6 ∷ 7 ∷ 8 ∷ 9 ∷ 10 ∷ 11 ∷ 12 ∷ 13 ∷ 14 ∷ 15 ∷ 0 ∷ 0 ∷ [])))

-- lines at section 1, offset 0x1000, flags 0, code size 0x20, one block of file 0 with (0, 0x8000000a) and (8, 0x8000000c)
abbrev pub lines : List ℕ
lines =
    le32 LINES ++ (le32 40 ++ (le32 0x1000 ++ (le16 1 ++ (le16 0 ++ (le32 0x20 ++ (le32 0 ++ (le32 2 ++ (le32 28
    ++ (le32 0 ++ (le32 0x8000000a ++ (le32 8 ++ le32 0x8000000c)))))))))))

pub example : text_of crate_rule (checksums ++ lines)
    ≡ ascii "c13 80 bytes\nsub f4 24\nsub f2 40\nfile 0 name 1 md5 000102030405060708090a0b0c0d0e0f\nline 1:1000 len 8 file 0 10-10 - st @40\nline 1:1008 len 24 file 0 12-12 - st @40\nend\n"
unfolding le16 le32 u16_at u32_at run all last_by only bite parts crate_rule placed subs_from words_in block_bite blocks spot_in kept_of closed_as entry_at entries_from headed count_of files_sub part_of ins_by sort_by listed key_of line_kind is_marker end_from entry_of shorter_of closed_at lines_then blocks_then body_then events_of settle_one settle ascii glyph numeral_in numeral hex_bytes bytes_text closing sheet_lines sheet_bytes
example = refl
