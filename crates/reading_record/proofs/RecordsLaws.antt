-- The records of a body, from a place on: one step of them, and that with words and bytes in place of where they stand they are what the full
-- reading has of the body.
use Rattle.std.specs.Prelude.{ℕ, ◌+◌, ◌-◌, ◌*◌, ◌≤◌, ◌≡◌, List, Bool, length, take, drop, get_or}
use Rattle.std.proofs.Math.Path.{refl, sym, ap}
use Rattle.std.proofs.Common.{◌∙◌, arith, add_assoc}
use Rattle.std.proofs.Math.Bool.{true, false}
use Rattle.word.specs.Word.{u32_at}
use Rattle.word.specs.PartLaws.{part_bytes}
use Rattle.walk.specs.Cases.{tests}
use Rattle.walk.specs.Listing.{Listing, mapped, on_move, moved, Answer, gives, none, refuses}
use Rattle.table.specs.WholeLaws.{mapped_is}
use Rattle.table.specs.CollectLaws.{mapped_mapped}
use Rattle.table.specs.WordsLaws.{words_part}
use Rattle.refusal.specs.Told.{Told}
use Rattle.find.specs.Find.{same}
use Rattle.body.specs.Words.{words_in}
use Rattle.body.specs.Lines.{line_head_size, line_head, columned, columns_of, line_bytes, blocks}
use Rattle.body.specs.Checksums.{checksums}
use Rattle.body.specs.Inlinees.{extended, inlinees}
use Rattle.body.specs.Imports.{modules}
use Rattle.body.specs.Exports.{pairs}
use Rattle.lines.specs.Blocks.{LineBlock, block_at, blocks_from, worded}
use Rattle.lines.specs.BlocksLaws.{from_step, blocks_inside, blocks_are}
use Rattle.checksums.specs.Entry.{Entry, entry_at, entries_from}
use Rattle.checksums.specs.EntryLaws.{checksum_of, entry_of, entries_as, entries_step}
use Rattle.inlinees.specs.Inlinees.{SourceLine, entry_place, source_line_at, source_lines_from, inlinee_spelt, inlinees_of}
use Rattle.inlinees.specs.SourceLineLaws.{In, lines_in, lines_step, lines_mean}
use Rattle.imports.specs.Imports.{ModuleAt, module_of, in_area, module_at, modules_from}
use Rattle.imports.specs.ImportsLaws.{modules_placed, modules_right}
use Rattle.exports.specs.Exports.{pair_at, pairs_from}
use Rattle.exports.specs.ExportsLaws.{pairs_from_lem, pairs_right}
use Rattle.reading.specs.Reading.{Items, each}
use Rattle.reading.specs.Reading as reading
use Rattle.reading_record.specs.Item.{ToldItem, columns_in, item_of, exports}
use Rattle.reading_record.specs.Record.{as_item, with_columns, columns_from, block_item, checksum_item, inlinee_item, module_item, record_at}
use Rattle.reading_record.specs.declared.TypedBody.{TypedBody}
use Rattle.reading_record.specs.declared.TypedBody.TheVariants as typed

-- from a place of the body b on, which stands at start
abbrev pub records_from : TypedBody → List ℕ → ℕ → ℕ → Listing ToldItem Told
records_from typed.Lines b start at = mapped (block_item b start) same (blocks_from (with_columns b) b at)
records_from typed.Checksums b start at = mapped (checksum_item b start) same (entries_from b at)
records_from typed.Inlinees b start at = mapped (inlinee_item start) same (source_lines_from b at)
records_from typed.Imports b start at = mapped (module_item start) same (modules_from b at)
records_from typed.Exports b start at = mapped exports same (pairs_from b at)

-- one step of them

module _ {B : Type 0} (f : B → ToldItem) (list : ℕ → Listing B Told) where
  as_items : (l : Listing B Told) (a : Answer ℕ B Told) → l ≡ on_move list (moved a)
      → mapped f same l ≡ on_move (λ (q : ℕ). mapped f same (list q)) (moved (as_item f a))
  as_items l (gives r x) e = ap (mapped f same) e
  as_items l none e = ap (mapped f same) e
  as_items l (refuses t) e = ap (mapped f same) e

pub records_step : (k : TypedBody) (b : List ℕ) (start p : ℕ) → records_from k b start p ≡ on_move (records_from k b start) (moved (record_at k b start p))
records_step typed.Lines b start p =
    as_items (block_item b start) (blocks_from (with_columns b) b) (blocks_from (with_columns b) b p) (block_at (with_columns b) b p) (from_step (with_columns b) b p)
records_step typed.Checksums b start p = as_items (checksum_item b start) (entries_from b) (entries_from b p) (entry_at b p) (entries_step b p)
records_step typed.Inlinees b start p = as_items (inlinee_item start) (source_lines_from b) (source_lines_from b p) (source_line_at b p) (lines_step b p)
records_step typed.Imports b start p = as_items (module_item start) (modules_from b) (modules_from b p) (module_at b p) (modules_right b p)
records_step typed.Exports b start p = as_items exports (pairs_from b) (pairs_from b p) (pair_at b p) (pairs_right b p)

-- ---- what they mean

-- the records of a body b as the reading has them, and where the first stands
abbrev pub meant : TypedBody → List ℕ → Items
meant typed.Lines b = each reading.block (blocks (columned (line_head b).flags) (drop line_head_size b))
meant typed.Checksums b = each reading.checksum (checksums b)
meant typed.Inlinees b = each reading.inlinee (inlinees (extended (u32_at b 0)) (drop 4 b))
meant typed.Imports b = each reading.imports (modules b)
meant typed.Exports b = each reading.exports (pairs b)

abbrev pub first_at : TypedBody → ℕ
first_at typed.Lines = line_head_size
first_at typed.Checksums = 0
first_at typed.Inlinees = 4
first_at typed.Imports = 0
first_at typed.Exports = 0

-- items with words and bytes in place of where they stand in s
abbrev pub shown : List ℕ → Listing ToldItem Told → Items
shown s = mapped (item_of s) same

module _ (s : List ℕ) (start : ℕ) (b : List ℕ) (here : b ≡ take (length b) (drop start s)) where
  bytes : (p n : ℕ) → p + n ≤ length b → take n (drop (start + p) s) ≡ take n (drop p b)
  bytes p n h = part_bytes s start (length b) p n h ∙ ap (λ (x : List ℕ). take n (drop p x)) (sym here)

  words : (p n : ℕ) → p + 4 * n ≤ length b → words_in n (drop (start + p) s) ≡ words_in n (drop p b)
  words p n h = words_part s start (length b) p n h ∙ ap (λ (x : List ℕ). words_in n (drop p x)) (sym here)

  column_words_lem : (c : Bool) (p n : ℕ) → p + 4 * columns_of c n ≤ length b → columns_in s n (columns_from c (start + p)) ≡ words_in (columns_of c n) (drop p b)
  unfolding words_in
  column_words_lem true p n h = words p n h
  column_words_lem false p n h = refl

  block_means : (k : LineBlock) → k.start + line_bytes (with_columns b) k.count ≤ length b
      → item_of s (block_item b start k) ≡ reading.block (worded (with_columns b) b k)
  block_means k h =
      let c = with_columns b in
      let n = k.count in
      let q : columns_from c (start + k.start + 8 * n) ≡ columns_from c (start + (k.start + 8 * n)) = ap (columns_from c) (add_assoc start k.start (8 * n)) in
      let ls = words k.start (2 * n) (omega arith) in
      let cs = ap (columns_in s n) q ∙ column_words_lem c (k.start + 8 * n) n (omega arith) in
      λ i. reading.block (record { file = k.file; lines = ls i; columns = cs i })

  checksum_means : (p : ℕ) → p + 6 + get_or b (p + 4) 0 ≤ length b → item_of s (checksum_item b start (entry_of b p)) ≡ reading.checksum (checksum_of b p)
  checksum_means p h =
      let n : p + 6 - 2 ≡ p + 4 = omega arith in
      λ i. reading.checksum (record {
        name = u32_at b p;
        kind = get_or b (p + 5) 0;
        bytes = (ap (λ (k : ℕ). take (get_or b k 0) (drop (start + (p + 6)) s)) n ∙ bytes (p + 6) (get_or b (p + 4) 0) h) i;
      })

  inlinee_means : (e : SourceLine) → In (length b) e → item_of s (inlinee_item start e) ≡ reading.inlinee (inlinee_spelt b e)
  inlinee_means e h =
      λ i. reading.inlinee (record { inlinee = e.inlinee; file = e.file; line = e.line; extra = words e.extra e.count h i })

  -- the place behind the signature, at 4, is where the first entry is looked for
  inlinees_here : 4 ≤ length b → mapped (inlinee_spelt b) same (source_lines_from b 4) ≡ inlinees (extended (u32_at b 0)) (drop 4 b)
  unfolding source_line_at entry_place inlinees_of
  inlinees_here h =
      ap (mapped (inlinee_spelt b) same) (lines_step b 4 ∙ sym (lines_step b 0)) ∙ lines_mean b ∙ simp tests

  modules_here : mapped (λ (m : ModuleAt). module_of s (in_area start m)) same (modules_from b 0) ≡ modules b
  modules_here =
      rw here (modules_placed s start (length b) 0 (omega arith))

  pub records_mean : (k : TypedBody) → first_at k ≤ length b → shown s (records_from k b start (first_at k)) ≡ meant k b
  records_mean typed.Lines h =
      let c = with_columns b in
      let l = blocks_from c b line_head_size in
      mapped_is (λ (k : LineBlock). k.start + line_bytes c k.count ≤ length b) (block_item b start) (item_of s) (λ (k : LineBlock). reading.block (worded c b k)) block_means l (blocks_inside c b 12)
      ∙ sym (mapped_mapped reading.block (worded c b) l)
      ∙ ap (each reading.block) (blocks_are c b line_head_size h)
  records_mean typed.Checksums h =
      mapped_mapped (item_of s) (checksum_item b start) (entries_from b 0) ∙ entries_as b (λ (e : Entry). item_of s (checksum_item b start e)) reading.checksum checksum_means
  records_mean typed.Inlinees h =
      let l = source_lines_from b 4 in
      mapped_is (In (length b)) (inlinee_item start) (item_of s) (λ (e : SourceLine). reading.inlinee (inlinee_spelt b e)) inlinee_means l (lines_in b 4)
      ∙ sym (mapped_mapped reading.inlinee (inlinee_spelt b) l)
      ∙ ap (each reading.inlinee) (inlinees_here h)
  records_mean typed.Imports h =
      mapped_mapped (item_of s) (module_item start) (modules_from b 0)
      ∙ sym (mapped_mapped reading.imports (λ (m : ModuleAt). module_of s (in_area start m)) (modules_from b 0))
      ∙ ap (each reading.imports) modules_here
  records_mean typed.Exports h = mapped_mapped (item_of s) exports (pairs_from b 0) ∙ ap (each reading.exports) (pairs_from_lem b)
