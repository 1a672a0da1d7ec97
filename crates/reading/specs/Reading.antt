-- The full reading of an area: every subsection in order, each typed body raw, markers kept. An item is also a call of the writer, so that what
-- was written and what is read are lists of one type. Source: document 01, "Writer and plain areas" and "Area and subsections": refusals come in
-- the order of the bytes, 11 first; a body is read before the next header is; an ignored subsection gives nothing.
-- Definitions only; a reader must believe them.
use Rattle.std.specs.Prelude.{ℕ, ◌%◌, List, Bool, true, false, cond, length, take, drop, ltb, eqb}
use Rattle.word.specs.Word.{u32_at}
use Rattle.walk.specs.Listing.{Listing, more, ends, fails, mapped, spread}
use Rattle.refusal.specs.Told.{Told, told}
use Rattle.refusal.specs.declared.Refusal.TheVariants as why
use Rattle.area.specs.Parts.{Raw}
use Rattle.kinds.specs.Kind.{LINES, FILE_CHECKSUMS, INLINEE_LINES, CROSS_SCOPE_IMPORTS, CROSS_SCOPE_EXPORTS, Sort}
use Rattle.area.specs.Subs.{Sub, subs_from}
use Rattle.body.specs.Lines.{LineHead, line_head_size, line_head, columned, Block, blocks}
use Rattle.body.specs.Checksums.{Checksum, checksums}
use Rattle.body.specs.Inlinees.{Inlinee, extended, inlinees}
use Rattle.body.specs.Imports.{Module, modules}
use Rattle.body.specs.Exports.{Pair, pairs}

pub data Item : Type 0 where
  open_lines : LineHead → Item
  block : Block → Item
  open_checksums : Item
  checksum : Checksum → Item
  open_inlinees : ℕ → Item
  inlinee : Inlinee → Item
  open_imports : Item
  imports : Module → Item
  open_exports : Item
  exports : Pair → Item
  opaque : ℕ → List ℕ → Item

-- an item that opens a subsection; every other is a record of the last one that was opened
abbrev pub opens : Item → Bool
opens (open_lines h) = true
opens (block b) = false
opens open_checksums = true
opens (checksum c) = false
opens (open_inlinees x) = true
opens (inlinee e) = false
opens open_imports = true
opens (imports m) = false
opens open_exports = true
opens (exports p) = false
opens (opaque k b) = true

abbrev pub Items : Type 0
Items = Listing Item Told

-- the records of a body as items
abbrev pub each : {B : Type 0} → (B → Item) → Listing B Told → Items
each f = mapped f (λ (t : Told). t)

-- what each typed body is read as
unfoldable pub lines_items : List ℕ → Items
lines_items b =
    cond (ltb (length b) line_head_size) (fails (told why.Cut))
    (more (open_lines (line_head b)) (each block (blocks (columned (line_head b).flags) (drop line_head_size b))))

unfoldable pub checksums_items : List ℕ → Items
checksums_items b = more open_checksums (each checksum (checksums b))

unfoldable pub inlinees_items : List ℕ → Items
inlinees_items b =
    cond (ltb (length b) 4) (fails (told why.Cut))
    (more (open_inlinees (u32_at b 0)) (each inlinee (inlinees (extended (u32_at b 0)) (drop 4 b))))

unfoldable pub imports_items : List ℕ → Items
imports_items b = more open_imports (each imports (modules b))

unfoldable pub exports_items : List ℕ → Items
exports_items b = cond (eqb (length b % 8) 0) (more open_exports (each exports (pairs b))) (fails (told why.ExportLength))

-- what a known subsection is read as
unfoldable pub items_of : Raw → Items
items_of r =
    cond (eqb r.kind LINES) (lines_items r.body)
    (cond (eqb r.kind FILE_CHECKSUMS) (checksums_items r.body)
    (cond (eqb r.kind INLINEE_LINES) (inlinees_items r.body)
    (cond (eqb r.kind CROSS_SCOPE_IMPORTS) (imports_items r.body)
    (cond (eqb r.kind CROSS_SCOPE_EXPORTS) (exports_items r.body)
    (more (opaque r.kind r.body) ends)))))

-- the items of a subsection, whose body stands in the area s
abbrev pub sub_items : List ℕ → Sub → Items
sub_items s b = items_of (record { kind = b.kind; body = take b.len (drop b.start s) })

-- THE FULL READING under a rule for kinds: the items of each subsection, one behind the other
unfoldable pub reading : (ℕ → Sort) → List ℕ → Items
reading rule s = spread (sub_items s) (subs_from rule s 0)
