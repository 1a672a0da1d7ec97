-- A plain area, its length aside: number 11 is tested before all else, and is no rule of plain areas. What such an area lists, its length aside, is what
-- its full reading lists where it is short enough to have one (`listed_reads` of ListedLaws). Source: document 01, "Writer and plain areas": number
-- 17 is what would break the rules other than by refusal 11. Up to 16,777,216 bytes it is plain in document 01's words (`listed_in_words` of InWordsLaws);
-- above, where it tells 10 from 17 alone, `plain_from` of plain must be read.
-- Definitions only; a reader must believe them.
use Rattle.std.specs.Prelude.{ℕ, ◌+◌, ◌%◌, ◌≡◌, List, [], ◌∷◌}
use Rattle.std.proofs.Math.Option.{some}
use Rattle.walk.specs.Listing.{mapped, spread}
use Rattle.refusal.specs.Told.{told}
use Rattle.refusal.specs.declared.Refusal.TheVariants as why
use Rattle.area.specs.Parts.{Raw, Lack, parts}
use Rattle.reading.specs.Reading.{Item, open_lines, block, open_checksums, checksum, open_inlinees, inlinee, open_imports, imports, open_exports, exports, opaque, Items, items_of}
use Rattle.plain.specs.Plain.{Last, nothing_yet, plain_from}
use Rattle.writer_decides.specs.Calls.{item_kind}

abbrev pub PlainAtAnyLength : List ℕ → Type 0
PlainAtAnyLength s = (l : Last) × (plain_from 0 nothing_yet (parts s) ≡ some l)

-- the items of each subsection, one behind the other
abbrev pub items_in : List ℕ → Items
items_in s = spread items_of (mapped (λ (r : Raw). r) (λ (c : Lack). told why.Cut) (parts s))

-- ---- what calls leave behind: the kind of the subsection that the last one is in, and its mark, which is what the rules of the next record ask for: of lines
-- the column flag, of inlinees the signature, of exports the least local index that may follow, else 0. Without a call they are k and m

abbrev pub kind_after : ℕ → List Item → ℕ
kind_after k [] = k
kind_after k (i ∷ is) = kind_after (item_kind i) is

abbrev pub mark_next : ℕ → Item → ℕ
mark_next m (open_lines h) = h.flags % 2
mark_next m (block b) = m
mark_next m open_checksums = 0
mark_next m (checksum c) = m
mark_next m (open_inlinees g) = g
mark_next m (inlinee i) = m
mark_next m open_imports = 0
mark_next m (imports d) = m
mark_next m open_exports = 0
mark_next m (exports p) = p.local + 1
mark_next m (opaque k b) = 0

abbrev pub mark_after : ℕ → List Item → ℕ
mark_after m [] = m
mark_after m (i ∷ is) = mark_after (mark_next m i) is
