-- The middle of both theorems: subsections as lists of records. A plain area is the bytes of such subsections, each of good form, and they are
-- what the writer makes.
use Rattle.std.specs.Prelude.{ℕ, ◌+◌, ◌%◌, ◌≤◌, ◌≡◌, List, [], ◌∷◌, ◌++◌, map, true, length}
use Rattle.word.specs.Word.{le32}
use Rattle.kinds.specs.Kind.{LINES, FILE_CHECKSUMS, INLINEE_LINES, CROSS_SCOPE_IMPORTS, CROSS_SCOPE_EXPORTS}
use Rattle.area.specs.Parts.{Raw}
use Rattle.body.specs.Lines.{LineHead, columned, Block, line_head_bytes, block_bytes}
use Rattle.body.specs.Checksums.{Checksum, checksum_bytes}
use Rattle.body.specs.Inlinees.{Inlinee, extended, inlinee_bytes}
use Rattle.body.specs.Imports.{Module, module_bytes}
use Rattle.body.specs.Exports.{Pair, pair_bytes}
use Rattle.body.specs.RunLaws.{bytes_all, Each}
use Rattle.body.specs.LinesLaws.{Filled}
use Rattle.body.specs.InlineesLaws.{Fits}
use Rattle.body.specs.ImportsLaws.{Any}
use Rattle.reading.specs.Reading.{Item, open_lines, block, open_checksums, checksum, open_inlinees, inlinee, open_imports, imports, open_exports, exports, opaque}
use Rattle.plain.specs.Plain.{size_of, is_opaque, Last}

pub data Sec : Type 0 where
  lines_of : LineHead → List Block → Sec
  checksums_of : List Checksum → Sec
  inlinees_of : ℕ → List Inlinee → Sec
  imports_of : List Module → Sec
  exports_of : List Pair → Sec
  opaque_of : ℕ → List ℕ → Sec

abbrev pub kind_sec : Sec → ℕ
kind_sec (lines_of h bs) = LINES
kind_sec (checksums_of cs) = FILE_CHECKSUMS
kind_sec (inlinees_of g es) = INLINEE_LINES
kind_sec (imports_of ms) = CROSS_SCOPE_IMPORTS
kind_sec (exports_of ps) = CROSS_SCOPE_EXPORTS
kind_sec (opaque_of k b) = k

abbrev pub body_sec : Sec → List ℕ
body_sec (lines_of h bs) = line_head_bytes h ++ bytes_all block_bytes bs
body_sec (checksums_of cs) = bytes_all checksum_bytes cs
body_sec (inlinees_of g es) = le32 g ++ bytes_all (inlinee_bytes (extended g)) es
body_sec (imports_of ms) = bytes_all module_bytes ms
body_sec (exports_of ps) = bytes_all pair_bytes ps
body_sec (opaque_of k b) = b

abbrev pub raw_sec : Sec → Raw
raw_sec s = record { kind = kind_sec s; body = body_sec s }

-- the calls that make it
abbrev pub calls_sec : Sec → List Item
calls_sec (lines_of h bs) = open_lines h ∷ map block bs
calls_sec (checksums_of cs) = open_checksums ∷ map checksum cs
calls_sec (inlinees_of g es) = open_inlinees g ∷ map inlinee es
calls_sec (imports_of ms) = open_imports ∷ map imports ms
calls_sec (exports_of ps) = open_exports ∷ map exports ps
calls_sec (opaque_of k b) = opaque k b ∷ []

-- ---- good form

pub record Sized (c : Checksum) : Type 0 where
  pub low : c.kind ≤ 3
  pub size : length c.bytes ≡ size_of c.kind

abbrev pub Ascend : ℕ → List Pair → Type 0
Ascend f [] = Unit {0}
Ascend f (p ∷ ps) = (f ≤ p.local) × Ascend (p.local + 1) ps

abbrev pub floor_after : ℕ → List Pair → ℕ
floor_after f [] = f
floor_after f (p ∷ ps) = floor_after (p.local + 1) ps

abbrev pub GoodSec : Sec → Type 0
GoodSec (lines_of h bs) = Each (Filled (columned h.flags)) bs
GoodSec (checksums_of cs) = Each Sized cs
GoodSec (inlinees_of g es) = (g ≤ 1) × Each (Fits (extended g)) es
GoodSec (imports_of ms) = Each Any ms
GoodSec (exports_of ps) = Ascend 0 ps
GoodSec (opaque_of k b) = (is_opaque k ≡ true) × (length b % 4 ≡ 0)

abbrev pub mark_sec : Sec → ℕ
mark_sec (lines_of h bs) = h.flags % 2
mark_sec (checksums_of cs) = 0
mark_sec (inlinees_of g es) = g
mark_sec (imports_of ms) = 0
mark_sec (exports_of ps) = floor_after 0 ps
mark_sec (opaque_of k b) = 0

-- ---- several

abbrev pub raws_of : List Sec → List Raw
raws_of [] = []
raws_of (s ∷ ss) = raw_sec s ∷ raws_of ss

abbrev pub calls_of : List Sec → List Item
calls_of [] = []
calls_of (s ∷ ss) = calls_sec s ++ calls_of ss

-- the last one, from the place p on
abbrev pub last_of : ℕ → Last → List Sec → Last
last_of p last [] = last
last_of p last (s ∷ ss) = last_of (p + 8 + length (body_sec s)) (record { header = p; kind = kind_sec s; mark = mark_sec s }) ss
