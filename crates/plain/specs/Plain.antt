-- Which areas are plain, and what a writer has to know of the last subsection of one. Source: document 01, "Writer and plain areas": the full
-- reading refuses nothing, and no kind is 0x80000000; opaque lengths are divisible by 4; checksum sizes are 0, 16, 20, 32 for the kinds 0 to 3,
-- their padding zero; the signature of inlinees is 0 or 1; blocks are exactly filled; each export body strictly ascends by local index.
-- Definitions only; a reader must believe them, but for `strict` to `plain_block`, `tidy` to `inlinees_mark`, `mark_of`, `nothing_yet` to `Plain`: `in_words`
-- (round_trip InWordsLaws), `last_is` (round_trip LastLaws) say what these mean.
use Rattle.std.specs.Prelude.{ℕ, ◌+◌, ◌%◌, ◌≡◌, List, [], ◌∷◌, Bool, true, false, cond, ◌&&◌, length, drop, get_or, ltb, leb, eqb}
use Rattle.std.proofs.Math.Option.{Option, none, some}
use Rattle.word.specs.Word.{u16_at, u32_at}
use Rattle.walk.specs.Listing.{Move, item, pass, over, fail, Listing, more, ends, fails, all}
use Rattle.refusal.specs.Told.{Told, told, longest}
use Rattle.refusal.specs.declared.Refusal.TheVariants as why
use Rattle.area.specs.Parts.{Parts, parts}
use Rattle.kinds.specs.Kind.{SYMBOLS, LINES, STRING_TABLE, FILE_CHECKSUMS, FRAME_DATA, INLINEE_LINES, CROSS_SCOPE_IMPORTS, CROSS_SCOPE_EXPORTS, IL_LINES, FUNC_MDTOKEN_MAP, TYPE_MDTOKEN_MAP, MERGED_ASSEMBLY_INPUT, COFF_SYMBOL_RVA, known_kinds, among, Sort, known}
use Rattle.body.specs.Lines.{line_head_size, line_head, columned, line_bytes, Block, block_head_size, block_bite}
use Rattle.body.specs.Checksums.{Checksum, checksum_bite}
use Rattle.body.specs.Inlinees.{extended, inlinee_bite}
use Rattle.body.specs.Imports.{module_bite}
use Rattle.body.specs.Exports.{Pair, pairs}

-- ---- the rules of a record, as tests of the bytes that it stands at

-- a step of the reading, whose record must pass a test too
abbrev pub strict : {B : Type 0} → Bool → Move (List ℕ) B Told → Move (List ℕ) B Told
strict t (item b x) = cond t (item b x) (fail (told why.NotPlain))
strict t (pass x) = pass x
strict t over = over
strict t (fail r) = fail r

-- a block's size counts its header, its lines and its columns, and nothing else
abbrev pub block_filled : Bool → List ℕ → Bool
block_filled c s = eqb (u32_at s 8) (block_head_size + line_bytes c (u32_at s 4))

abbrev pub plain_block : Bool → List ℕ → Move (List ℕ) Block Told
plain_block c s = strict (block_filled c s) (block_bite c s)

-- the size of a checksum of a kind: none, MD5, SHA-1, SHA-256
unfoldable pub size_of : ℕ → ℕ
size_of k = cond (eqb k 0) 0 (cond (eqb k 1) 16 (cond (eqb k 2) 20 32))

-- each of these sizes leaves two bytes of padding (`padding_two` of RecordLaws): they are zero
abbrev pub tidy : List ℕ → Bool
tidy s = eqb (get_or s 4 0) (size_of (get_or s 5 0)) && eqb (u16_at s (6 + get_or s 4 0)) 0

abbrev pub plain_checksum : List ℕ → Move (List ℕ) Checksum Told
plain_checksum s = strict (tidy s) (checksum_bite s)

-- ---- the rules of a body

-- whether a walk over the whole of s ends without a refusal
abbrev pub ends_whole : {B R : Type 0} → Listing B R → Bool
ends_whole (more b l) = ends_whole l
ends_whole ends = true
ends_whole (fails r) = false

unfoldable pub wholly : {B : Type 0} → (List ℕ → Move (List ℕ) B Told) → List ℕ → Bool
wholly step s = ends_whole (all step length s)

-- pairs ascend from f on; the least local index that may follow
unfoldable pub ascends_from : ℕ → Listing Pair Told → Option ℕ
ascends_from f (more p l) = cond (leb f p.local) (ascends_from (p.local + 1) l) none
ascends_from f ends = some f
ascends_from f (fails r) = none

-- What a plain body says to who appends to it, its mark: the column flag, the signature, the least local index that may follow, or 0.
-- `none`: the body is not plain.
abbrev pub marked : Bool → ℕ → Option ℕ
marked true m = some m
marked false m = none

unfoldable pub lines_mark : List ℕ → Option ℕ
lines_mark b =
    cond (ltb (length b) line_head_size) none
    (marked (wholly (plain_block (columned (line_head b).flags)) (drop line_head_size b)) ((line_head b).flags % 2))

unfoldable pub inlinees_mark : List ℕ → Option ℕ
inlinees_mark b =
    cond (ltb (length b) 4) none
    (cond (ltb 1 (u32_at b 0)) none (marked (wholly (inlinee_bite (extended (u32_at b 0))) (drop 4 b)) (u32_at b 0)))

-- the kinds whose bodies a writer takes as they are: the known ones but for the five that have entries of their own
abbrev pub opaque_kinds : List ℕ
opaque_kinds =
    SYMBOLS ∷ STRING_TABLE ∷ FRAME_DATA ∷ IL_LINES ∷ FUNC_MDTOKEN_MAP ∷ TYPE_MDTOKEN_MAP ∷ MERGED_ASSEMBLY_INPUT ∷ COFF_SYMBOL_RVA ∷ []

unfoldable pub is_opaque : ℕ → Bool
is_opaque k = among k opaque_kinds

unfoldable pub mark_of : ℕ → List ℕ → Option ℕ
mark_of k b =
    cond (eqb k LINES) (lines_mark b)
    (cond (eqb k FILE_CHECKSUMS) (marked (wholly plain_checksum b) 0)
    (cond (eqb k INLINEE_LINES) (inlinees_mark b)
    (cond (eqb k CROSS_SCOPE_IMPORTS) (marked (wholly module_bite b) 0)
    (cond (eqb k CROSS_SCOPE_EXPORTS) (ascends_from 0 (pairs b))
    (marked (is_opaque k && eqb (length b % 4) 0) 0)))))

-- ---- an area

-- the last subsection: its header's place, its kind and its mark. All are 0 where there is none
pub record Last : Type 0 where
  pub header : ℕ
  pub kind : ℕ
  pub mark : ℕ

abbrev pub nothing_yet : Last
nothing_yet = record { header = 0; kind = 0; mark = 0 }

abbrev pub on_mark : {A : Type 0} → Option ℕ → A → (ℕ → A) → A
on_mark none z f = z
on_mark (some m) z f = f m

-- from the place p on, last being the subsection before it
unfoldable pub plain_from : ℕ → Last → Parts → Option Last
plain_from p last (more r l) =
    on_mark (mark_of r.kind r.body) none (λ m. plain_from (p + 8 + length r.body) (record { header = p; kind = r.kind; mark = m }) l)
plain_from p last ends = some last
plain_from p last (fails c) = none

-- PLAIN, and what is last; `none`: the area is not plain
unfoldable pub plain_of : List ℕ → Option Last
plain_of s = cond (ltb longest (length s)) none (plain_from 0 nothing_yet (parts s))

abbrev pub Plain : List ℕ → Type 0
Plain s = (l : Last) × (plain_of s ≡ some l)

-- a rule for kinds that knows each kind of which a plain area has subsections: `mark_of` takes no other
abbrev pub KnowsPlain : (ℕ → Sort) → Type 0
KnowsPlain rule = (k : ℕ) → among k known_kinds ≡ true → rule k ≡ known
