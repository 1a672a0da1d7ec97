-- PLAIN in the words of document 01: the full reading refuses nothing, and six rules hold on what it lists and on the bytes. Plain.antt of `plain` says the
-- same in one walk, with what a writer has to know of the last subsection; that the two are one is `in_words` of InWordsLaws. Source: document 01, "Writer
-- and plain areas".
-- Definitions only; a reader must believe them.
use Rattle.std.specs.Prelude.{ℕ, ◌+◌, ◌%◌, ◌≤◌, ◌<◌, ◌≡◌, ◌⊎◌, List, Bool, length, drop, get_or}
use Rattle.word.specs.Word.{u32_at}
use Rattle.walk.specs.Listing.{Move, item, pass, over, fail, Listing, more, ends, fails, nothing, all}
use Rattle.walk.specs.Pick.{failure}
use Rattle.refusal.specs.Told.{Told}
use Rattle.area.specs.Parts.{Raw, parts}
use Rattle.kinds.specs.Kind.{LINES, FILE_CHECKSUMS, IGNORE, crate_rule}
use Rattle.body.specs.Lines.{line_head_size, line_head, columned, line_bytes, block_head_size, block_bite}
use Rattle.body.specs.Checksums.{Checksum, up4, checksum_bite}
use Rattle.body.specs.Exports.{Pair}
use Rattle.reading.specs.Reading.{checksum, open_inlinees, exports, opaque, reading}
use Rattle.plain.specs.Plain.{size_of}

-- a listing has the record x
abbrev pub Lists : {B R : Type 0} → Listing B R → B → Type 0
Lists (more b l) x = (b ≡ x) ⊎ Lists l x
Lists ends x = ⊥
Lists (fails r) x = ⊥

-- its first record is x; it has y right behind x
abbrev pub BeginsWith : {B R : Type 0} → Listing B R → B → Type 0
BeginsWith (more b l) x = b ≡ x
BeginsWith ends x = ⊥
BeginsWith (fails r) x = ⊥

abbrev pub ListsNext : {B R : Type 0} → Listing B R → B → B → Type 0
ListsNext (more b l) x y = ((b ≡ x) × BeginsWith l y) ⊎ ListsNext l x y
ListsNext ends x y = ⊥
ListsNext (fails r) x y = ⊥

-- where the records of a body stand, by the step that reads one: the bytes from each on
abbrev pub stands_at : {B : Type 0} → List ℕ → Move (List ℕ) B Told → Move (List ℕ) (List ℕ) Told
stands_at s (item b t) = item s t
stands_at s (pass t) = pass t
stands_at s over = over
stands_at s (fail r) = fail r

unfoldable pub records_at : {B : Type 0} → (List ℕ → Move (List ℕ) B Told) → List ℕ → Listing (List ℕ) Told
records_at step = all (λ (s : List ℕ). stands_at s (step s)) length

-- whether the lines of a line body have columns
abbrev pub have_columns : List ℕ → Bool
have_columns b = columned (line_head b).flags

-- an entry's bytes of padding, from the end of its checksum to the next multiple of 4: all zero
abbrev pub PaddingZero : List ℕ → Type 0
PaddingZero t = (i : ℕ) → 6 + get_or t 4 0 ≤ i → i < up4 (6 + get_or t 4 0) → get_or t i 0 ≡ 0

-- a block's size counts its header, its lines and its columns, and nothing else
abbrev pub ExactlyFilled : Bool → List ℕ → Type 0
ExactlyFilled c t = u32_at t 8 ≡ block_head_size + line_bytes c (u32_at t 4)

pub record PlainInWords (s : List ℕ) : Type 0 where
  -- the full reading refuses nothing
  pub read : failure (reading crate_rule s) ≡ nothing
  -- no kind 0x80000000
  pub kinds : (r : Raw) → Lists (parts s) r → r.kind ≡ IGNORE → ⊥
  -- opaque lengths divisible by 4
  pub opaques : (k : ℕ) (b : List ℕ) → Lists (reading crate_rule s) (opaque k b) → length b % 4 ≡ 0
  -- checksum sizes 0, 16, 20, 32 for the kinds 0 to 3
  pub sizes : (c : Checksum) → Lists (reading crate_rule s) (checksum c) → length c.bytes ≡ size_of c.kind
  -- their padding zero
  pub padding : (r : Raw) → Lists (parts s) r → r.kind ≡ FILE_CHECKSUMS → (t : List ℕ) → Lists (records_at checksum_bite r.body) t → PaddingZero t
  -- signature 0 or 1
  pub signatures : (g : ℕ) → Lists (reading crate_rule s) (open_inlinees g) → g ≤ 1
  -- blocks exactly filled
  pub filled : (r : Raw) → Lists (parts s) r → r.kind ≡ LINES
      → (t : List ℕ) → Lists (records_at (block_bite (have_columns r.body)) (drop line_head_size r.body)) t → ExactlyFilled (have_columns r.body) t
  -- each export body strictly ascending by local index: pairs right behind each other are of one body
  pub ascending : (p q : Pair) → ListsNext (reading crate_rule s) (exports p) (exports q) → p.local < q.local
