-- Subsections of good form are plain, and are read as the calls that make them.
use Rattle.std.specs.Prelude.{ℕ, ◌+◌, ◌-◌, ◌/◌, ◌%◌, ◌≤◌, ◌≡◌, Bool, true, false, length, drop, get_or}
use Rattle.std.proofs.Math.Path.{refl}
use Rattle.std.proofs.Common.{sym, ap, ◌∙◌, arith, length-append, drop_at, le-ltb, le-leb, eq-eqb, ne_eqb}
use mathlib.Core.List.{List, [], ◌∷◌, ◌++◌, map, append_assoc}
use Rattle.std.proofs.Math.Option.{some}
use Rattle.word.specs.Word.{u16_at, u32_at, le16, le32}
use Rattle.word.specs.WordLaws.{le32_length, u32_first}
use Rattle.walk.specs.Listing.{Move, item, over, Listing, more, ends, fails, before, and_then, all, spread}
use Rattle.refusal.specs.Told.{Told, longest}
use Rattle.area.specs.Parts.{Raw}
use Rattle.kinds.specs.Kind.{LINES, FILE_CHECKSUMS, INLINEE_LINES, CROSS_SCOPE_IMPORTS, CROSS_SCOPE_EXPORTS, known_kinds, among, Sort}
use Rattle.area.specs.Subs.{bodies_in, bodies}
use Rattle.area.specs.Join.{join}
use Rattle.area.specs.JoinLaws.{parts_whole}
use Rattle.body.specs.Lines.{LineHead, line_head_size, line_head, columned, line_bytes, Block, block_head_size, block_bite, blocks, line_head_bytes, block_bytes}
use Rattle.body.specs.Checksums.{Checksum, up4, checksum_bite, checksums, zeros, checksum_bytes}
use Rattle.body.specs.Inlinees.{Inlinee, extended, inlinee_bite, inlinees, inlinee_bytes}
use Rattle.body.specs.Imports.{module_bite, modules, module_bytes}
use Rattle.body.specs.Exports.{Pair, pairs, pair_bytes}
use Rattle.body.specs.RunLaws.{bytes_all, Each, Sound, run_forth}
use Rattle.body.specs.WordsLaws.{u16_at_lem}
use Rattle.body.specs.LinesLaws.{head_length, head_forth, Filled, block_sound, block_ended, block_words, block_forth}
use Rattle.body.specs.ChecksumsLaws.{padding, checksum_sound, checksum_ended, size_at, kind_at, checksum_forth}
use Rattle.body.specs.InlineesLaws.{Fits, inlinee_sound, inlinee_ended, inlinee_forth}
use Rattle.body.specs.ImportsLaws.{Any, module_sound, module_ended, module_forth}
use Rattle.body.specs.ExportsLaws.{pairs_length, pairs_forth}
use Rattle.reading.specs.Reading.{Item, open_lines, block, open_checksums, checksum, open_inlinees, inlinee, open_imports, imports, open_exports, exports, Items, each, lines_items, checksums_items, inlinees_items, imports_items, exports_items, items_of, reading}
use Rattle.reading.specs.BodiesLaws.{numbered, reading_bodies}
use Rattle.plain.specs.Plain.{strict, block_filled, plain_block, size_of, tidy, plain_checksum, ends_whole, wholly, ascends_from, marked, lines_mark, inlinees_mark, is_opaque, mark_of, Last, nothing_yet, plain_from, plain_of, KnowsPlain}
use Rattle.plain.specs.RecordLaws.{padding_two, known_opaque}
use Rattle.plain.specs.PlainLaws.{plain_block_sound, plain_block_ended, plain_checksum_sound, plain_checksum_ended}
use Rattle.round_trip.specs.Secs.{Sec, lines_of, checksums_of, inlinees_of, imports_of, exports_of, opaque_of, kind_sec, body_sec, raw_sec, calls_sec, Sized, Ascend, floor_after, GoodSec, mark_sec, raws_of, calls_of, last_of}

-- ---- lists as listings

pub each_before : {B : Type 0} (f : B → Item) (bs : List B) → each f (before bs ends) ≡ before (map f bs) ends
each_before f [] = refl
each_before f (b ∷ bs) = ap (more (f b)) (each_before f bs)

pub before_append : {B R : Type 0} (xs ys : List B) (l : Listing B R) → before (xs ++ ys) l ≡ before xs (before ys l)
before_append [] ys l = refl
before_append (x ∷ xs) ys l = ap (more x) (before_append xs ys l)

pub then_before : {B R : Type 0} (xs : List B) (l : Listing B R) → and_then (before xs ends) l ≡ before xs l
then_before [] l = refl
then_before (x ∷ xs) l = ap (more x) (then_before xs l)

ends_before : {B : Type 0} (bs : List B) → ends_whole (before {R = Told} bs ends) ≡ true
ends_before [] = refl
ends_before (b ∷ bs) = ends_before bs

-- a walk over the bytes of good records ends whole
whole_forth : {B : Type 0} (step : List ℕ → Move (List ℕ) B Told) (enc : B → List ℕ) (Good : B → Type 0) → ((s : List ℕ) → Sound s (step s)) → step [] ≡ over
    → ((b : B) (t : List ℕ) → Good b → step (enc b ++ t) ≡ item b t) → (bs : List B) → Each Good bs → wholly step (bytes_all enc bs) ≡ true
unfolding wholly
whole_forth step enc Good sound ended forth bs g = ap ends_whole (run_forth step enc Good sound ended forth bs g) ∙ ends_before bs

strict_forth : {B : Type 0} (t : Bool) (u : Move (List ℕ) B Told) (b : B) (x : List ℕ) → t ≡ true → u ≡ item b x → strict t u ≡ item b x
strict_forth t u b x et eu = ap (λ (y : Bool). strict y u) et ∙ ap (strict true) eu

-- ---- records of good form are plain

pub plain_block_forth : (c : Bool) (b : Block) (t : List ℕ) → Filled c b → plain_block c (block_bytes b ++ t) ≡ item b t
plain_block_forth c b t g =
    let w = block_words b t in
    let n = length b.lines / 2 in
    let e : line_bytes c (u32_at (block_bytes b ++ t) 4) ≡ line_bytes c n = ap (line_bytes c) w.0 in
    strict_forth (block_filled c (block_bytes b ++ t)) (block_bite c (block_bytes b ++ t)) b t
    (eq-eqb (u32_at (block_bytes b ++ t) 8) (block_head_size + line_bytes c (u32_at (block_bytes b ++ t) 4)) (omega (arith, w.1, g.pairs, g.columns)))
    (block_forth c b t g)

two_of : (k : ℕ) (c : Checksum) → length c.bytes ≡ size_of k → padding (length c.bytes) ≡ 2
two_of k c e = ap (λ (x : ℕ). up4 (6 + x) - (6 + x)) e ∙ omega (arith, padding_two k)

zeros_two : zeros 2 ≡ le16 0
unfolding zeros le16
zeros_two = refl

pad_zero : (c : Checksum) (t : List ℕ) → Sized c → u16_at (checksum_bytes c ++ t) (6 + length c.bytes) ≡ 0
pad_zero c t g =
    let n = length c.bytes in
    let P : List ℕ = le32 c.name ++ (n ∷ c.kind ∷ c.bytes) in
    let z : zeros (padding n) ≡ le16 0 = ap zeros (two_of c.kind c g.size) ∙ zeros_two in
    let a : checksum_bytes c ++ t ≡ P ++ (zeros (padding n) ++ t) =
    append_assoc (le32 c.name) (n ∷ c.kind ∷ (c.bytes ++ zeros (padding n))) t
    ∙ ap (λ (x : List ℕ). le32 c.name ++ (n ∷ c.kind ∷ x)) (append_assoc c.bytes (zeros (padding n)) t)
    ∙ sym (append_assoc (le32 c.name) (n ∷ c.kind ∷ c.bytes) (zeros (padding n) ++ t)) in
    ap (λ (x : List ℕ). u16_at x (6 + n)) (a ∙ ap (λ (x : List ℕ). P ++ (x ++ t)) z)
    ∙ u16_at_lem P t 0 (6 + n) (length-append (le32 c.name) (n ∷ c.kind ∷ c.bytes) ∙ omega (arith, le32_length c.name))

pub plain_checksum_forth : (c : Checksum) (t : List ℕ) → Sized c → plain_checksum (checksum_bytes c ++ t) ≡ item c t
plain_checksum_forth c t g =
    let s : List ℕ = checksum_bytes c ++ t in
    let e₄ : get_or s 4 0 ≡ length c.bytes = size_at c t in
    let e₅ : get_or s 5 0 ≡ c.kind = kind_at c t in
    let z : u16_at s (6 + get_or s 4 0) ≡ 0 = ap (λ (x : ℕ). u16_at s (6 + x)) e₄ ∙ pad_zero c t g in
    strict_forth (tidy s) (checksum_bite s) c t
    (rw (eq-eqb (get_or s 4 0) (size_of (get_or s 5 0)) (e₄ ∙ g.size ∙ ap size_of (sym e₅)), eq-eqb (u16_at s (6 + get_or s 4 0)) 0 z))
    (checksum_forth c t g.low)

pub ascends_forth : (f : ℕ) (ps : List Pair) → Ascend f ps → ascends_from f (before ps ends) ≡ some (floor_after f ps)
unfolding ascends_from
ascends_forth f [] g = refl
ascends_forth f (p ∷ ps) g = rw (le-leb f p.local g.0) (ascends_forth (p.local + 1) ps g.1)

-- ---- subsections of good form are plain

module _ (h : LineHead) (r : List ℕ) where
  lines_head : line_head (line_head_bytes h ++ r) ≡ h
  lines_head = head_forth h r

  lines_rest : drop line_head_size (line_head_bytes h ++ r) ≡ r
  lines_rest = drop_at (line_head_bytes h) r line_head_size (head_length h)

  lines_length : line_head_size ≤ length (line_head_bytes h ++ r)
  lines_length = omega (arith, length-append (line_head_bytes h) r, head_length h)

lines_marked : (h : LineHead) (bs : List Block) → Each (Filled (columned h.flags)) bs → lines_mark (line_head_bytes h ++ bytes_all block_bytes bs) ≡ some (h.flags % 2)
unfolding lines_mark
lines_marked h bs g =
    let R : List ℕ = bytes_all block_bytes bs in
    let B : List ℕ = line_head_bytes h ++ R in
    rw (le-ltb (length B) line_head_size (lines_length h R))
    (ap (λ (x : LineHead). marked (wholly (plain_block (columned x.flags)) (drop line_head_size B)) (x.flags % 2)) (lines_head h R)
    ∙ ap (λ (x : List ℕ). marked (wholly (plain_block (columned h.flags)) x) (h.flags % 2)) (lines_rest h R)
    ∙ ap (λ (t : Bool). marked t (h.flags % 2))
    (whole_forth (plain_block (columned h.flags)) block_bytes (Filled (columned h.flags)) (plain_block_sound (columned h.flags)) (plain_block_ended (columned h.flags)) (plain_block_forth (columned h.flags)) bs g))

inlinees_marked : (n : ℕ) (es : List Inlinee) → n ≤ 1 → Each (Fits (extended n)) es → inlinees_mark (le32 n ++ bytes_all (inlinee_bytes (extended n)) es) ≡ some n
unfolding inlinees_mark
inlinees_marked n es l g =
    let R : List ℕ = bytes_all (inlinee_bytes (extended n)) es in
    let B : List ℕ = le32 n ++ R in
    rw (le-ltb (length B) 4 (omega (arith, length-append (le32 n) R, le32_length n)), u32_first n R, le-ltb 1 n l)
    (ap (λ (x : List ℕ). marked (wholly (inlinee_bite (extended n)) x) n) (drop_at (le32 n) R 4 (le32_length n))
    ∙ ap (λ (t : Bool). marked t n)
    (whole_forth (inlinee_bite (extended n)) (inlinee_bytes (extended n)) (Fits (extended n)) (inlinee_sound (extended n)) (inlinee_ended (extended n)) (inlinee_forth (extended n)) es g))

pub opaque_kinds_lem : (k : ℕ) → is_opaque k ≡ true → (k ≡ LINES → ⊥) × (k ≡ FILE_CHECKSUMS → ⊥) × (k ≡ INLINEE_LINES → ⊥) × (k ≡ CROSS_SCOPE_IMPORTS → ⊥)
    × (k ≡ CROSS_SCOPE_EXPORTS → ⊥)
unfolding is_opaque
opaque_kinds_lem k h = (λ e. no (rw e at h), λ e. no (rw e at h), λ e. no (rw e at h), λ e. no (rw e at h), λ e. no (rw e at h))
  where
    no : false ≡ true → ⊥
    no q = let z : ◌≡◌ {A = ℕ} 0 1 = cc in omega arith

pub good_mark : (s : Sec) → GoodSec s → mark_of (kind_sec s) (body_sec s) ≡ some (mark_sec s)
unfolding mark_of
good_mark (lines_of h bs) g = lines_marked h bs g
good_mark (checksums_of cs) g = ap (λ (t : Bool). marked t 0) (whole_forth plain_checksum checksum_bytes Sized plain_checksum_sound plain_checksum_ended plain_checksum_forth cs g)
good_mark (inlinees_of n es) g = inlinees_marked n es g.0 g.1
good_mark (imports_of ms) g = ap (λ (t : Bool). marked t 0) (whole_forth module_bite module_bytes Any module_sound module_ended module_forth ms g)
good_mark (exports_of ps) g = ap (ascends_from 0) (pairs_forth ps) ∙ ascends_forth 0 ps g
good_mark (opaque_of k b) g =
    let n = opaque_kinds_lem k g.0 in
    rw (
      ne_eqb k LINES n.0,
      ne_eqb k FILE_CHECKSUMS n.1,
      ne_eqb k INLINEE_LINES n.2,
      ne_eqb k CROSS_SCOPE_IMPORTS n.3,
      ne_eqb k CROSS_SCOPE_EXPORTS n.4,
      g.0,
      eq-eqb (length b % 4) 0 g.1,
    )

pub plain_from_lem : (ss : List Sec) (p : ℕ) (last : Last) → Each GoodSec ss → plain_from p last (before (raws_of ss) ends) ≡ some (last_of p last ss)
unfolding plain_from
plain_from_lem [] p last g = refl
plain_from_lem (s ∷ ss) p last g =
    rw (good_mark s g.0) (plain_from_lem ss (p + 8 + length (body_sec s)) (record { header = p; kind = kind_sec s; mark = mark_sec s }) g.1)

pub plain_join : (ss : List Sec) → Each GoodSec ss → length (join (raws_of ss)) ≤ longest → plain_of (join (raws_of ss)) ≡ some (last_of 0 nothing_yet ss)
unfolding plain_of
plain_join ss g l = rw (le-ltb longest (length (join (raws_of ss))) l, parts_whole (raws_of ss)) (plain_from_lem ss 0 nothing_yet g)

-- ---- and are read as their calls

sized_forth : (c : Checksum) (t : List ℕ) → Sized c → checksum_bite (checksum_bytes c ++ t) ≡ item c t
sized_forth c t g = checksum_forth c t g.low

pub good_reads : (s : Sec) → GoodSec s → items_of (raw_sec s) ≡ before (calls_sec s) ends
unfolding items_of lines_items checksums_items inlinees_items imports_items exports_items blocks checksums inlinees modules
good_reads (lines_of h bs) g =
    let R : List ℕ = bytes_all block_bytes bs in
    let B : List ℕ = line_head_bytes h ++ R in
    rw (le-ltb (length B) line_head_size (lines_length h R))
    (ap (λ (x : LineHead). more (open_lines x) (each block (all (block_bite (columned x.flags)) length (drop line_head_size B)))) (lines_head h R)
    ∙ ap (λ (x : List ℕ). more (open_lines h) (each block (all (block_bite (columned h.flags)) length x))) (lines_rest h R)
    ∙ ap (λ (l : Listing Block Told). more (open_lines h) (each block l))
    (run_forth (block_bite (columned h.flags)) block_bytes (Filled (columned h.flags)) (block_sound (columned h.flags)) (block_ended (columned h.flags)) (block_forth (columned h.flags)) bs g)
    ∙ ap (more (open_lines h)) (each_before block bs))
good_reads (checksums_of cs) g =
    ap (more open_checksums) (ap (each checksum) (run_forth checksum_bite checksum_bytes Sized checksum_sound checksum_ended sized_forth cs g) ∙ each_before checksum cs)
good_reads (inlinees_of n es) g =
    let R : List ℕ = bytes_all (inlinee_bytes (extended n)) es in
    let B : List ℕ = le32 n ++ R in
    rw (le-ltb (length B) 4 (omega (arith, length-append (le32 n) R, le32_length n)), u32_first n R)
    (ap (λ (x : List ℕ). more (open_inlinees n) (each inlinee (all (inlinee_bite (extended n)) length x))) (drop_at (le32 n) R 4 (le32_length n))
    ∙ ap (λ (l : Listing Inlinee Told). more (open_inlinees n) (each inlinee l))
    (run_forth (inlinee_bite (extended n)) (inlinee_bytes (extended n)) (Fits (extended n)) (inlinee_sound (extended n)) (inlinee_ended (extended n)) (inlinee_forth (extended n)) es g.1)
    ∙ ap (more (open_inlinees n)) (each_before inlinee es))
good_reads (imports_of ms) g =
    ap (more open_imports) (ap (each imports) (run_forth module_bite module_bytes Any module_sound module_ended module_forth ms g) ∙ each_before imports ms)
good_reads (exports_of ps) g =
    rw (eq-eqb (length (bytes_all pair_bytes ps) % 8) 0 (omega (arith, pairs_length ps)))
    (ap (more open_exports) (ap (each exports) (pairs_forth ps) ∙ each_before exports ps))
good_reads (opaque_of k b) g =
    let n = opaque_kinds_lem k g.0 in
    rw (
      ne_eqb k LINES n.0,
      ne_eqb k FILE_CHECKSUMS n.1,
      ne_eqb k INLINEE_LINES n.2,
      ne_eqb k CROSS_SCOPE_IMPORTS n.3,
      ne_eqb k CROSS_SCOPE_EXPORTS n.4,
    )

-- ---- whichever rule for kinds the area is read by, if it knows the kinds of plain subsections

pub good_kind : (s : Sec) → GoodSec s → among (kind_sec s) known_kinds ≡ true
good_kind (lines_of h bs) g = refl
good_kind (checksums_of cs) g = refl
good_kind (inlinees_of n es) g = refl
good_kind (imports_of ms) g = refl
good_kind (exports_of ps) g = refl
good_kind (opaque_of k b) g = let n = opaque_kinds_lem k g.0 in known_opaque k n.0 n.1 n.2 n.3 n.4 ∙ g.0

-- calls as a listing, with refusals as numbers
pub numbered_before : (xs : List Item) → numbered (before xs ends) ≡ before xs ends
numbered_before [] = refl
numbered_before (x ∷ xs) = ap (more x) (numbered_before xs)

pub before_numbered : (l : Items) (xs : List Item) → numbered l ≡ before xs ends → l ≡ before xs ends
before_numbered (more i l) (x ∷ xs) e =
    let ei : i ≡ x = cc in
    let el : numbered l ≡ before xs ends = cc in
    let r = before_numbered l xs el in
    λ j. more (ei j) (r j)
before_numbered (more i l) [] e = let z : ◌≡◌ {A = ℕ} 0 1 = cc in absurd (omega arith)
before_numbered ends [] e = refl
before_numbered ends (x ∷ xs) e = let z : ◌≡◌ {A = ℕ} 0 1 = cc in absurd (omega arith)
before_numbered (fails t) [] e = let z : ◌≡◌ {A = ℕ} 0 1 = cc in absurd (omega arith)
before_numbered (fails t) (x ∷ xs) e = let z : ◌≡◌ {A = ℕ} 0 1 = cc in absurd (omega arith)

reads_from : (ss : List Sec) → Each GoodSec ss → spread (λ (r : Raw). numbered (items_of r)) (before (raws_of ss) ends) ≡ before (calls_of ss) ends
reads_from [] g = refl
reads_from (s ∷ ss) g =
    (λ i. and_then ((ap numbered (good_reads s g.0) ∙ numbered_before (calls_sec s)) i) (reads_from ss g.1 i))
    ∙ then_before (calls_sec s) (before (calls_of ss) ends) ∙ sym (before_append (calls_sec s) (calls_of ss) ends)

module _ (rule : ℕ → Sort) (knows : KnowsPlain rule) where
  bodies_from_lem : (ss : List Sec) → Each GoodSec ss → bodies_in rule (before (raws_of ss) ends) ≡ before (raws_of ss) ends
  unfolding bodies_in
  bodies_from_lem [] g = refl
  bodies_from_lem (s ∷ ss) g =
      rw (knows (kind_sec s) (good_kind s g.0)) (ap (more (raw_sec s)) (bodies_from_lem ss g.1))

  bodies_join : (ss : List Sec) → Each GoodSec ss → length (join (raws_of ss)) ≤ longest → bodies rule (join (raws_of ss)) ≡ before (raws_of ss) ends
  unfolding bodies
  bodies_join ss g l = rw (le-ltb longest (length (join (raws_of ss))) l, parts_whole (raws_of ss)) (bodies_from_lem ss g)

  pub reads_join : (ss : List Sec) → Each GoodSec ss → length (join (raws_of ss)) ≤ longest → reading rule (join (raws_of ss)) ≡ before (calls_of ss) ends
  reads_join ss g l =
      before_numbered (reading rule (join (raws_of ss))) (calls_of ss)
      (reading_bodies rule (join (raws_of ss)) ∙ ap (spread (λ (r : Raw). numbered (items_of r))) (bodies_join ss g l) ∙ reads_from ss g)
