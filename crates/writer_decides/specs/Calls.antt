-- The writer's calls: what each answers, and the buffer after it. A call is an item of the full reading. Source: document 01, "Writer and plain
-- areas", and numbers 10, 16, 17 of its table; the order of refusals is 16, 17, 10.
-- Definitions only; a reader must believe them, but for `bytes_for` to `Act`, `place` to `buffer_after`, `open_act`, `grow_act`: `decided`
-- (round_trip DecidedHolds) says what these mean.
use Rattle.std.specs.Prelude.{ℕ, ◌+◌, ◌-◌, ◌/◌, ◌%◌, min, List, [], ◌++◌, Bool, true, cond, ◌&&◌, length, take, leb, eqb}
use Rattle.std.proofs.Math.Option.{Option, none, some}
use Rattle.word.specs.Word.{le32, put, header}
use Rattle.walk.specs.Listing.{Reply, gave, refused}
use Rattle.refusal.specs.Told.{Told, told, longest}
use Rattle.refusal.specs.declared.Refusal.TheVariants as why
use Rattle.kinds.specs.Kind.{LINES, FILE_CHECKSUMS, INLINEE_LINES, CROSS_SCOPE_IMPORTS, CROSS_SCOPE_EXPORTS}
use Rattle.body.specs.Lines.{columned, columns_of, line_head_bytes, block_bytes}
use Rattle.body.specs.Checksums.{checksum_bytes}
use Rattle.body.specs.Inlinees.{extended, inlinee_bytes}
use Rattle.body.specs.Imports.{module_bytes}
use Rattle.body.specs.Exports.{pair_bytes}
use Rattle.reading.specs.Reading.{Item, open_lines, block, open_checksums, checksum, open_inlinees, inlinee, open_imports, imports, open_exports, exports, opaque, opens}
use Rattle.plain.specs.Plain.{size_of, is_opaque, Last, plain_of}

-- ---- what each call is

-- the kind of its subsection
abbrev pub item_kind : Item → ℕ
item_kind (open_lines h) = LINES
item_kind (block b) = LINES
item_kind open_checksums = FILE_CHECKSUMS
item_kind (checksum c) = FILE_CHECKSUMS
item_kind (open_inlinees s) = INLINEE_LINES
item_kind (inlinee e) = INLINEE_LINES
item_kind open_imports = CROSS_SCOPE_IMPORTS
item_kind (imports m) = CROSS_SCOPE_IMPORTS
item_kind open_exports = CROSS_SCOPE_EXPORTS
item_kind (exports p) = CROSS_SCOPE_EXPORTS
item_kind (opaque k b) = k

-- the bytes of it, a subsection's header left out; m is the mark of the last subsection
abbrev pub bytes_for : ℕ → Item → List ℕ
bytes_for m (open_lines h) = line_head_bytes h
bytes_for m (block b) = block_bytes b
bytes_for m open_checksums = []
bytes_for m (checksum c) = checksum_bytes c
bytes_for m (open_inlinees s) = le32 s
bytes_for m (inlinee e) = inlinee_bytes (extended m) e
bytes_for m open_imports = []
bytes_for m (imports d) = module_bytes d
bytes_for m open_exports = []
bytes_for m (exports p) = pair_bytes p
bytes_for m (opaque k b) = b

-- ---- the rules of plain areas, number 17

-- n line words in pairs, and k column words: one a line under the column flag, else none
abbrev pub block_rule : ℕ → ℕ → ℕ → Bool
block_rule m n k = eqb (n % 2) 0 && eqb k (columns_of (columned m) (n / 2))

abbrev pub checksum_rule : ℕ → ℕ → Bool
checksum_rule k n = leb k 3 && eqb n (size_of k)

-- n extra files
abbrev pub extra_rule : ℕ → ℕ → Bool
extra_rule m n = cond (extended m) true (eqb n 0)

abbrev pub opaque_rule : ℕ → ℕ → Bool
opaque_rule k n = is_opaque k && eqb (n % 4) 0

abbrev pub obeys : ℕ → Item → Bool
obeys m (open_lines h) = true
obeys m (block b) = block_rule m (length b.lines) (length b.columns)
obeys m open_checksums = true
obeys m (checksum c) = checksum_rule c.kind (length c.bytes)
obeys m (open_inlinees s) = leb s 1
obeys m (inlinee e) = extra_rule m (length e.extra)
obeys m open_imports = true
obeys m (imports d) = true
obeys m open_exports = true
obeys m (exports p) = leb m p.local
obeys m (opaque k b) = opaque_rule k (length b)

-- ---- what a call does

-- it goes on, with the last subsection's header and mark, and the place behind what it writes; or it stops
pub data Act : Type 0 where
  goes : ℕ → ℕ → ℕ → Act
  stops : Told → Act

-- the most bytes of an area in a buffer of n
abbrev pub limit : ℕ → ℕ
limit n = min n longest

-- number 16: the last subsection of the plain area before the place w; `none` where there is none, or w is past the buffer or the longest area
unfoldable pub place : List ℕ → ℕ → Option Last
place b w = cond (leb w (limit (length b))) (plain_of (take w b)) none

-- the same, if it is of the kind
abbrev pub of_kind : ℕ → Option Last → Option Last
of_kind k none = none
of_kind k (some l) = cond (eqb l.kind k) (some l) none

abbrev pub last_for : Item → List ℕ → ℕ → Option Last
last_for it b w = cond (opens it) (place b w) (of_kind (item_kind it) (place b w))

-- number 10: written plus needed exceeds the smaller of the buffer and the longest area
unfoldable pub room : ℕ → ℕ → ℕ → ℕ → ℕ → Act
room n w h m need = cond (leb (w + need) (limit n)) (goes h m (w + need)) (stops (told why.NoRoom))

-- number 17, and then 10
abbrev pub else_not_plain : Bool → Act → Act
else_not_plain t a = cond t a (stops (told why.NotPlain))

-- the bytes that a call needs: a subsection has a header of 8
abbrev pub needs : ℕ → Item → ℕ
needs m it = cond (opens it) (8 + length (bytes_for m it)) (length (bytes_for m it))

abbrev pub on_last : Option Last → Act → (Last → Act) → Act
on_last none z f = z
on_last (some l) z f = f l

abbrev pub act : Item → List ℕ → ℕ → Act
act it b w =
    on_last (last_for it b w) (stops (told why.WrongPlace))
    (λ l. else_not_plain (obeys l.mark it) (room (length b) w l.header l.mark (needs l.mark it)))

-- ---- the buffer after it

-- bytes behind w, which the last subsection, whose header stands at h, takes in
abbrev pub grown : List ℕ → ℕ → List ℕ → ℕ → List ℕ
grown b w bs h = put (put b w bs) (h + 4) (le32 (w + length bs - h - 8))

-- where it goes on, the last header being at h and the last mark m
abbrev pub patch : Item → List ℕ → ℕ → ℕ → ℕ → List ℕ
patch it b w h m =
    cond (opens it) (put b w (header (item_kind it) (length (bytes_for m it)) ++ bytes_for m it)) (grown b w (bytes_for m it) h)

abbrev pub wrote : Act → Reply ℕ Told
wrote (goes h m n) = gave n
wrote (stops t) = refused t

abbrev pub kept : Act → (ℕ → ℕ → List ℕ) → List ℕ → List ℕ
kept (goes h m n) f b = f h m
kept (stops t) f b = b

-- THE ANSWER of a call, and THE BUFFER after it
abbrev pub answered : Item → List ℕ → ℕ → Reply ℕ Told
answered it b w = wrote (act it b w)

abbrev pub buffer_after : Item → List ℕ → ℕ → List ℕ
buffer_after it b w = kept (act it b w) (patch it b w) b

-- ---- the calls by their arguments

abbrev pub call_lines : ℕ → ℕ → ℕ → ℕ → Item
call_lines offset section flags code = open_lines (record { offset = offset; section = section; flags = flags; code = code })

abbrev pub call_block : ℕ → List ℕ → List ℕ → Item
call_block file lines columns = block (record { file = file; lines = lines; columns = columns })

abbrev pub call_checksum : ℕ → ℕ → List ℕ → Item
call_checksum name kind bytes = checksum (record { name = name; kind = kind; bytes = bytes })

abbrev pub call_inlinee : ℕ → ℕ → ℕ → List ℕ → Item
call_inlinee i file line extra = inlinee (record { inlinee = i; file = file; line = line; extra = extra })

abbrev pub call_module : ℕ → List ℕ → Item
call_module name words = imports (record { name = name; words = words })

abbrev pub call_pair : ℕ → ℕ → Item
call_pair local global = exports (record { local = local; global = global })

-- ---- the two shapes of a call, by what a step of the code knows: a new subsection, of whatever kind; more bytes for the last one, of kind k

abbrev pub open_act : Bool → ℕ → List ℕ → ℕ → Act
open_act t need b w = on_last (place b w) (stops (told why.WrongPlace)) (λ l. else_not_plain t (room (length b) w l.header l.mark need))

abbrev pub grow_act : ℕ → (ℕ → Bool) → (ℕ → ℕ) → List ℕ → ℕ → Act
grow_act k rule need b w =
    on_last (of_kind k (place b w)) (stops (told why.WrongPlace)) (λ l. else_not_plain (rule l.mark) (room (length b) w l.header l.mark (need l.mark)))
