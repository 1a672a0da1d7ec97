-- The entries of a checksum body as calls answer them: where the bytes of each stand. Source: cvinfo.h, checksum entry (name offset in the string
-- table, size u8, kind u8, bytes, padding) and `CV_SourceChksum_t` (NONE 0, MD5 1, SHA1 2, SHA_256 3); document 01, "Checksums, inlinees": 1 for
-- head or bytes, 3 for the kind, then the alignment to 4 from the start of the body, missing padding being 1; any size is read, and kind 0 drops
-- its bytes; docs/DECISIONS.md: it answers the place where they stood, and length 0.
-- Definitions only; a reader must believe them, but for `entry_spelt`: no public contract cites it.
use Rattle.std.specs.Prelude.{ℕ, ◌+◌, ◌-◌, List, [], cond, length, take, drop, get_or, ltb, eqb}
use Rattle.word.specs.Word.{u32_at}
use Rattle.walk.specs.Listing.{Listing, Answer, gives, none, refuses, Reply, gave, refused, moved, all}
use Rattle.refusal.specs.Told.{Told, told}
use Rattle.refusal.specs.declared.Refusal.TheVariants as why
use Rattle.body.specs.Checksums.{Checksum, up4}

-- an entry as an answer tells it: name, kind, and where the checksum's bytes stand: in the body or, of a file of an area (files Files), in the area
pub record Entry : Type 0 where
  pub name : ℕ
  pub kind : ℕ
  pub start : ℕ
  pub len : ℕ

-- a byte as a kind
unfoldable pub checksum_kind : ℕ → Reply ℕ Told
checksum_kind k = cond (ltb 3 k) (refused (told (why.UnknownChecksumKind k))) (gave k)

-- how many of its bytes a checksum keeps: kind 0 drops them
unfoldable pub kept_of : ℕ → ℕ → ℕ
kept_of kind size = cond (eqb kind 0) 0 size

-- an entry of a body of m bytes, with head and bytes whole, the bytes at start: the kind, and the padding counted from the body's start
unfoldable pub closed_as : ℕ → ℕ → ℕ → ℕ → ℕ → Answer ℕ Entry Told
closed_as m name kind start size =
    cond (ltb 3 kind) (refuses (told (why.UnknownChecksumKind kind)))
    (cond (ltb m (up4 (start + size))) (refuses (told why.Cut))
    (gives (record { name = name; kind = kind; start = start; len = kept_of kind size }) (up4 (start + size))))

-- the entry at place p of the body b, and the place behind its padding: past the body, at its end, the head whole, the bytes whole
unfoldable pub entry_at : List ℕ → ℕ → Answer ℕ Entry Told
entry_at b p =
    cond (ltb (length b) p) (refuses (told why.Cut))
    (cond (eqb (length b - p) 0) none
    (cond (ltb (length b - p) 6) (refuses (told why.Cut))
    (cond (ltb (length b - p - 6) (get_or b (p + 4) 0)) (refuses (told why.Cut))
    (closed_as (length b) (u32_at b p) (get_or b (p + 5) 0) (p + 6) (get_or b (p + 4) 0)))))

-- THE ENTRIES of a body from a place on
unfoldable pub entries_from : List ℕ → ℕ → Listing Entry Told
entries_from b = all (λ (p : ℕ). moved (entry_at b p)) (λ (p : ℕ). length b - p)

-- an entry with its bytes in place of where they stand
abbrev pub entry_spelt : List ℕ → Entry → Checksum
entry_spelt b e = record { name = e.name; kind = e.kind; bytes = take e.len (drop e.start b) }

-- a raw entry as calls answer it: without the bytes of kind 0
abbrev pub shown : Checksum → Checksum
shown c = record { name = c.name; kind = c.kind; bytes = cond (eqb c.kind 0) [] c.bytes }
