-- The body of a FILE_CHECKSUMS subsection: entries one after the other, each padded to 4 from the start of the body. Source: cvinfo.h,
-- checksum entry (name offset in the string table, size u8, kind u8, bytes, padding) and `CV_SourceChksum_t` (NONE 0, MD5 1, SHA1 2,
-- SHA_256 3); document 01, "Checksums, inlinees": head or bytes 1, kind above 3 is 3, missing padding 1; any size is read.
-- Definitions only; a reader must believe them, but for `zeros`, `checksum_bytes`: `decided` (round_trip DecidedHolds) says what these mean.
use Rattle.std.specs.Prelude.{ℕ, zero, suc, ◌+◌, ◌-◌, ◌*◌, ◌/◌, List, [], ◌∷◌, ◌++◌, cond, length, take, drop, get_or, ltb, eqb}
use Rattle.word.specs.Word.{u32_at, le32}
use Rattle.walk.specs.Listing.{Move, item, over, fail, Listing, all}
use Rattle.refusal.specs.Told.{Told, told}
use Rattle.refusal.specs.declared.Refusal.TheVariants as why

-- a raw entry: what its bytes say, the padding left out
pub record Checksum : Type 0 where
  pub name : ℕ
  pub kind : ℕ
  pub bytes : List ℕ

-- the next multiple of 4
abbrev pub up4 : ℕ → ℕ
up4 n = (n + 3) / 4 * 4

-- the front of the bytes: nothing, an entry and the bytes behind its padding, or a refusal
unfoldable pub checksum_bite : List ℕ → Move (List ℕ) Checksum Told
checksum_bite s =
    cond (eqb (length s) 0) over
    (cond (ltb (length s) 6) (fail (told why.Cut))
    (cond (ltb (length s - 6) (get_or s 4 0)) (fail (told why.Cut))
    (cond (ltb 3 (get_or s 5 0)) (fail (told (why.UnknownChecksumKind (get_or s 5 0))))
    (cond (ltb (length s) (up4 (6 + get_or s 4 0))) (fail (told why.Cut))
    (item (record { name = u32_at s 0; kind = get_or s 5 0; bytes = take (get_or s 4 0) (drop 6 s) }) (drop (up4 (6 + get_or s 4 0)) s))))))

unfoldable pub checksums : List ℕ → Listing Checksum Told
checksums = all checksum_bite length

-- the bytes of an entry, its padding zero
unfoldable pub zeros : ℕ → List ℕ
zeros zero = []
zeros (suc n) = 0 ∷ zeros n

abbrev pub checksum_bytes : Checksum → List ℕ
checksum_bytes c =
    le32 c.name ++ (length c.bytes ∷ c.kind ∷ (c.bytes ++ zeros (up4 (6 + length c.bytes) - (6 + length c.bytes))))
