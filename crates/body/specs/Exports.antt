-- The body of a CROSS_SCOPE_EXPORTS subsection: pairs one after the other. Source: cvinfo.h, `LocalIdAndGlobalIdPair` (localId, globalId);
-- document 01, "Cross-module tables" and number 4: a body that is no multiple of 8 bytes has none.
-- Definitions only; a reader must believe them, but for `pair_bytes`: `decided` (round_trip DecidedHolds) says what it means.
use Rattle.std.specs.Prelude.{ℕ, ◌%◌, List, ◌++◌, cond, length, drop, ltb, eqb}
use Rattle.word.specs.Word.{u32_at, le32}
use Rattle.walk.specs.Listing.{Move, item, over, fail, Listing, fails, all}
use Rattle.refusal.specs.Told.{Told, told}
use Rattle.refusal.specs.declared.Refusal.TheVariants as why

pub record Pair : Type 0 where
  pub local : ℕ
  pub global : ℕ

unfoldable pub pair_bite : List ℕ → Move (List ℕ) Pair Told
pair_bite s =
    cond (eqb (length s) 0) over
    (cond (ltb (length s) 8) (fail (told why.ExportLength))
    (item (record { local = u32_at s 0; global = u32_at s 4 }) (drop 8 s)))

unfoldable pub pairs : List ℕ → Listing Pair Told
pairs s = cond (eqb (length s % 8) 0) (all pair_bite length s) (fails (told why.ExportLength))

-- the bytes of a pair
abbrev pub pair_bytes : Pair → List ℕ
pair_bytes p = le32 p.local ++ le32 p.global
