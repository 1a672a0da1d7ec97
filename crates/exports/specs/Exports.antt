-- The exports of an area: those of its first CROSS_SCOPE_EXPORTS subsection. Source: cvinfo.h, `LocalIdAndGlobalIdPair`; document 01,
-- "Cross-module tables" (bit 31 of local tells Id from Type; a lookup tests 9 over all pairs, without sign, then gives the global or none; the
-- length is the number of pairs) and "Area and subsections" (the first of its kind; without one the answer is empty).
-- Definitions only; a reader must believe them, but for `pair_size`, `export_in`, `pair_at` to `export_step`: `exports_walk` (exports ExportsLaws) says what
-- these mean.
use Rattle.std.specs.Prelude.{ℕ, ◌/◌, ◌%◌, List, [], ◌∷◌, Bool, true, cond, ◌&&◌, length, ltb, eqb}
use Rattle.walk.specs.Listing.{Listing, fails, mapped, Answer, refuses, Reply, gave, nothing, refused}
use Rattle.walk.specs.Pick.{on_gave}
use Rattle.refusal.specs.Told.{Told, told}
use Rattle.refusal.specs.declared.Refusal.TheVariants as why
use Rattle.kinds.specs.Kind.{CROSS_SCOPE_EXPORTS, Sort}
use Rattle.find.specs.Find.{same, first_sub}
use Rattle.body.specs.Exports.{Pair, pair_bite, pairs}
use Rattle.table.specs.declared.TableWalk.{TableWalk}
use Rattle.table.specs.Table.{shifted, table_step, table_of}
use Rattle.table.specs.Rows.{row_at, rows_from}
use Rattle.table.specs.Collect.{collected, listing_count}

-- an export, local and global index
pub data Export : Type 0 where
  a_type anId : ℕ → ℕ → Export

-- a pair as an export: bit 31 of the local index, which stays in it, tells an id from a type
unfoldable pub export_of : Pair → Export
export_of p = cond (eqb (p.local / 0x8000_0000 % 2) 1) (anId p.local p.global) (a_type p.local p.global)

-- a pair's bytes; a pair is told without its place
abbrev pub pair_size : Pair → ℕ
pair_size p = 8

abbrev pub unplaced : ℕ → Pair → Pair
unplaced at p = p

abbrev pub export_in : ℕ → Pair → Export
export_in start p = export_of p

-- THE PAIRS of an area, and its exports
abbrev pub pairs_of : (ℕ → Sort) → List ℕ → Listing Pair Told
pairs_of rule s = table_of pairs unplaced s (first_sub rule CROSS_SCOPE_EXPORTS s)

abbrev pub exports_of : (ℕ → Sort) → List ℕ → Listing Export Told
exports_of rule s = mapped export_of same (pairs_of rule s)

abbrev pub export_count : (ℕ → Sort) → List ℕ → Reply ℕ Told
export_count rule s = listing_count (pairs_of rule s)

-- each local index is above the one before it
abbrev pub above : ℕ → List Pair → Bool
above n [] = true
above n (p ∷ ps) = ltb n p.local

unfoldable pub ascends : List Pair → Bool
ascends [] = true
ascends (p ∷ ps) = above p.local ps && ascends ps

-- the global index of a local one
unfoldable pub global_of : ℕ → List Pair → Reply ℕ Told
global_of n [] = nothing
global_of n (p ∷ ps) = cond (eqb p.local n) (gave p.global) (global_of n ps)

unfoldable pub lookup : ℕ → List Pair → Reply ℕ Told
lookup n ps = cond (ascends ps) (global_of n ps) (refused (told why.UnsortedExports))

abbrev pub resolve_export : (ℕ → Sort) → List ℕ → ℕ → Reply ℕ Told
resolve_export rule s n = on_gave (lookup n) (collected (pairs_of rule s))

-- one step of a walk over the exports: the pair at a place of the body, and where the walk goes on
unfoldable pub pair_at : List ℕ → ℕ → Answer ℕ Pair Told
pair_at b p =
    cond (eqb (length b % 8) 0) (row_at pair_bite pair_size unplaced b p) (refuses (told why.ExportLength))

-- the pairs of a body from a place on
abbrev pub pairs_from : List ℕ → ℕ → Listing Pair Told
pairs_from b p = cond (eqb (length b % 8) 0) (rows_from pair_bite pair_size unplaced b p) (fails (told why.ExportLength))

abbrev pub export_shown : ℕ → ℕ → Answer ℕ Pair Told → Answer TableWalk Export Told
export_shown = shifted export_in

abbrev pub export_step : (ℕ → Sort) → List ℕ → TableWalk → Answer TableWalk Export Told
export_step rule s w = table_step pair_at export_in (first_sub rule CROSS_SCOPE_EXPORTS s) s w
