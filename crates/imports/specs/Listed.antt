-- A list of the import modules of an area: where the head of each stands, in lent slots; and a reference resolved by a list that is lent. Source: document
-- 01, "Cross-module tables" (the area and the whole body come first; a module or a word that is missing is 6), numbers 10 and 11, "a place past the lent
-- bytes is 1", and "lent memory stays as found" of a refused call.
-- Definitions only; a reader must believe them, but for `ref_on` to `resolve_listed`: `listed_resolves` (imports MadeListLaws) says what these mean.
use Rattle.std.specs.Prelude.{ℕ, ◌+◌, List, ◌++◌, cond, length, drop, ltb}
use Rattle.walk.specs.Listing.{Listing, Answer, gives, none, refuses, Reply, gave, nothing, refused}
use Rattle.walk.specs.Pick.{on_gave}
use Rattle.refusal.specs.Told.{Told, told, longest}
use Rattle.refusal.specs.declared.Refusal.TheVariants as why
use Rattle.kinds.specs.Kind.{CROSS_SCOPE_IMPORTS, Sort}
use Rattle.find.specs.Find.{first_sub}
use Rattle.body.specs.Imports.{Module, modules}
use Rattle.table.specs.Table.{table_of}
use Rattle.table.specs.Rows.{rows_placed}
use Rattle.table.specs.Collect.{collected, of_nth}
use Rattle.imports.specs.Imports.{Ref, ModuleAt, module_of, module_size, module_at, scope_of, if_ref, ref_in}

-- a module at place p of a body, told by its place alone
abbrev pub module_place : ℕ → Module → ℕ
module_place p m = p

-- THE PLACES of an area's modules, counted from the area's start
abbrev pub import_places : (ℕ → Sort) → List ℕ → Listing ℕ Told
import_places rule s = table_of (λ (b : List ℕ). rows_placed module_size module_place 0 (modules b)) ◌+◌ s (first_sub rule CROSS_SCOPE_IMPORTS s)

-- all places, if m slots are enough, else 10
abbrev pub if_slots : ℕ → Reply (List ℕ) Told → Reply (List ℕ) Told
if_slots m = on_gave (λ (ps : List ℕ). cond (ltb m (length ps)) (refused (told why.NoRoom)) (gave ps))

-- the answer of the list for m slots: how many of them it takes
abbrev pub slots_used : Reply (List ℕ) Told → Reply ℕ Told
slots_used = on_gave (λ (ps : List ℕ). gave (length ps))

abbrev pub import_list : (ℕ → Sort) → List ℕ → ℕ → Reply ℕ Told
import_list rule s m = slots_used (if_slots m (collected (import_places rule s)))

-- the slots behind it, which held xs before
abbrev pub slots_with : List ℕ → Reply (List ℕ) Told → List ℕ
slots_with xs (gave ps) = ps ++ drop (length ps) xs
slots_with xs nothing = xs
slots_with xs (refused t) = xs

abbrev pub places_after : (ℕ → Sort) → List ℕ → List ℕ → List ℕ
places_after rule s xs = slots_with xs (if_slots (length xs) (collected (import_places rule s)))

-- the reference to the word that an index picks in the module at a place of the bytes s: 1 where no whole module stands there
abbrev pub ref_on : List ℕ → ℕ → Answer ℕ ModuleAt Told → Reply Ref Told
ref_on s index (gives m x) = ref_in index (module_of s m)
ref_on s index none = refused (told why.Cut)
ref_on s index (refuses t) = refused t

abbrev pub ref_at : List ℕ → ℕ → ℕ → Reply Ref Told
ref_at s index p = ref_on s index (module_at s p)

-- A REFERENCE RESOLVED by the list v of places of the area s, whatever they are: the module that it picks is the one at its place
unfoldable pub resolve_listed : List ℕ → List ℕ → ℕ → Reply Ref Told
resolve_listed s v index =
    cond (ltb longest (length s)) (refused (told why.TooLong))
    (if_ref index (of_nth (scope_of index) v (refused (told (why.CrossModuleRefNotFound index))) (ref_at s index)))
