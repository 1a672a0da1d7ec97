-- The imports of an area: those of its first CROSS_SCOPE_IMPORTS subsection. Source: cvinfo.h, `CrossScopeReferences` and `CrossScopeId` (bit
-- 31 set, scope in bits 20 to 30, id in bits 0 to 19); document 01, "Cross-module tables" (resolving: area and whole body, then 5, then the
-- module and its word, either missing being 6) and "Area and subsections" (the first of its kind; without one the answer is empty).
-- Definitions only; a reader must believe them, but for `module_shown`, `in_area` to `import_step`: `imports_walk`, `imports_words` (imports ImportsLaws) say
-- what these mean.
use Rattle.std.specs.Prelude.{ℕ, ◌+◌, ◌*◌, ◌/◌, ◌%◌, List, cond, length, drop, eqb}
use Rattle.walk.specs.Listing.{Listing, Answer, Reply, gave, refused}
use Rattle.walk.specs.Pick.{on_gave}
use Rattle.refusal.specs.Told.{Told, told}
use Rattle.refusal.specs.declared.Refusal.TheVariants as why
use Rattle.kinds.specs.Kind.{CROSS_SCOPE_IMPORTS, Sort}
use Rattle.find.specs.Find.{first_sub}
use Rattle.body.specs.Words.{words_in}
use Rattle.body.specs.Imports.{Module, module_bite, modules}
use Rattle.table.specs.declared.TableWalk.{TableWalk}
use Rattle.table.specs.Table.{table_step, table_of}
use Rattle.table.specs.Rows.{rows_placed, row_at, rows_from}
use Rattle.table.specs.Collect.{collected, of_nth}

-- THE MODULES of an area
abbrev pub modules_of : (ℕ → Sort) → List ℕ → Listing Module Told
modules_of rule s = table_of modules (λ (_ : ℕ) (m : Module). m) s (first_sub rule CROSS_SCOPE_IMPORTS s)

-- a reference to the word of a module
pub record Ref : Type 0 where
  pub name : ℕ
  pub word : ℕ

-- the parts of an index: the module that it picks, and the word there
abbrev pub scope_of : ℕ → ℕ
scope_of index = index / 0x10_0000 % 0x800

abbrev pub id_of : ℕ → ℕ
id_of index = index % 0x10_0000

-- y if an index is a reference, else 5
unfoldable pub if_ref : ℕ → Reply Ref Told → Reply Ref Told
if_ref index y = cond (eqb (index / 0x8000_0000 % 2) 1) y (refused (told (why.NotACrossModuleRef index)))

-- the reference to the word that an index picks in a module, else 6
abbrev pub ref_in : ℕ → Module → Reply Ref Told
ref_in index m =
    of_nth (id_of index) m.words (refused (told (why.CrossModuleRefNotFound index))) (λ (w : ℕ). gave (record { name = m.name; word = w }))

-- the reference that an index makes: to a word of the module that it picks, else 6
abbrev pub ref_of : ℕ → List Module → Reply Ref Told
ref_of index ms =
    if_ref index (of_nth (scope_of index) ms (refused (told (why.CrossModuleRefNotFound index))) (ref_in index))

abbrev pub resolve_import : (ℕ → Sort) → List ℕ → ℕ → Reply Ref Told
resolve_import rule s index = on_gave (ref_of index) (collected (modules_of rule s))

-- a module as an answer tells it: its name, the place of its words, and their number
pub record ModuleAt : Type 0 where
  pub name : ℕ
  pub words : ℕ
  pub count : ℕ

-- a module with its words, of the bytes s, in place of where they stand
abbrev pub module_of : List ℕ → ModuleAt → Module
module_of s m = record { name = m.name; words = words_in m.count (drop m.words s) }

-- a module at place p of a body as an answer tells it, and how many bytes it has
abbrev pub module_shown : ℕ → Module → ModuleAt
module_shown p m = record { name = m.name; words = p + 8; count = length m.words }

abbrev pub module_size : Module → ℕ
module_size m = 8 + 4 * length m.words

-- a module of the body at start, the place of its words counted from the area's start
abbrev pub in_area : ℕ → ModuleAt → ModuleAt
in_area start m = record { name = m.name; words = start + m.words; count = m.count }

-- THE IMPORTS of an area: its modules with their places
abbrev pub imports_of : (ℕ → Sort) → List ℕ → Listing ModuleAt Told
imports_of rule s = table_of (λ (b : List ℕ). rows_placed module_size module_shown 0 (modules b)) in_area s (first_sub rule CROSS_SCOPE_IMPORTS s)

-- one step of a walk over the imports: the module at a place of the body, and where the walk goes on
abbrev pub module_at : List ℕ → ℕ → Answer ℕ ModuleAt Told
module_at = row_at module_bite module_size module_shown

-- the modules of a body from a place on, with their places
abbrev pub modules_from : List ℕ → ℕ → Listing ModuleAt Told
modules_from = rows_from module_bite module_size module_shown

abbrev pub import_step : (ℕ → Sort) → List ℕ → TableWalk → Answer TableWalk ModuleAt Told
import_step rule s w = table_step module_at in_area (first_sub rule CROSS_SCOPE_IMPORTS s) s w
