-- What the answers of this crate tell. Source: document 01, "Refusal numbers", and the values that it names for each.
-- Definitions only; a reader must believe them.
use Rattle.std.specs.Prelude.{ℕ, Option, Result}
use Rattle.walk.specs.Listing.{Answer, Reply}
use Rattle.refusal.specs.Told.{Told}
use Rattle.refusal.specs.Answers.{told_result, told_answer}
use Rattle.refusal.specs.declared.Refusal.{Refusal}
use Rattle.table.specs.declared.TableWalk.{TableWalk}
use Rattle.imports.specs.Imports.{ModuleAt, Ref}
use Rattle.imports.specs.declared.Module.{Module}
use Rattle.imports.specs.declared.CrossModuleRef.{CrossModuleRef}

abbrev pub told_row : Module → ModuleAt
told_row m = record { name = m.name; words = m.words; count = m.count }

abbrev pub told_module : Result (Option (Module × ℕ)) Refusal → Answer ℕ ModuleAt Told
told_module = told_answer told_row

abbrev pub told_import_step : Result (Option (Module × TableWalk)) Refusal → Answer TableWalk ModuleAt Told
told_import_step = told_answer told_row

abbrev pub told_ref : CrossModuleRef → Ref
told_ref r = record { name = r.name; word = r.word }

abbrev pub told_resolved : Result CrossModuleRef Refusal → Reply Ref Told
told_resolved = told_result told_ref

abbrev pub told_list : Result ℕ Refusal → Reply ℕ Told
told_list = told_result (λ n. n)
