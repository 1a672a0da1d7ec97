-- Nothing is lost in what the answers of this crate tell: no second one tells the same.
use Rattle.std.specs.Prelude.{ℕ, ◌≡◌, refl, Option, Result}
use Rattle.walk.specs.Listing.{Answer, Reply}
use Rattle.refusal.specs.Told.{Told}
use Rattle.refusal.specs.Untold.{untold_result, untold_result_lem, untold_answer, untold_answer_lem}
use Rattle.refusal.specs.declared.Refusal.{Refusal}
use Rattle.table.specs.declared.TableWalk.{TableWalk}
use Rattle.imports.specs.Imports.{ModuleAt, Ref}
use Rattle.imports.specs.declared.Module.{Module}
use Rattle.imports.specs.declared.CrossModuleRef.{CrossModuleRef}
use Rattle.imports.specs.Told.{told_row, told_module, told_import_step, told_ref, told_resolved, told_list}

abbrev pub untold_row : ModuleAt → Module
untold_row m = record { name = m.name; words = m.words; count = m.count }

abbrev pub untold_module : Answer ℕ ModuleAt Told → Result (Option (Module × ℕ)) Refusal
untold_module = untold_answer told_row untold_row (λ m. refl)

pub untold_module_lem : (h : Result (Option (Module × ℕ)) Refusal) → untold_module (told_module h) ≡ h
untold_module_lem = untold_answer_lem told_row untold_row (λ m. refl)

abbrev pub untold_step : Answer TableWalk ModuleAt Told → Result (Option (Module × TableWalk)) Refusal
untold_step = untold_answer told_row untold_row (λ m. refl)

pub untold_step_lem : (h : Result (Option (Module × TableWalk)) Refusal) → untold_step (told_import_step h) ≡ h
untold_step_lem = untold_answer_lem told_row untold_row (λ m. refl)

abbrev pub untold_ref : Ref → CrossModuleRef
untold_ref r = record { name = r.name; word = r.word }

abbrev pub untold_resolved : Reply Ref Told → Result CrossModuleRef Refusal
untold_resolved = untold_result told_ref untold_ref (λ r. refl)

pub untold_resolved_lem : (h : Result CrossModuleRef Refusal) → untold_resolved (told_resolved h) ≡ h
untold_resolved_lem = untold_result_lem told_ref untold_ref (λ r. refl)

abbrev pub untold_list : Reply ℕ Told → Result ℕ Refusal
untold_list = untold_result (λ n. n) (λ n. n) (λ n. refl)

pub untold_list_lem : (h : Result ℕ Refusal) → untold_list (told_list h) ≡ h
untold_list_lem = untold_result_lem (λ n. n) (λ n. n) (λ n. refl)
