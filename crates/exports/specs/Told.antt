-- What the answers of this crate tell. Source: document 01, "Refusal numbers", and the values that it names for each.
-- Definitions only; a reader must believe them.
use Rattle.std.specs.Prelude.{ℕ, Option, Result}
use Rattle.walk.specs.Listing.{Answer, Reply}
use Rattle.refusal.specs.Told.{Told}
use Rattle.refusal.specs.Answers.{told_result, told_reply, told_answer}
use Rattle.refusal.specs.declared.Refusal.{Refusal}
use Rattle.find.specs.Find.{Span}
use Rattle.find.specs.Told.{told_span}
use Rattle.find.specs.declared as found
use Rattle.body.specs.Exports.{Pair}
use Rattle.table.specs.declared.TableWalk.{TableWalk}
use Rattle.exports.specs.Exports.{Export, a_type, anId}
use Rattle.exports.specs.declared as code
use Rattle.exports.specs.declared.CrossModuleExport.{CrossModuleExport}
use Rattle.exports.specs.declared.CrossModuleExport.TheVariants as export

abbrev pub told_export : CrossModuleExport → Export
told_export (export.Type l g) = a_type l g
told_export (export.Id l g) = anId l g

abbrev pub told_one_pair : code.Pair.Pair → Pair
told_one_pair p = record { local = p.local; global = p.global }

abbrev pub told_pair : Result (Option (code.Pair.Pair × ℕ)) Refusal → Answer ℕ Pair Told
told_pair = told_answer told_one_pair

abbrev pub told_export_step : Result (Option (CrossModuleExport × TableWalk)) Refusal → Answer TableWalk Export Told
told_export_step = told_answer told_export

abbrev pub told_count : Result ℕ Refusal → Reply ℕ Told
told_count = told_result (λ n. n)

abbrev pub told_lookup : Result (Option ℕ) Refusal → Reply ℕ Told
told_lookup = told_reply (λ g. g)

abbrev pub told_body : Result found.Span.Span Refusal → Reply Span Told
told_body = told_result told_span

abbrev pub told_export_at : Result (Option CrossModuleExport) Refusal → Reply Export Told
told_export_at = told_reply told_export
