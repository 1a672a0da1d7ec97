-- Nothing is lost in what the answers of this crate tell: no second one tells the same.
use Rattle.std.specs.Prelude.{ℕ, ◌≡◌, refl, Option, Result}
use Rattle.walk.specs.Listing.{Answer, Reply}
use Rattle.refusal.specs.Told.{Told}
use Rattle.refusal.specs.Untold.{untold_result, untold_result_lem, untold_reply, untold_reply_lem, untold_answer, untold_answer_lem}
use Rattle.refusal.specs.declared.Refusal.{Refusal}
use Rattle.find.specs.Find.{Span}
use Rattle.find.specs.Told.{told_span}
use Rattle.find.specs.Untold.{untold_span}
use Rattle.find.specs.declared as found
use Rattle.body.specs.Exports.{Pair}
use Rattle.table.specs.declared.TableWalk.{TableWalk}
use Rattle.exports.specs.Exports.{Export, a_type, anId}
use Rattle.exports.specs.declared as code
use Rattle.exports.specs.declared.CrossModuleExport.{CrossModuleExport}
use Rattle.exports.specs.declared.CrossModuleExport.TheVariants as export
use Rattle.exports.specs.Told.{told_export, told_one_pair, told_pair, told_export_step, told_count, told_lookup, told_body, told_export_at}

abbrev pub untold_export : Export → CrossModuleExport
untold_export (a_type l g) = export.Type l g
untold_export (anId l g) = export.Id l g

pub untold_export_lem : (e : CrossModuleExport) → untold_export (told_export e) ≡ e
untold_export_lem (export.Type l g) = refl
untold_export_lem (export.Id l g) = refl

abbrev pub untold_one_pair : Pair → code.Pair.Pair
untold_one_pair p = record { local = p.local; global = p.global }

abbrev pub untold_pair : Answer ℕ Pair Told → Result (Option (code.Pair.Pair × ℕ)) Refusal
untold_pair = untold_answer told_one_pair untold_one_pair (λ p. refl)

pub untold_pair_lem : (h : Result (Option (code.Pair.Pair × ℕ)) Refusal) → untold_pair (told_pair h) ≡ h
untold_pair_lem = untold_answer_lem told_one_pair untold_one_pair (λ p. refl)

abbrev pub untold_step : Answer TableWalk Export Told → Result (Option (CrossModuleExport × TableWalk)) Refusal
untold_step = untold_answer told_export untold_export untold_export_lem

pub untold_step_lem : (h : Result (Option (CrossModuleExport × TableWalk)) Refusal) → untold_step (told_export_step h) ≡ h
untold_step_lem = untold_answer_lem told_export untold_export untold_export_lem

abbrev pub untold_count : Reply ℕ Told → Result ℕ Refusal
untold_count = untold_result (λ n. n) (λ n. n) (λ n. refl)

pub untold_count_lem : (h : Result ℕ Refusal) → untold_count (told_count h) ≡ h
untold_count_lem = untold_result_lem (λ n. n) (λ n. n) (λ n. refl)

abbrev pub untold_lookup : Reply ℕ Told → Result (Option ℕ) Refusal
untold_lookup = untold_reply (λ g. g) (λ g. g) (λ g. refl)

pub untold_lookup_lem : (h : Result (Option ℕ) Refusal) → untold_lookup (told_lookup h) ≡ h
untold_lookup_lem = untold_reply_lem (λ g. g) (λ g. g) (λ g. refl)

abbrev pub untold_body : Reply Span Told → Result found.Span.Span Refusal
untold_body = untold_result told_span untold_span (λ a. refl)

pub untold_body_lem : (h : Result found.Span.Span Refusal) → untold_body (told_body h) ≡ h
untold_body_lem = untold_result_lem told_span untold_span (λ a. refl)

abbrev pub untold_export_at : Reply Export Told → Result (Option CrossModuleExport) Refusal
untold_export_at = untold_reply told_export untold_export untold_export_lem

pub untold_export_at_lem : (h : Result (Option CrossModuleExport) Refusal) → untold_export_at (told_export_at h) ≡ h
untold_export_at_lem = untold_reply_lem told_export untold_export untold_export_lem
