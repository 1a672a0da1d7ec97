-- What the answers of this crate tell. Source: document 01, "Refusal numbers", and the values that it names for each.
-- Definitions only; a reader must believe them, but for `told_head`: no public contract cites it.
use Rattle.std.specs.Prelude.{ℕ, Option, None, Some, Result, Ok, Err}
use Rattle.walk.specs.Listing.{Move, item, pass, over, fail, Answer}
use Rattle.refusal.specs.Told.{Told, told}
use Rattle.refusal.specs.Answers.{told_answer}
use Rattle.refusal.specs.declared.Refusal.{Refusal}
use Rattle.area.specs.Subs.{Sub, WalkStep}
use Rattle.area.specs.declared.Head.{Head}
use Rattle.area.specs.declared.Head.TheVariants as head
use Rattle.area.specs.declared as code
use Rattle.area.specs.declared.Stepped.{Stepped}

abbrev pub told_sub : code.Sub.Sub → Sub
told_sub b = record { kind = b.kind; start = b.start; len = b.len }

abbrev pub told_head : Result (Option Head) Refusal → Move ℕ Sub Told
told_head (Ok (Some (head.Sub b x))) = item (told_sub b) x
told_head (Ok (Some (head.Skip x))) = pass x
told_head (Ok None) = over
told_head (Err r) = fail (told r)

abbrev pub told_step : Result (Option (code.Sub.Sub × ℕ)) Refusal → Answer ℕ Sub Told
told_step = told_answer told_sub

abbrev pub told_stepped : Stepped → WalkStep
told_stepped q = record { answer = told_step q.step; behind = q.walk.at }
