-- `dump::print` meets its contract: the slots are those that the order list leaves, and suffice; the size of the last line tells a refusal.
-- Assumes nothing.
use Rattle.std.proofs.Common.{ℕ, sym, ap, ◌∙◌, ltb, replicate}
use Rattle.std.proofs.lemmas.List.{length-replicate}
use Rattle.walk.specs.Listing.{Listing}
use Rattle.refusal.specs.Told.{Told}
use Rattle.kinds.specs.Kind.{crate_rule}
use Rattle.printed.specs.Printed.{Pieces}
use Rattle.listing.specs.Dump.{sheet_size}
use Rattle.dump.specs.LineLaws.{last_size, enough, last_tells}
use Rattle.dump.proofs.print.Goals as goal

pub returns-clause-lines : goal.returns-clause-lines
returns-clause-lines g c =
    c.print_lines.ensures.lines
    ∙ ap sheet_size (enough crate_rule _ (replicate 3277 0) _ c.order_list.ensures.slots_after (sym (length-replicate {A = ℕ} 3277 0)))

pub returns-clause-refused : goal.returns-clause-refused
returns-clause-refused g c =
    c.print_lines.ensures.refused
    ∙ ap (λ (l : Listing Pieces Told). ltb 4 (last_size 0 l)) (enough crate_rule _ (replicate 3277 0) _ c.order_list.ensures.slots_after (sym (length-replicate {A = ℕ} 3277 0)))
    ∙ last_tells crate_rule _
