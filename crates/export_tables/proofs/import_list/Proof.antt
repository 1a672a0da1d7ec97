-- `export_tables::import_list` meets its contract: without two words nothing; else the words of what `import_list` tells, and the slots as that leaves
-- them.
-- Assumes nothing.
use borrow.Author.Rules.{rules}
use mathlib.Core.Path.{sym, ap, ◌∙◌}
use native.Mathlib.Omega.{arith}
use Rattle.imports.specs.Told.{told_list}
use Rattle.answer_words.specs.Given.{refusal_size, one, reply_given}
use Rattle.answer_words.specs.GivenLaws.{gives_as, room_changes, room_keeps}
use Rattle.export_tables.proofs.import_list.Statement.{statement}
use Rattle.export_tables.proofs.import_list.Tie as tie

pub import_list_spec : {M : Type 1} → statement M
import_list_spec =
    tie.close
    (tie.spec
    (λ c. room_keeps refusal_size _ _ _ _ (omega arith))
    (λ c κs. search rules)
    (λ c. search rules)
    (λ c. search rules)
    (λ c κs. search rules)
    (λ c. search rules)
    (λ c κs. search rules)
    (λ c. search rules)
    (λ c. search rules)
    (λ c.
    let l = c.import_list.ensures in
    let e = ap told_list (sym c.in-Ok.is) ∙ l.0 in
    room_changes refusal_size _ _ _ _ (omega arith) (gives_as (reply_given one) e c.put.ensures) l.1)
    (λ c. search rules)
    (λ c. search rules)
    (λ c.
    let l = c.import_list.ensures in
    let e = ap told_list (sym c.in-Err.is) ∙ l.0 in
    room_changes refusal_size _ _ _ _ (omega arith) (gives_as (reply_given one) e c.put_refusal.ensures) l.1))
