-- `writer::put_inlinee` meets its contract: three words, and behind them the extra files under the signature 1.
-- Assumes nothing.
use borrow.Author.Rules.{rules}
use Prim.Native.Nat.{ℕ, ◌+◌, ◌*◌}
use mathlib.Core.List.{List, ◌++◌}
use mathlib.Core.Path.{ap, ◌∙◌}
use native.Mathlib.Omega.{arith}
use lib.ListN.{length}
use Rattle.word.specs.Word.{le32}
use Rattle.body.specs.Words.{word_bytes}
use Rattle.writer.specs.LentLaws.{over, lent_room, lent_behind, three_two, extra_at, inlinee_one, inlinee_other}
use Rattle.writer.proofs.put_inlinee.Statement.{statement}
use Rattle.writer.proofs.put_inlinee.Tie as tie

put-extra-requires : tie.Need-put_extra-requires
put-extra-requires c κs =
    let a = c.args in
    let n = length a.extra.now in
    (lent_room 12 (4 + 4 * n) c.put_three.new.free (omega (arith, extra_at a.mark n c.if-mark-eq1.true, c.put_three.auto.free)), omega arith)

returns : tie.Need-returns-then-mark-eq1
returns c =
    let a = c.args in
    let ws = a.extra.now in
    lent_behind ((le32 a.inlinee ++ le32 a.file) ++ le32 a.line) (le32 (length ws) ++ word_bytes ws) a.free.now _ _ 12
    (three_two a.inlinee a.file a.line) c.put_three.ensures c.put_extra.ensures
    ∙ ap (λ (x : List ℕ). over x a.free.now) (inlinee_one a.mark a.inlinee a.file a.line ws c.if-mark-eq1.true)

returns-2 : tie.Need-returns-else-mark-eq1
returns-2 c =
    let a = c.args in
    c.put_three.ensures
    ∙ ap (λ (x : List ℕ). over x a.free.now) (inlinee_other a.mark a.inlinee a.file a.line a.extra.now c.if-mark-eq1.false)

pub put_inlinee_spec : {M : Type 1} → statement M
put_inlinee_spec =
    tie.close
    (tie.spec
    (λ c κs. search rules)
    (λ c. search rules)
    (λ c. search rules)
    (λ c. search rules)
    put-extra-requires
    (λ c. search rules)
    returns
    (λ c. search rules)
    returns-2)
