-- `writer::put_module` meets its contract: the name and the count, and the words behind them.
-- Assumes nothing.
use borrow.Author.Rules.{rules}
use Prim.Native.Nat.{ℕ}
use mathlib.Core.List.{List, append_assoc}
use mathlib.Core.Path.{ap, ◌∙◌}
use lib.ListN.{length}
use Rattle.word.specs.Word.{le32, header}
use Rattle.word.specs.WordLaws.{header_length}
use Rattle.body.specs.Words.{word_bytes}
use Rattle.writer.specs.LentLaws.{over, lent_behind}
use Rattle.writer.proofs.put_module.Statement.{statement}
use Rattle.writer.proofs.put_module.Tie as tie

returns : tie.Need-returns
returns c =
    let a = c.args in
    let n = length a.words.now in
    let W = word_bytes a.words.now in
    lent_behind (header a.name n) W a.free.now _ _ 8 (header_length a.name n) c.put_two.ensures c.put_words.ensures
    ∙ ap (λ (x : List ℕ). over x a.free.now) (append_assoc (le32 a.name) (le32 n) W)

pub put_module_spec : {M : Type 1} → statement M
put_module_spec =
    tie.close
    (tie.spec
    (λ c. search rules)
    (λ c κs. search rules)
    (λ c. search rules)
    (λ c. search rules)
    (λ c. search rules)
    (λ c κs. search rules)
    (λ c. search rules)
    returns)
