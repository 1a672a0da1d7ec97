-- `writer::put_block` meets its contract: the header, the words of the lines, and the words of the columns, each behind the one before.
-- Assumes nothing.
use borrow.Author.Rules.{rules}
use Prim.Native.Nat.{ℕ, ◌+◌, ◌*◌, ◌/◌}
use mathlib.Core.List.{List, ◌++◌}
use mathlib.Core.Path.{◌≡◌, ap, ◌∙◌}
use native.Mathlib.Omega.{arith}
use lib.ListN.{length, length-append}
use Rattle.word.specs.Word.{le32}
use Rattle.body.specs.Words.{word_bytes}
use Rattle.body.specs.WordsLaws.{word_length}
use Rattle.writer.specs.LentLaws.{over, lent_behind, three_two, block_is}
use Rattle.writer.proofs.put_block.Statement.{statement}
use Rattle.writer.proofs.put_block.Tie as tie

returns : tie.Need-returns
returns c =
    let a = c.args in
    let n = length a.lines.now in
    let size = 12 + 4 * n + 4 * length a.columns.now in
    let T : List ℕ = (le32 a.file ++ le32 (n / 2)) ++ le32 size in
    let X : List ℕ = word_bytes a.lines.now in
    let lt = three_two a.file (n / 2) size in
    let lx : length (T ++ X) ≡ 12 + 4 * n = length-append T X ∙ omega (arith, word_length a.lines.now) in
    let two = lent_behind T X a.free.now _ _ 12 lt c.put_three.ensures c.put_words.ensures in
    lent_behind (T ++ X) (word_bytes a.columns.now) a.free.now _ _ (12 + 4 * n) lx two c.put_words-2.ensures
    ∙ ap (λ (x : List ℕ). over x a.free.now) (block_is a.file a.lines.now a.columns.now)

pub put_block_spec : {M : Type 1} → statement M
put_block_spec =
    tie.close
    (tie.spec
    (λ c. search rules)
    (λ c. search rules)
    (λ c. search rules)
    (λ c. search rules)
    (λ c. search rules)
    (λ c. search rules)
    (λ c κs. search rules)
    (λ c. search rules)
    (λ c. search rules)
    (λ c. search rules)
    (λ c κs. search rules)
    (λ c. search rules)
    (λ c. search rules)
    (λ c. search rules)
    (λ c. search rules)
    (λ c κs. search rules)
    (λ c. search rules)
    returns)
