-- `writer::put_extra` meets its contract: the count, and the words behind it.
-- Assumes nothing.
use borrow.Author.Rules.{rules}
use mathlib.Core.List.{[]}
use mathlib.Core.Path.{refl}
use native.Mathlib.Omega.{arith}
use lib.ListN.{length}
use Rattle.word.specs.Word.{le32}
use Rattle.word.specs.WordLaws.{le32_length}
use Rattle.body.specs.Words.{word_bytes}
use Rattle.writer.specs.LentLaws.{over_u32, lent_behind}
use Rattle.writer.proofs.put_extra.Statement.{statement}
use Rattle.writer.proofs.put_extra.Tie as tie

returns : tie.Need-returns
returns c =
    let a = c.args in
    let n = length a.extra.now in
    let one = over_u32 [] a.free.now a.free.now _ 0 refl refl n (omega arith) c.put_u32.ensures in
    lent_behind (le32 n) (word_bytes a.extra.now) a.free.now _ _ 4 (le32_length n) one c.put_words.ensures

pub put_extra_spec : {M : Type 1} → statement M
put_extra_spec =
    tie.close
    (tie.spec
    (λ c. search rules)
    (λ c κs. search rules)
    (λ c. search rules)
    (λ c. search rules)
    (λ c. search rules)
    (λ c κs. search rules)
    (λ c. search rules)
    returns)
