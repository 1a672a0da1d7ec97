-- `writer::put_two` meets its contract: a word stored behind a word.
-- Assumes nothing.
use borrow.Author.Rules.{rules}
use mathlib.Core.List.{[]}
use mathlib.Core.Path.{refl}
use native.Mathlib.Omega.{arith}
use Rattle.word.specs.Word.{le32}
use Rattle.word.specs.WordLaws.{le32_length}
use Rattle.writer.specs.LentLaws.{over_u32}
use Rattle.writer.proofs.put_two.Statement.{statement}
use Rattle.writer.proofs.put_two.Tie as tie

returns : tie.Need-returns
returns c =
    let a = c.args in
    let one = over_u32 [] a.free.now a.free.now _ 0 refl refl a.a (omega arith) c.put_u32.ensures in
    over_u32 (le32 a.a) a.free.now _ _ 4 (le32_length a.a) one a.b (omega arith) c.put_u32-2.ensures

pub put_two_spec : {M : Type 1} → statement M
put_two_spec =
    tie.close
    (tie.spec
    (λ c κs. search rules)
    (λ c κs. search rules)
    (λ c. search rules)
    returns)
