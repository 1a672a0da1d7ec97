-- `writer::put_checksum` meets its contract: name, size and kind, the bytes, and two bytes of padding, each behind the one before.
-- Assumes nothing.
use borrow.Author.Rules.{rules}
use Prim.Native.Nat.{ℕ, ◌+◌, ◌*◌}
use mathlib.Core.List.{List, [], ◌++◌}
use mathlib.Core.Path.{◌≡◌, refl, ap, ◌∙◌}
use native.Mathlib.Omega.{arith}
use lib.ListN.{length, length-append}
use Rattle.word.specs.Word.{le16, le32}
use Rattle.word.specs.WordLaws.{le16_length, le32_length}
use Rattle.writer_decides.specs.CallLaws.{size_small}
use Rattle.writer.specs.LentLaws.{over, over_u32, over_u16, lent_copy, checksum_is}
use Rattle.writer.proofs.put_checksum.Statement.{statement}
use Rattle.writer.proofs.put_checksum.Tie as tie

returns : tie.Need-returns
returns c =
    let a = c.args in
    let s = size_small a.kind in
    let n = length a.bytes.now in
    let v = n + 256 * a.kind in
    let l : length (le32 a.name ++ le16 v) ≡ 6 = length-append (le32 a.name) (le16 v) ∙ omega (arith, le32_length a.name, le16_length v) in
    let l₃ : length ((le32 a.name ++ le16 v) ++ a.bytes.now) ≡ 6 + n = length-append (le32 a.name ++ le16 v) a.bytes.now ∙ omega arith in
    let one = over_u32 [] a.free.now a.free.now _ 0 refl refl a.name (omega arith) c.put_u32.ensures in
    let two = over_u16 (le32 a.name) a.free.now _ _ 4 (le32_length a.name) one v (omega arith) c.put_u16.ensures in
    let three = lent_copy (le32 a.name ++ le16 v) a.bytes.now a.free.now _ _ 6 l two c.copy.ensures in
    over_u16 ((le32 a.name ++ le16 v) ++ a.bytes.now) a.free.now _ _ (6 + n) l₃ three 0 (omega arith) c.put_u16-2.ensures
    ∙ ap (λ (x : List ℕ). over x a.free.now) (checksum_is a.name a.kind a.bytes.now (omega arith) (omega arith))

pub put_checksum_spec : {M : Type 1} → statement M
put_checksum_spec =
    tie.close
    (tie.spec
    (λ c κs. search rules)
    (λ c. search rules)
    (λ c. search rules)
    (λ c. omega (arith, size_small c.args.kind))
    (λ c κs. search rules)
    (λ c. search rules)
    (λ c. search rules)
    (λ c. search rules)
    (λ c κs. search rules)
    (λ c. search rules)
    (λ c κs. search rules)
    (λ c. search rules)
    returns)
