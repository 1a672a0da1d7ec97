-- `writer_decides::last_at` meets its contract: past the limit there is no place, and else the bytes before the place are looked at.
-- Assumes nothing.
use borrow.Author.Rules.{rules}
use mathlib.Core.Path.{sym}
use native.Mathlib.Omega.{arith}
use lib.Seq.{length-take-le}
use Rattle.writer_decides.specs.CallLaws.{place_past, place_in}
use Rattle.writer_decides.proofs.last_at.Statement.{statement}
use Rattle.writer_decides.proofs.last_at.Tie as tie

returns : tie.Need-returns-then-limit_of-written
returns c =
    let a = c.args in
    place_past a.buf.now a.written (omega (arith, c.limit_of.ensures))

slice-aggregate-is-plain : tie.Need-slice_bounds-is_plain-end
slice-aggregate-is-plain c =
    let a = c.args in
    sym (length-take-le a.written a.buf.now (omega (arith, c.limit_of.ensures)))

returns-2 : tie.Need-returns
returns-2 c =
    let a = c.args in
    place_in a.buf.now a.written (omega (arith, c.limit_of.ensures)) _ c.is_plain.ensures

pub last_at_spec : {M : Type 1} → statement M
last_at_spec =
    tie.close
    (tie.spec
    (λ c κs. search rules)
    returns
    slice-aggregate-is-plain
    (λ c κs. search rules)
    returns-2)
