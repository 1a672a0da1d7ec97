-- `printed::put_record` meets its contract: the line that is made is put as one piece.
-- Assumes nothing.
use borrow.Author.Rules.{rules}
use native.Mathlib.Omega.{arith}
use Rattle.printed.specs.PrintedLaws.{made_within, line_put}
use Rattle.printed.proofs.put_record.Statement.{statement}
use Rattle.printed.proofs.put_record.Tie as tie

put-line-requires : tie.Need-put_line-requires
put-line-requires c κs = made_within _ _ _ c.record_pieces-made.ensures.1 c.record_pieces-made.ensures.0

returns : tie.Need-returns
returns c =
    (line_put _ _ _ c.record_pieces-made.ensures.1 c.record_pieces-made.ensures.0 _ _ c.put_line.ensures, omega (arith, c.record_pieces-made.ensures.1))

pub put_record_spec : {M : Type 1} → statement M
put_record_spec =
    tie.close
    (tie.spec
    (λ c. search rules)
    (λ c κs. search rules)
    (λ c. search rules)
    put-line-requires
    (λ c. search rules)
    returns)
