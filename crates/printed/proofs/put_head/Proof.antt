-- `printed::put_head` meets its contract: the line that is made is put as one piece.
-- Assumes nothing.
use borrow.Author.Rules.{rules}
use native.Mathlib.Omega.{arith}
use Rattle.printed.specs.PrintedLaws.{head_fits, made_within, line_put}
use Rattle.printed.proofs.put_head.Statement.{statement}
use Rattle.printed.proofs.put_head.Tie as tie

put-line-requires : tie.Need-put_line-requires
put-line-requires c κs = made_within _ _ _ (head_fits _ (omega arith)) c.head_pieces-made.ensures

returns : tie.Need-returns
returns c =
    line_put _ _ _ (head_fits _ (omega arith)) c.head_pieces-made.ensures _ _ c.put_line.ensures

pub put_head_spec : {M : Type 1} → statement M
put_head_spec =
    tie.close
    (tie.spec
    (λ c. search rules)
    (λ c κs. search rules)
    (λ c. search rules)
    put-line-requires
    (λ c. search rules)
    returns)
