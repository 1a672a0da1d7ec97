-- `printed::put_refused` meets its contract: the line that is made is put as one piece.
-- Assumes nothing.
use borrow.Author.Rules.{rules}
use Rattle.printed.specs.PrintedLaws.{refused_fits, made_within, line_put}
use Rattle.printed.proofs.put_refused.Statement.{statement}
use Rattle.printed.proofs.put_refused.Tie as tie

put-line-requires : tie.Need-put_line-requires
put-line-requires c κs = made_within _ _ _ (refused_fits c.args.why) c.refused_pieces-made.ensures

returns : tie.Need-returns
returns c =
    line_put _ _ _ (refused_fits c.args.why) c.refused_pieces-made.ensures _ _ c.put_line.ensures

pub put_refused_spec : {M : Type 1} → statement M
put_refused_spec =
    tie.close
    (tie.spec
    (λ c. search rules)
    (λ c κs. search rules)
    (λ c. search rules)
    put-line-requires
    (λ c. search rules)
    returns)
