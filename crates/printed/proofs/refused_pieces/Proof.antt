-- `printed::refused_pieces` meets its contract: its pieces one after the other.
-- Assumes nothing.
use borrow.Author.Rules.{rules}
use Rattle.text.specs.Text.{ascii}
use Rattle.text.specs.PageLaws.{and_one}
use Rattle.printed.specs.PrintedLaws.{refused_is}
use Rattle.printed.proofs.refused_pieces.Statement.{statement}
use Rattle.printed.proofs.refused_pieces.Tie as tie

returns : tie.Need-returns
unfolding ascii
returns c =
    refused_is _ _ _ _ (and_one _ _ _ _ _ c.put_count-p.ensures c.put_bytes.ensures) c.number.ensures

pub refused_pieces_spec : {M : Type 1} → statement M
refused_pieces_spec =
    tie.close
    (tie.spec
    (λ c κs. search rules)
    (λ c κs. search rules)
    (λ c κs. search rules)
    (λ c. search rules)
    returns)
