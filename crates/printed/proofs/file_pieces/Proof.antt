-- `printed::file_pieces` meets its contract: its pieces one after the other.
-- Assumes nothing.
use borrow.Author.Rules.{rules}
use Rattle.text.specs.Text.{ascii}
use Rattle.text.specs.PageLaws.{and_one, and_all}
use Rattle.printed.proofs.file_pieces.Statement.{statement}
use Rattle.printed.proofs.file_pieces.Tie as tie

returns : tie.Need-returns
unfolding ascii
returns c =
    and_one _ _ _ _ _ (and_one _ _ _ _ _ (and_one _ _ _ _ _ (and_all _ _ _ _ _ c.put_count-a.ensures c.put_count-b.ensures) c.put_bytes-c.ensures) c.put_word-d.ensures) c.put_bytes.ensures

pub file_pieces_spec : {M : Type 1} → statement M
file_pieces_spec =
    tie.close
    (tie.spec
    (λ c κs. search rules)
    (λ c κs. search rules)
    (λ c κs. search rules)
    (λ c κs. search rules)
    (λ c κs. search rules)
    (λ c. search rules)
    returns)
