-- `printed::sub_pieces` meets its contract: its pieces one after the other.
-- Assumes nothing.
use borrow.Author.Rules.{rules}
use Rattle.text.specs.Text.{ascii}
use Rattle.text.specs.PageLaws.{just, and_one, and_all}
use Rattle.printed.proofs.sub_pieces.Statement.{statement}
use Rattle.printed.proofs.sub_pieces.Tie as tie

returns : tie.Need-returns
unfolding ascii
returns c =
    and_one _ _ _ _ _ (and_all _ _ _ _ _ (and_one _ _ _ _ _ (just _ _ _ c.put_bytes-a.ensures) c.put_hex-b.ensures) c.put_count-c.ensures) c.put_bytes.ensures

pub sub_pieces_spec : {M : Type 1} → statement M
sub_pieces_spec =
    tie.close
    (tie.spec
    (λ c κs. search rules)
    (λ c κs. search rules)
    (λ c κs. search rules)
    (λ c κs. search rules)
    (λ c. search rules)
    returns)
