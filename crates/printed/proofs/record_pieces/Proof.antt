-- `printed::record_pieces` meets its contract: its pieces one after the other.
-- Assumes nothing.
use borrow.Author.Rules.{rules}
use Rattle.text.specs.Text.{ascii}
use Rattle.text.specs.PageLaws.{and_one, and_all}
use Rattle.printed.specs.LineTextLaws.{record_fits}
use Rattle.printed.proofs.record_pieces.Statement.{statement}
use Rattle.printed.proofs.record_pieces.Tie as tie

returns : tie.Need-returns
unfolding ascii
returns c =
    let a = c.put_address-a.ensures.1 in
    let b = c.put_source-b.ensures.1 in (
      and_all _ _ _ _ _ (and_one _ _ _ _ _ (and_one _ _ _ _ _ (and_one _ _ _ _ _ (and_one _ _ _ _ _ (and_all _ _ _ _ _ c.put_address-a.ensures.0 c.put_source-b.ensures.0) c.put_bytes-c.ensures) c.put_side-d.ensures.0) c.put_bytes-e.ensures) c.put_side-f.ensures.0) c.put_origin.ensures.0,
      record_fits c.args.r (a.0, a.1, a.2, b.0, b.1, b.2, c.put_side-d.ensures.1, c.put_side-f.ensures.1, c.put_origin.ensures.1),
    )

pub record_pieces_spec : {M : Type 1} → statement M
record_pieces_spec =
    tie.close
    (tie.spec
    (λ c κs. search rules)
    (λ c κs. search rules)
    (λ c κs. search rules)
    (λ c κs. search rules)
    (λ c κs. search rules)
    (λ c κs. search rules)
    (λ c κs. search rules)
    (λ c. search rules)
    returns)
