-- `printed::put_kind` meets its contract: each kind has its word.
-- Assumes nothing.
use borrow.Author.Rules.{rules}
use mathlib.Core.Path.{sym, ap}
use Rattle.text.specs.Text.{ascii}
use Rattle.text.specs.PageLaws.{same_text}
use Rattle.line_record.specs.Told.{told_line_kind}
use Rattle.line_record.specs.declared.LineKind.{LineKind}
use Rattle.printed.specs.LineText.{kind_text}
use Rattle.printed.proofs.put_kind.Statement.{statement}
use Rattle.printed.proofs.put_kind.Tie as tie

returns : tie.Need-returns-in-Statement
unfolding ascii
returns c = same_text _ _ _ _ c.put_bytes.ensures (ap (λ (k : LineKind). kind_text (told_line_kind k)) (sym c.in-Statement.is))

returns-2 : tie.Need-returns-in-Expression
unfolding ascii
returns-2 c = same_text _ _ _ _ c.put_bytes-in-Expression.ensures (ap (λ (k : LineKind). kind_text (told_line_kind k)) (sym c.in-Expression.is))

pub put_kind_spec : {M : Type 1} → statement M
put_kind_spec =
    tie.close
    (tie.spec
    (λ c. search rules)
    (λ c κs. search rules)
    (λ c. search rules)
    (λ c κs. search rules)
    (λ c. search rules)
    returns
    (λ c. search rules)
    returns-2)
