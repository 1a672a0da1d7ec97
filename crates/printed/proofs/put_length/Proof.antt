-- `printed::put_length` meets its contract: the number, if there is one.
-- Assumes nothing.
use borrow.Author.Rules.{rules}
use native.Mathlib.Omega.{arith}
use mathlib.Core.Path.{sym, ap, subst}
use Rattle.text.specs.Text.{ascii}
use Rattle.text.specs.PageLaws.{same_text}
use Rattle.line_record.specs.Told.{told_length}
use Rattle.std.specs.Prelude.{ℕ, Option}
use Rattle.printed.specs.LineTextLaws.{ShortLength}
use Rattle.printed.specs.LineText.{length_text}
use Rattle.printed.proofs.put_length.Statement.{statement}
use Rattle.printed.proofs.put_length.Tie as tie

returns : tie.Need-returns-in-None
unfolding ascii
returns c =
    let e = sym c.in-None.is in
    (same_text _ _ _ _ c.put_bytes.ensures (ap (λ (k : Option ℕ). length_text (told_length k)) e), subst ShortLength e tt)

returns-2 : tie.Need-returns-in-Some
returns-2 c =
    let e = sym c.in-Some.is in
    (same_text _ _ _ _ c.put_decimal.ensures (ap (λ (k : Option ℕ). length_text (told_length k)) e), subst ShortLength e (omega arith))

pub put_length_spec : {M : Type 1} → statement M
put_length_spec =
    tie.close
    (tie.spec
    (λ c. search rules)
    (λ c κs. search rules)
    (λ c. search rules)
    (λ c. search rules)
    (λ c κs. search rules)
    (λ c. search rules)
    returns
    (λ c. search rules)
    returns-2)
