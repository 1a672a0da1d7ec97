-- `printed::put_word` meets its contract: each kind has its word.
-- Assumes nothing.
use borrow.Author.Rules.{rules}
use mathlib.Core.Path.{sym, ap}
use Rattle.text.specs.Text.{ascii}
use Rattle.text.specs.PageLaws.{same_text}
use Rattle.checksums.specs.Told.{told_kind}
use Rattle.checksums.specs.declared.ChecksumKind.{ChecksumKind}
use Rattle.printed.specs.Printed.{checksum_word}
use Rattle.printed.proofs.put_word.Statement.{statement}
use Rattle.printed.proofs.put_word.Tie as tie

returns : tie.Need-returns-in-None
unfolding ascii
returns c = same_text _ _ _ _ c.put_bytes.ensures (ap (λ (k : ChecksumKind). checksum_word (told_kind k)) (sym c.in-None.is))

returns-2 : tie.Need-returns-in-Md5
unfolding ascii
returns-2 c = same_text _ _ _ _ c.put_bytes-in-Md5.ensures (ap (λ (k : ChecksumKind). checksum_word (told_kind k)) (sym c.in-Md5.is))

returns-3 : tie.Need-returns-in-Sha1
unfolding ascii
returns-3 c = same_text _ _ _ _ c.put_bytes-in-Sha1.ensures (ap (λ (k : ChecksumKind). checksum_word (told_kind k)) (sym c.in-Sha1.is))

returns-4 : tie.Need-returns-in-Sha256
unfolding ascii
returns-4 c = same_text _ _ _ _ c.put_bytes-in-Sha256.ensures (ap (λ (k : ChecksumKind). checksum_word (told_kind k)) (sym c.in-Sha256.is))

pub put_word_spec : {M : Type 1} → statement M
put_word_spec =
    tie.close
    (tie.spec
    (λ c. search rules)
    (λ c κs. search rules)
    (λ c. search rules)
    (λ c κs. search rules)
    (λ c. search rules)
    (λ c κs. search rules)
    (λ c. search rules)
    (λ c κs. search rules)
    (λ c. search rules)
    returns
    (λ c. search rules)
    returns-2
    (λ c. search rules)
    returns-3
    (λ c. search rules)
    returns-4)
