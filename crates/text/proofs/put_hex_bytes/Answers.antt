-- Bytes whose digits fit are spelt.
use Rattle.std.proofs.Common.{sym}
use Rattle.text.specs.PageLaws.{written_at}
use Rattle.text.specs.TextLaws.{hex_length}
use Rattle.text.proofs.put_hex_bytes.Goals as goal

pub returns : goal.returns
returns c = written_at _ _ _ _ (sym (hex_length _)) _ _ c.in_ok-at.ensures c.spell_bytes.ensures
