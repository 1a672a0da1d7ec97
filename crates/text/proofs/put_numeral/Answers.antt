-- Digits that fit are spelt.
use Rattle.text.specs.PageLaws.{written_at}
use Rattle.text.proofs.put_numeral.Goals as goal

pub returns : goal.returns
returns c = written_at _ _ _ _ c.digits-count.ensures _ _ c.in_ok-at.ensures c.spell.ensures
