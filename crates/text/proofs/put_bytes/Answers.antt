-- What fits is copied.
use Rattle.std.proofs.Common.{refl}
use Rattle.text.specs.PageLaws.{written_at}
use Rattle.text.proofs.put_bytes.Goals as goal

pub returns : goal.returns
returns c = written_at _ _ _ _ refl _ _ c.in_ok-at.ensures c.copy.ensures
