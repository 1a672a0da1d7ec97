-- Both ways of its test are cases of `ref_in`.
use Rattle.std.proofs.Common.{refl}
use Rattle.imports.specs.ImportsLaws.{ref_word, ref_none}
use Rattle.imports.proofs.word_of.Goals as goal

pub returns-then-id-m : goal.returns-then-id-m
returns-then-id-m c = ref_word _ _ _ _ _ _ _ refl c.if-id-m.true c.u32_at.ensures

pub returns-else-id-m : goal.returns-else-id-m
returns-else-id-m c =
    let a = c.args in
    ref_none a.body.now a.index a.m.name a.m.words a.m.count c.if-id-m.false
