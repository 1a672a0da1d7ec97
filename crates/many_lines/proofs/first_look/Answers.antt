-- What it finds was tested.
use Rattle.std.proofs.Common.{arith, ◌+◌}
use Rattle.body_lines.specs.BodyLinesLaws.{part_word}
use Rattle.many_lines.proofs.first_look.Goals as goal

pub returns : goal.returns
returns c =
    let a = c.args in
    let kind = part_word a.area.now a.begin 8 0 a.begin (omega arith) (omega arith) in
    let len = part_word a.area.now a.begin 8 4 (a.begin + 4) (omega arith) (omega arith) in
    record {
      short = omega arith;
      place = omega arith;
      kind = omega (arith, kind, c.u32_at-kind.ensures, c.if-kind-ne-LINES.false);
      len = omega (arith, len, c.u32_at-len.ensures);
      inside = omega (arith, c.if-area-body-2.false);
    }
