-- `dump::print_lines` meets its contract: each line is one more, and the last so far; where no line comes there is none left.
-- Assumes nothing.
use Rattle.std.proofs.Common.{◌≡◌, sym, ap, ◌∙◌, arith, rules, ltb}
use Rattle.std.specs.Prelude.{None, Some, Ok}
use Rattle.kinds.specs.Kind.{crate_rule}
use Rattle.listing.specs.LessLaws.{text_line}
use Rattle.dump.specs.LineLaws.{text_counts, text_lasts, lines_few}
use Rattle.dump.proofs.print_lines.Goals as goal
use Rattle.dump.proofs.print_lines.Goals.{in_default-via-in-Ok+in_default, in_default-via-in_default}

pub returns-in_default-clause-lines : goal.returns-in_default-clause-lines
returns-in_default-clause-lines g c =
    let a = c.args in
    let l = c.loop-len in
    let n = c.next_text-step in
    elim c.in_default.branch [
      | in_default-via-in-Ok+in_default w ↦
          let e : w.in_default.field-0 ≡ None = search rules in
          omega (arith, text_counts crate_rule a.area.now a.slots.now n.result _ _ _ l.walk (w.in_default.is ∙ ap Ok e) n.ensures (search rules), l.invariant.2)
      | in_default-via-in_default w ↦
          omega (arith, text_counts crate_rule a.area.now a.slots.now n.result _ _ _ l.walk w.in_default.is n.ensures (search rules), l.invariant.2)
    ]

pub returns-in_default-clause-refused : goal.returns-in_default-clause-refused
returns-in_default-clause-refused g c =
    let a = c.args in
    let l = c.loop-len in
    let n = c.next_text-step in
    elim c.in_default.branch [
      | in_default-via-in-Ok+in_default w ↦
          let e : w.in_default.field-0 ≡ None = search rules in
          ap (ltb 4) (sym (text_lasts crate_rule a.area.now a.slots.now n.result _ _ _ l.last l.walk (w.in_default.is ∙ ap Ok e) n.ensures (search rules)) ∙ l.invariant.3)
      | in_default-via-in_default w ↦
          ap (ltb 4) (sym (text_lasts crate_rule a.area.now a.slots.now n.result _ _ _ l.last l.walk w.in_default.is n.ensures (search rules)) ∙ l.invariant.3)
    ]

pub overflow_add-lines : goal.overflow_add-lines
overflow_add-lines g c =
    let a = c.args in
    omega (arith, c.loop-len.invariant.2, lines_few crate_rule a.area.now a.slots.now)

pub overflow_add-used : goal.overflow_add-used
overflow_add-used g c =
    let a = c.args in
    let s : c.in-Ok-Some.field-0 ≡ Some (c.in-Ok-Some.len, c.in-Ok-Some.next) = search rules in
    let r = c.in-Ok-Some.is ∙ ap Ok s in
    let t = text_line crate_rule a.area.now a.slots.now _ _ _ _ c.loop-len.walk _ r c.next_text-step.ensures in
    omega (arith, t.0)

pub loop-len-smaller : goal.loop-len-smaller
loop-len-smaller g c =
    let a = c.args in
    let s : c.in-Ok-Some.field-0 ≡ Some (c.in-Ok-Some.len, c.in-Ok-Some.next) = search rules in
    let r = c.in-Ok-Some.is ∙ ap Ok s in
    let t = text_line crate_rule a.area.now a.slots.now _ _ _ _ c.loop-len.walk _ r c.next_text-step.ensures in
    omega (arith, t.1)

pub loop-len-preserved : goal.loop-len-preserved
loop-len-preserved g c =
    let a = c.args in
    let l = c.loop-len in
    let n = c.next_text-step in
    let s : c.in-Ok-Some.field-0 ≡ Some (c.in-Ok-Some.len, c.in-Ok-Some.next) = search rules in
    let r = c.in-Ok-Some.is ∙ ap Ok s in
    let e = text_counts crate_rule a.area.now a.slots.now _ _ _ _ l.walk r n.ensures (search rules) in
    let f = text_lasts crate_rule a.area.now a.slots.now _ _ _ _ l.last l.walk r n.ensures (search rules) in
    let t = text_line crate_rule a.area.now a.slots.now _ _ _ _ l.walk _ r n.ensures in
    (search rules, omega (arith, t.0), omega (arith, e, l.invariant.2), sym f ∙ l.invariant.3)
