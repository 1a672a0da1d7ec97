-- A turn leads into the body that the slot names.
use Rattle.std.proofs.Common.{arith, sym, ap, ◌≡◌, ◌^◌, ◌<◌, length}
use Rattle.kinds.specs.Kind.{crate_rule}
use Rattle.lines.specs.Told.{told_named}
use Rattle.many_lines.specs.BodiesLaws.{knows_at, pass_in, in_less, in_scan}
use Rattle.many_lines.proofs.next_body.Goals as goal

pub returns : goal.returns
returns c =
    let l = c.named_body-found.ensures in
    let e = rw c.in-Ok.is at l.named in
    let eq = c.in-Ok-enter.ensures in
    let eu = c.behind_body-u.ensures in
    let f = c.requires.area_len_bound in
    let z : c.args.t.left ≡ 0 → ⊥ = λ y. omega arith in
    let g : length c.args.slots.now < 2 ^ 64 = omega (arith, c.well_formed) in (
      pass_in crate_rule _ _ _ _ f.0 z g _ _ e _ eq _ eu,
      knows_at crate_rule _ _ _ _ _ (in_scan crate_rule _ _ _ _ f.0 z g _ _ e _ eq _ eu) (l.known _ (ap told_named (sym c.in-Ok.is))),
      in_less crate_rule _ _ _ _ f.0 z g _ _ e _ eq _ eu,
    )
