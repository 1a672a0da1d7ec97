-- What is found lies in the area, and the part that is lent is the body that is tested.
use Rattle.std.proofs.Common.{arith, ◌∙◌}
use Rattle.std.proofs.Math.Nat.{add-sub_cancel_left}
use Rattle.find.specs.FindLaws.{first_in_lem}
use Rattle.exports.specs.InBodyLaws.{body_found}
use Rattle.exports.proofs.export_body.Goals as goal

pub overflow_add-span : goal.overflow_add-span
overflow_add-span c = omega (arith, first_in_lem _ _ _ _ (rw c.in-Some.is at c.in_ok-span.ensures))

pub slice_bounds-tested_body-end : goal.slice_bounds-tested_body-end
slice_bounds-tested_body-end c = omega (arith, first_in_lem _ _ _ _ (rw c.in-Some.is at c.in_ok-span.ensures))

pub returns-in-Some : goal.returns-in-Some
returns-in-Some c =
    let e = rw c.in-Some.is at c.in_ok-span.ensures in
    c.tested_body.ensures ∙ body_found _ _ _ _ e (add-sub_cancel_left _ _) (first_in_lem _ _ _ _ e)
