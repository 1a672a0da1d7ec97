use Rattle.std.proofs.Common.{rules, arith, ap, ◌≡◌, ◌∙◌, None, length-set}
use Rattle.std.proofs.Math.ListN.{length}
use Rattle.imports.specs.ImportsLaws.{module_next}
use Rattle.imports.specs.ListedLaws.{stored_all, places_next, places_end, places_refused, store_end, store_place}
use Rattle.imports.proofs.put_places.Goals as goal

pub bounds-places-n : goal.bounds-places-n
bounds-places-n c = omega (arith, ap length (places_next c.args.start _ _ _ _ (rw c.in-Ok-Some.field-0-is at c.in-Ok-Some.ensures)))

pub loop-next-smaller : goal.loop-next-smaller
loop-next-smaller c = omega (arith, module_next _ _ _ _ (rw c.in-Ok-Some.field-0-is at c.in-Ok-Some.ensures))

pub loop-next-preserved : goal.loop-next-preserved
loop-next-preserved c =
    let q = rw c.in-Ok-Some.field-0-is at c.in-Ok-Some.ensures in
    let l = c.loop-next.invariant in
    let s = places_next _ _ _ _ _ q in
    (store_place _ _ _ _ _ _ _ s ∙ l.0, simp length-set (omega (arith, ap length s)), simp length-set l.2, omega (arith, module_next _ _ _ _ q))

pub returns-in_default : goal.returns-in_default
returns-in_default c =
    let n : c.in_default.field-0 ≡ None = search rules in
    let l = c.loop-next.invariant in
    store_end _ _ _ _ _ (places_end _ _ _ l.3 (rw (c.in_default.is, n) at c.module_at.ensures)) ∙ l.0 ∙ stored_all _ _ c.requires.body_in_bounds

pub returns-in_default-2 : goal.returns-in_default-2
returns-in_default-2 c =
    let l = c.loop-next.invariant in
    store_end _ _ _ _ _ (places_refused _ _ _ l.3 _ (rw c.in_default.is at c.module_at.ensures)) ∙ l.0 ∙ stored_all _ _ c.requires.body_in_bounds
