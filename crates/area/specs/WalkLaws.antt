-- The walk that holds its place (`SubWalk`): n steps, each from the place behind the one before, are answered by the subsections of the area in order, and
-- then by the end, or by the same refusal, again and again.
use Rattle.std.specs.Prelude.{ℕ, zero, suc, ◌≡◌, refl, List, [], ◌∷◌}
use Rattle.std.proofs.Common.{ap, ◌∙◌}
use Rattle.walk.specs.Listing.{Answer, gives, none, refuses, Reply, gave, nothing, refused, replied, calls, replies}
use Rattle.refusal.specs.Told.{Told}
use Rattle.kinds.specs.Kind.{crate_rule}
use Rattle.area.specs.Subs.{Sub, subs_from, step_at, place_behind, crate_step}
use Rattle.area.specs.SubsLaws.{steps_are}

-- an answer without the place behind it
abbrev pub reply_of : Answer ℕ Sub Told → Reply Sub Told
reply_of (gives b x) = gave b
reply_of none = nothing
reply_of (refuses t) = refused t

-- what n steps from the place p on are answered
unfoldable pub walked : ℕ → List ℕ → ℕ → List (Reply Sub Told)
walked zero s p = []
walked (suc n) s p = reply_of (crate_step s p).answer ∷ walked n s (crate_step s p).behind

walked_calls : (n : ℕ) (s : List ℕ) (p : ℕ) → walked n s p ≡ calls (step_at crate_rule s) n p
unfolding walked calls crate_step
walked_calls zero s p = refl
walked_calls (suc n) s p = by (step_at crate_rule s p) (walked_calls n s)
  where
    by : (a : Answer ℕ Sub Told) → ((q : ℕ) → walked n s q ≡ calls (step_at crate_rule s) n q)
        → reply_of a ∷ walked n s (place_behind a p) ≡ replied (step_at crate_rule s) (calls (step_at crate_rule s) n) p a
    by (gives b x) f = ap (λ (l : List (Reply Sub Told)). gave b ∷ l) (f x)
    by none f = ap (λ (l : List (Reply Sub Told)). nothing ∷ l) (f p)
    by (refuses t) f = ap (λ (l : List (Reply Sub Told)). refused t ∷ l) (f p)

-- THE THEOREM
pub walk_steps : (n : ℕ) (s : List ℕ) (p : ℕ) → walked n s p ≡ replies n (subs_from crate_rule s p)
walk_steps n s p = walked_calls n s p ∙ steps_are crate_rule s n p
