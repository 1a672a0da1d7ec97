-- The search for the body that a slot names, with a list of line bodies lent beside the slots. The list says only where a search begins; that the body
-- is the same without it, if what is known is true, is `found_right` of SearchLaws, and that what is known stays true is `found_known`. Source: document
-- 01, "Line subsections" (a walk over a list takes one slot after the other) and "each look at the middle leaves a shorter span" (halving).
-- Definitions only; contracts of inner calls alone cite them.
use Rattle.std.specs.Prelude.{ℕ, zero, suc, ◌+◌, ◌-◌, ◌/◌, ◌≡◌, List, [], ◌∷◌, Bool, true, false, cond, ◌&&◌, length, get_or, ltb, leb, eqb}
use Rattle.walk.specs.Listing.{Reply, refused}
use Rattle.refusal.specs.Told.{Told, told}
use Rattle.refusal.specs.declared.Refusal.TheVariants as why
use Rattle.kinds.specs.Kind.{Sort}
use Rattle.find.specs.Find.{Span}
use Rattle.lines.specs.Slots.{slot_at, Scans}
use Rattle.body_list.specs.BodyList.{starts_from}
use Rattle.body_list.specs.declared.Known.{Known}
use Rattle.body_list.specs.declared.Known.TheVariants.{Nothing, Bodies, Other}
use Rattle.body_list.specs.declared.Begin.{Begin}

-- ---- halving: a look for u at the middle of the slots from a to e, and then f of the half that is left

abbrev pub middle : ℕ → ℕ → ℕ
middle a e = a + (e - a) / 2

unfoldable pub look_at : ℕ → List ℕ → (ℕ → ℕ → Bool) → ℕ → ℕ → Bool
look_at u b f a e =
    cond (leb e a) false
    (cond (eqb (get_or b (middle a e) 0) u) true
    (cond (ltb (get_or b (middle a e) 0) u) (f (middle a e + 1) e) (f a (middle a e))))

-- is u found in at most k looks, and in as many as it takes?
unfoldable pub halved_in : ℕ → List ℕ → ℕ → ℕ → ℕ → Bool
halved_in u b zero a e = false
halved_in u b (suc k) a e = look_at u b (halved_in u b k) a e

unfoldable pub halved : ℕ → List ℕ → ℕ → ℕ → Bool
halved u b a e = halved_in u b (suc (e - a)) a e

-- ---- is a list the area's?

unfoldable pub same_list : List ℕ → List ℕ → Bool
same_list [] [] = true
same_list [] (y ∷ ys) = false
same_list (x ∷ xs) [] = false
same_list (x ∷ xs) (y ∷ ys) = eqb x y && same_list xs ys

abbrev pub is_areas : (ℕ → Sort) → List ℕ → List ℕ → Bool
is_areas rule s b = same_list b (starts_from rule s 0)

-- ---- where the search for the body at u begins that may begin at p, and what is known behind that body

-- at the header of a body that stands in the list b
unfoldable pub begin_in : List ℕ → ℕ → ℕ → ℕ
begin_in b u p = cond (ltb u 8) p (cond (halved u b 0 (length b)) (u - 8) p)

-- the list is held against the area
unfoldable pub begin_held : (ℕ → Sort) → List ℕ → List ℕ → ℕ → ℕ → Begin
begin_held rule s b u p = cond (is_areas rule s b) (record { place = begin_in b u p; known = Bodies }) (record { place = p; known = Other })

-- a body that does not lie behind p is a step back
unfoldable pub begin_of : (ℕ → Sort) → List ℕ → List ℕ → Known → ℕ → ℕ → Begin
begin_of rule s b Nothing u p = cond (ltb p u) (record { place = p; known = Nothing }) (begin_held rule s b u p)
begin_of rule s b Bodies u p = record { place = begin_in b u p; known = Bodies }
begin_of rule s b Other u p = record { place = p; known = Other }

-- ---- THE SEARCH for the body that slot i of v names: its answer, and what is known behind the body

pub record FoundBody : Type 0 where
  pub reply : Reply Span Told
  pub known : Known

abbrev pub found_from : (ℕ → Sort) → List ℕ → List ℕ → ℕ → Begin → FoundBody
found_from rule s v i g = record { reply = slot_at rule s v i g.place; known = g.known }

unfoldable pub found_body : (ℕ → Sort) → List ℕ → List ℕ → List ℕ → Known → ℕ → ℕ → FoundBody
found_body rule s v b k i p =
    cond (leb (length v) i) (record { reply = refused (told why.WrongSlot); known = k })
    (found_from rule s v i (begin_of rule s b k (get_or v i 0) p))

-- what is known is true of the list b, and of the place p at which a search may begin (proofs alone cite it)
abbrev pub Right : (ℕ → Sort) → List ℕ → List ℕ → Known → ℕ → Type 0
Right rule s b Nothing p = Unit {0}
Right rule s b Bodies p = Scans rule s p × (b ≡ starts_from rule s 0)
Right rule s b Other p = Unit {0}
