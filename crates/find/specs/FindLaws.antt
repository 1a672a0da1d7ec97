-- Laws of the first and the last of a kind: the bytes at the place are the body of the meaning, one law for each way of the loops, and bounds.
use Rattle.std.specs.Prelude.{ℕ, ◌+◌, ◌≤◌, ◌≡◌, refl, List, Bool, true, false, cond, eqb, length}
use Rattle.std.proofs.Math.Path.{sym, ap, subst⁻¹}
use Rattle.std.proofs.Common.{◌∙◌, eq-eqb, ne_eqb}
use Rattle.walk.specs.Listing.{Listing, Reply, gave, nothing, refused, gives, none, refuses}
use Rattle.walk.specs.Pick.{first_by, last_by, or_else, map_reply}
use Rattle.walk.specs.PickLaws.{map_or, or_assoc, or_nothing, first_map, last_map, Gives, first_holds, last_holds}
use Rattle.refusal.specs.Told.{Told, number_of}
use Rattle.area.specs.Parts.{Raw}
use Rattle.kinds.specs.Kind.{Sort}
use Rattle.area.specs.Subs.{Sub, subs_from, step_at, bodies}
use Rattle.area.specs.SubsLaws.{sub_next, sub_end, sub_refused, bodied, area_bodies, Inside, subs_inside}
use Rattle.find.specs.Find.{same, Span, is, span_of, first_sub, last_sub, bytes_at}

-- ---- in the meaning without places: which body

abbrev pub kind_is : ℕ → Raw → Bool
kind_is w r = eqb r.kind w

abbrev pub first_raw : (ℕ → Sort) → ℕ → List ℕ → Reply Raw ℕ
first_raw rule w s = first_by (kind_is w) (bodies rule s)

abbrev pub last_raw : (ℕ → Sort) → ℕ → List ℕ → Reply Raw ℕ
last_raw rule w s = last_by (kind_is w) (bodies rule s)

abbrev pub bytes_only : Reply Raw ℕ → Reply (List ℕ) ℕ
bytes_only = map_reply (λ (r : Raw). r.body) same

spelt : (s : List ℕ) (x : Reply Sub Told) → map_reply (bytes_at s) number_of (map_reply span_of same x) ≡ bytes_only (map_reply (bodied s) number_of x)
spelt s (gave b) = refl
spelt s nothing = refl
spelt s (refused r) = refl

module _ (rule : ℕ → Sort) (w : ℕ) (s : List ℕ) where
  pub first_body : map_reply (bytes_at s) number_of (first_sub rule w s) ≡ bytes_only (first_raw rule w s)
  first_body =
      spelt s (first_by (is w) (subs_from rule s 0))
      ∙ ap bytes_only (first_map (bodied s) number_of (kind_is w) (subs_from rule s 0)
      ∙ ap (first_by (kind_is w)) (area_bodies rule s))

  pub last_body : map_reply (bytes_at s) number_of (last_sub rule w s) ≡ bytes_only (last_raw rule w s)
  last_body =
      spelt s (last_by (is w) (subs_from rule s 0))
      ∙ ap bytes_only (last_map (bodied s) number_of (kind_is w) (subs_from rule s 0)
      ∙ ap (last_by (kind_is w)) (area_bodies rule s))

-- the last from p on, or else y, the best before p
abbrev pub Best : (ℕ → Sort) → List ℕ → ℕ → ℕ → Reply Span Told → Reply Span Told
Best rule s w p y = or_else (map_reply span_of same (last_by (is w) (subs_from rule s p))) y

-- ---- the loops: one law for each way, on an answer of `sub_at`

-- the first that passes a test f
module _ (rule : ℕ → Sort) (s : List ℕ) (p : ℕ) (f : Sub → Bool) where
  abbrev F : ℕ → Reply Span Told
  F q = map_reply span_of same (first_by f (subs_from rule s q))

  pub first_hit : (b : Sub) (x : ℕ) → gives b x ≡ step_at rule s p → f b ≡ true → gave (span_of b) ≡ F p
  unfolding first_by
  first_hit b x q h = rw (← (sub_next rule s p b x q).is, h)

  pub first_miss : (b : Sub) (x : ℕ) → gives b x ≡ step_at rule s p → f b ≡ false → F x ≡ F p
  unfolding first_by
  first_miss b x q h = rw (← (sub_next rule s p b x q).is, h)

  pub first_end : none ≡ step_at rule s p → nothing ≡ F p
  unfolding first_by
  first_end q = rw (← sub_end rule s p q)

  pub first_refused : (r : Told) → refuses r ≡ step_at rule s p → refused r ≡ F p
  unfolding first_by
  first_refused r q = rw (← sub_refused rule s p r q)

-- the last of kind w
module _ (rule : ℕ → Sort) (s : List ℕ) (p w : ℕ) where
  pub last_first : Best rule s w p nothing ≡ map_reply span_of same (last_by (is w) (subs_from rule s p))
  last_first = or_nothing (map_reply span_of same (last_by (is w) (subs_from rule s p)))

  module _ (y : Reply Span Told) where
    onward : (b : Sub) (x : ℕ) → gives b x ≡ step_at rule s p → (z : Reply Sub Told) → cond (is w b) (gave b) nothing ≡ z
        → Best rule s w x (or_else (map_reply span_of same z) y) ≡ Best rule s w p y
    unfolding last_by
    onward b x q z e =
        sym (or_assoc (map_reply span_of same (last_by (is w) (subs_from rule s x))) (map_reply span_of same z) y)
        ∙ ap (λ (o : Reply Span Told). or_else o y)
        (sym (map_or span_of same (last_by (is w) (subs_from rule s x)) z)
        ∙ ap (λ (o : Reply Sub Told). map_reply span_of same (or_else (last_by (is w) (subs_from rule s x)) o)) (sym e)
        ∙ ap (λ (l : Listing Sub Told). map_reply span_of same (last_by (is w) l)) (sub_next rule s p b x q).is)

    pub last_hit : (b : Sub) (x : ℕ) → gives b x ≡ step_at rule s p → b.kind ≡ w → Best rule s w x (gave (span_of b)) ≡ Best rule s w p y
    last_hit b x q h = onward b x q (gave b) (rw (eq-eqb b.kind w h))

    pub last_miss : (b : Sub) (x : ℕ) → gives b x ≡ step_at rule s p → (b.kind ≡ w → ⊥) → Best rule s w x y ≡ Best rule s w p y
    last_miss b x q h = onward b x q nothing (rw (ne_eqb b.kind w h))

    pub last_end : none ≡ step_at rule s p → y ≡ Best rule s w p y
    unfolding last_by
    last_end q = rw (← sub_end rule s p q)

    pub last_refused : (r : Told) → refuses r ≡ step_at rule s p → refused r ≡ Best rule s w p y
    unfolding last_by
    last_refused r q = rw (← sub_refused rule s p r q)

-- ---- what is found lies in the area

spans : {R : Type 0} (m : ℕ) (x : Reply Sub R) → Gives (Inside m) x → Gives (λ (a : Span). a.start + a.len ≤ m) (map_reply span_of same x)
spans m (gave b) q = q
spans m nothing q = tt
spans m (refused r) q = tt

module _ (rule : ℕ → Sort) (w : ℕ) (s : List ℕ) (a : Span) where
  pub first_in_lem : gave a ≡ first_sub rule w s → a.start + a.len ≤ length s
  first_in_lem e =
      subst⁻¹ (Gives (λ (x : Span). x.start + x.len ≤ length s)) e
      (spans (length s) (first_by (is w) (subs_from rule s 0)) (first_holds (Inside (length s)) (is w) (subs_from rule s 0) (subs_inside rule s 0)))

  pub last_in : gave a ≡ last_sub rule w s → a.start + a.len ≤ length s
  last_in e =
      subst⁻¹ (Gives (λ (x : Span). x.start + x.len ≤ length s)) e
      (spans (length s) (last_by (is w) (subs_from rule s 0)) (last_holds (Inside (length s)) (is w) (subs_from rule s 0) (subs_inside rule s 0)))
