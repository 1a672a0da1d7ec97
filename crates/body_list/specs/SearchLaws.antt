-- THE LAWS of the search by a lent list: it finds what the search without one finds, and what it found out is true.
use Rattle.std.specs.Prelude.{ℕ, ◌+◌, ◌-◌, ◌≤◌, refl, List, [], ◌∷◌, true, length, ltb, leb, eqb}
use Rattle.std.proofs.Math.Path.{◌≡◌, sym, ap, subst⁻¹}
use Rattle.std.proofs.Common.{◌∙◌, subst, arith}
use Rattle.std.proofs.Math.Bool.{cond}
use Rattle.std.proofs.Math.ListN.{get_or}
use borrow.Author.Tests.{ltb-false, leb-true, eqb-true}
use Rattle.walk.specs.Cases.{by_cases, and_true}
use Rattle.walk.specs.Listing.{gave, refused}
use Rattle.refusal.specs.Told.{told}
use Rattle.refusal.specs.declared.Refusal.TheVariants as why
use Rattle.kinds.specs.Kind.{Sort}
use Rattle.find.specs.Find.{Span}
use Rattle.lines.specs.Slots.{body_from, scan_from, name_of, slot_at, Scans}
use Rattle.lines.specs.SlotsLaws.{scans_start, scan_anew, slot_same, slot_missing, slot_scans}
use Rattle.lines.specs.Told.{told_named}
use Rattle.body_list.specs.BodyList.{starts_from}
use Rattle.body_list.specs.Told.{told_located}
use Rattle.body_list.specs.Search.{halved, same_list, is_areas, begin_in, begin_held, begin_of, FoundBody, found_body, Right}
use Rattle.body_list.specs.HalvingLaws.{In, found_in}
use Rattle.body_list.specs.PlacesLaws.{list_scans}
use Rattle.body_list.specs.declared.Known.{Known}
use Rattle.body_list.specs.declared.Known.TheVariants.{Nothing, Bodies, Other}
use Rattle.body_list.specs.declared.Begin.{Begin}
use Rattle.body_list.specs.declared.Located.{Located}

same_are : (xs ys : List ℕ) → same_list xs ys ≡ true → xs ≡ ys
unfolding same_list
same_are [] [] q = refl
same_are [] (y ∷ ys) q = let z : ◌≡◌ {A = ℕ} 0 1 = cc in absurd (omega arith)
same_are (x ∷ xs) [] q = let z : ◌≡◌ {A = ℕ} 0 1 = cc in absurd (omega arith)
same_are (x ∷ xs) (y ∷ ys) q =
    let w = and_true (eqb x y) (same_list xs ys) q in
    let e = eqb-true x y w.0 in
    let r = same_are xs ys w.1 in
    λ i. e i ∷ r i

module _ (rule : ℕ → Sort) (s v b : List ℕ) where
  -- ---- in the area's list

  in_right : (u p : ℕ) → b ≡ starts_from rule s 0 → Scans rule s p → Scans rule s (begin_in b u p)
  unfolding begin_in
  in_right u p e g =
      by_cases (Scans rule s) (ltb u 8) (λ f. g)
      (λ f. by_cases (Scans rule s) (halved u b 0 (length b))
      (λ h. list_scans rule s u (subst (In u) e (found_in u b h))) (λ h. g))

  -- ---- a step back is a search from the area's start

  back_same : (i p : ℕ) → get_or v i 0 ≤ p → slot_at rule s v i p ≡ slot_at rule s v i 0
  unfolding slot_at scan_from
  back_same i p h =
      let u = get_or v i 0 in
      let start : 0 ≡ scan_from 0 u = by_cases (λ (k : ℕ). 0 ≡ k) (ltb 0 u) (λ f. refl) (λ f. refl) in
      ap (λ k. cond (leb (length v) i) (refused (told why.WrongSlot)) (name_of (body_from rule s k u))) (sym (scan_anew p u h) ∙ start)

  back_scans : (i p : ℕ) → get_or v i 0 ≤ p → (a : Span) → gave a ≡ slot_at rule s v i p → Scans rule s (a.start + a.len)
  back_scans i p h a e = slot_scans rule s v i 0 (scans_start rule s) a (e ∙ back_same i p h)

  -- ---- from where the search begins the body is the same, and what is known behind it is true

  record Sound (i p : ℕ) (g : Begin) : Type 0 where
    same : slot_at rule s v i g.place ≡ slot_at rule s v i p
    behind : (a : Span) → gave a ≡ slot_at rule s v i g.place → Right rule s b g.known (a.start + a.len)

  bodies_sound : (i p : ℕ) → Scans rule s p → b ≡ starts_from rule s 0 → Sound i p (record { place = begin_in b (get_or v i 0) p; known = Bodies })
  bodies_sound i p g e =
      let q = begin_in b (get_or v i 0) p in
      let f = in_right (get_or v i 0) p e g in
      record { same = slot_same rule s v i q p f g; behind = λ a k. (slot_scans rule s v i q f a k, e) }

  -- a step back, found in the area's list
  back_begin : (i p : ℕ) → get_or v i 0 ≤ p → b ≡ starts_from rule s 0 → slot_at rule s v i (begin_in b (get_or v i 0) p) ≡ slot_at rule s v i p
  unfolding begin_in
  back_begin i p h e =
      let u = get_or v i 0 in
      by_cases (λ (k : ℕ). slot_at rule s v i k ≡ slot_at rule s v i p) (ltb u 8) (λ f. refl)
      (λ f. by_cases (λ (k : ℕ). slot_at rule s v i k ≡ slot_at rule s v i p) (halved u b 0 (length b))
      (λ q. slot_same rule s v i (u - 8) 0 (list_scans rule s u (subst (In u) e (found_in u b q))) (scans_start rule s) ∙ sym (back_same i p h))
      (λ q. refl))

  back_sound : (i p : ℕ) → get_or v i 0 ≤ p → b ≡ starts_from rule s 0 → Sound i p (record { place = begin_in b (get_or v i 0) p; known = Bodies })
  back_sound i p h e = let q = back_begin i p h e in record { same = q; behind = λ a k. (back_scans i p h a (k ∙ q), e) }

  begin_sound : (k : Known) (i p : ℕ) → Right rule s b k p → Sound i p (begin_of rule s b k (get_or v i 0) p)
  unfolding begin_held begin_of
  begin_sound Nothing i p g =
      by_cases (Sound i p) (ltb p (get_or v i 0)) (λ e. record { same = refl; behind = λ a k. tt })
      (λ e. let h = ltb-false p (get_or v i 0) e in
      by_cases (Sound i p) (is_areas rule s b) (λ f. back_sound i p h (same_are b (starts_from rule s 0) f)) (λ f. record { same = refl; behind = λ a k. tt }))
  begin_sound Bodies i p g = bodies_sound i p g.0 g.1
  begin_sound Other i p g = record { same = refl; behind = λ a k. tt }

  module _ (k : Known) (i p : ℕ) (g : Right rule s b k p) where
    -- THE THEOREM: the body is the one that the search without the list finds
    pub found_right : (found_body rule s v b k i p).reply ≡ slot_at rule s v i p
    unfolding found_body
    found_right =
        by_cases (λ (x : FoundBody). x.reply ≡ slot_at rule s v i p) (leb (length v) i) (λ e. slot_missing rule s v i p (leb-true (length v) i e))
        (λ e. (begin_sound k i p g).same)

    -- and what is known behind it is true
    pub found_known : (a : Span) → gave a ≡ (found_body rule s v b k i p).reply → Right rule s b (found_body rule s v b k i p).known (a.start + a.len)
    unfolding found_body
    found_known a =
        by_cases (λ (x : FoundBody). gave a ≡ x.reply → Right rule s b x.known (a.start + a.len)) (leb (length v) i)
        (λ e q. let z : ◌≡◌ {A = ℕ} 0 1 = cc in absurd (omega arith))
        (λ e. (begin_sound k i p g).behind a)

    -- the same of x, as code has it
    module _ (x : Located) (e : told_located x ≡ found_body rule s v b k i p) where
      pub located_right : told_named x.named ≡ slot_at rule s v i p
      located_right = ap (λ (f : FoundBody). f.reply) e ∙ found_right

      pub located_known : (a : Span) → gave a ≡ told_named x.named → Right rule s b x.known (a.start + a.len)
      located_known a q =
          subst⁻¹ (λ (h : Known). Right rule s b h (a.start + a.len)) (ap (λ (f : FoundBody). f.known) e)
          (found_known a (q ∙ ap (λ (f : FoundBody). f.reply) e))
