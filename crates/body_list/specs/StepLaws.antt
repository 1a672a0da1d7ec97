-- The search as code makes it: the loop that holds a list against the area, and one law for each way out.
use Rattle.std.specs.Prelude.{ℕ, ◌+◌, ◌-◌, ◌<◌, ◌≤◌, List, [], ◌∷◌, Bool, false, ◌&&◌, get_or, drop, leb}
use Rattle.std.proofs.Math.Path.{◌≡◌, sym, ap}
use Rattle.std.proofs.Common.{◌∙◌, arith, add-one, drop_of_length-le, drop-cons}
use Rattle.std.proofs.Math.Logic.{⊎_elim}
use Rattle.std.proofs.Math.Bool.{true}
use Rattle.std.proofs.Math.ListN.{length}
use Rattle.std.proofs.Math.Dec.{eqb}
use borrow.Author.Tests.{leb-false, eq-eqb, ne_eqb}
use Rattle.walk.specs.Cases.{tests, by_cases, le_or_gt}
use Rattle.walk.specs.Listing.{Reply, refused}
use Rattle.refusal.specs.Told.{Told, told}
use Rattle.refusal.specs.declared.Refusal.TheVariants as why
use Rattle.kinds.specs.Kind.{Sort}
use Rattle.find.specs.Find.{Span}
use Rattle.lines.specs.Slots.{slot_at}
use Rattle.body_list.specs.Search.{halved, same_list, is_areas, begin_in, begin_held, begin_of, found_from, found_body}
use Rattle.body_list.specs.declared.Known.{Known}
use Rattle.body_list.specs.declared.Known.TheVariants.{Nothing, Bodies, Other}
use Rattle.body_list.specs.declared.Begin.{Begin}
use Rattle.body_list.specs.Looks.{holds}

-- ---- a slot that is looked at

module _ (u : ℕ) (b : List ℕ) (i : ℕ) where
  pub holds_past : length b ≤ i → false ≡ holds u b i
  unfolding holds
  holds_past h = sym (simp tests)

  pub holds_is : i < length b → eqb (get_or b i 0) u ≡ holds u b i
  unfolding holds
  holds_is h = sym (simp tests)

  pub holds_within : holds u b i ≡ true → i < length b
  unfolding holds
  holds_within =
      by_cases (λ (t : Bool). t ≡ true → i < length b) (leb (length b) i) (λ f q. let z : ◌≡◌ {A = ℕ} 0 1 = cc in absurd (omega arith))
      (λ f q. leb-false (length b) i f)

  -- ---- the loop of `is_areas`: what is left of the list, and of the area's

  module _ (vs us : List ℕ) (e : u ∷ us ≡ vs) where
    same_step : i < length b → same_list (drop i b) vs ≡ (eqb (get_or b i 0) u && same_list (drop (i + 1) b) us)
    unfolding same_list
    same_step h =
        ap (same_list (drop i b)) (sym e) ∙ ap (λ l. same_list l (u ∷ us)) (drop-cons b i 0 h)
        ∙ ap (λ k. eqb (get_or b i 0) u && same_list (drop k b) us) (sym (add-one i))

    pub same_on : holds u b i ≡ true → same_list (drop (i + 1) b) us ≡ same_list (drop i b) vs
    same_on q =
        let h = holds_within q in
        sym (same_step h ∙ ap (λ (t : Bool). t && same_list (drop (i + 1) b) us) (holds_is h ∙ q))

    same_past : length b ≤ i → false ≡ same_list (drop i b) vs
    unfolding same_list
    same_past h = ap (same_list []) e ∙ ap (λ l. same_list l vs) (sym (drop_of_length-le b h))

    pub same_miss : holds u b i ≡ false → false ≡ same_list (drop i b) vs
    same_miss q =
        ⊎_elim (λ (h : length b ≤ i). same_past h)
        (λ (h : i < length b). sym (same_step h ∙ ap (λ (t : Bool). t && same_list (drop (i + 1) b) us) (holds_is h ∙ q)))
        (le_or_gt (length b) i)

  pub same_end : (vs : List ℕ) → [] ≡ vs → i ≤ length b → eqb i (length b) ≡ same_list (drop i b) vs
  unfolding same_list
  same_end vs e h =
      ⊎_elim (λ (g : length b ≤ i). eq-eqb i (length b) (omega arith) ∙ ap (λ l. same_list l []) (sym (drop_of_length-le b g)))
      (λ (g : i < length b). ne_eqb i (length b) (λ q. omega arith) ∙ ap (λ l. same_list l []) (sym (drop-cons b i 0 g)))
      (le_or_gt (length b) i)
      ∙ ap (same_list (drop i b)) e

-- ---- where a search begins

module _ (b : List ℕ) (u p : ℕ) where
  pub in_low : u < 8 → p ≡ begin_in b u p
  unfolding begin_in
  in_low h = sym (simp tests)

  pub in_found : 8 ≤ u → true ≡ halved u b 0 (length b) → u - 8 ≡ begin_in b u p
  unfolding begin_in
  in_found h e = sym (simp (tests, sym e))

  pub in_missed : 8 ≤ u → false ≡ halved u b 0 (length b) → p ≡ begin_in b u p
  unfolding begin_in
  in_missed h e = sym (simp (tests, sym e))

module _ (rule : ℕ → Sort) (s b : List ℕ) (u p : ℕ) where
  pub held_areas : true ≡ is_areas rule s b → (g : ℕ) → g ≡ begin_in b u p → record { place = g; known = Bodies } ≡ begin_held rule s b u p
  unfolding begin_held
  held_areas h g e = ap (λ (k : ℕ). record { place = k; known = Bodies }) e ∙ sym (simp (sym h))

  pub held_other : false ≡ is_areas rule s b → record { place = p; known = Other } ≡ begin_held rule s b u p
  unfolding begin_held
  held_other h = sym (simp (sym h))

  -- k as code has it
  module _ (k : Known) where
    module _ (e : k ≡ Nothing) where
      pub nothing_on : p < u → record { place = p; known = Nothing } ≡ begin_of rule s b k u p
      unfolding begin_of
      nothing_on h = sym (simp tests) ∙ ap (λ (x : Known). begin_of rule s b x u p) (sym e)

      pub nothing_back : u ≤ p → (g : Begin) → g ≡ begin_held rule s b u p → g ≡ begin_of rule s b k u p
      unfolding begin_of
      nothing_back h g q = q ∙ sym (simp tests) ∙ ap (λ (x : Known). begin_of rule s b x u p) (sym e)

    pub bodies_in_lem : k ≡ Bodies → (g : ℕ) → g ≡ begin_in b u p → record { place = g; known = Bodies } ≡ begin_of rule s b k u p
    unfolding begin_of
    bodies_in_lem e g q = ap (λ (x : ℕ). record { place = x; known = Bodies }) q ∙ ap (λ (x : Known). begin_of rule s b x u p) (sym e)

    pub other_on : k ≡ Other → record { place = p; known = Other } ≡ begin_of rule s b k u p
    unfolding begin_of
    other_on e = ap (λ (x : Known). begin_of rule s b x u p) (sym e)

-- ---- each way out of `find_body`

module _ (rule : ℕ → Sort) (s v b : List ℕ) (k : Known) (i p : ℕ) where
  pub found_missing : length v ≤ i → record { reply = refused (told why.WrongSlot); known = k } ≡ found_body rule s v b k i p
  unfolding found_body
  found_missing h = sym (simp tests)

  pub found_begin : i < length v → (g : Begin) (x : Reply Span Told) → g ≡ begin_of rule s b k (get_or v i 0) p → x ≡ slot_at rule s v i g.place
      → record { reply = x; known = g.known } ≡ found_body rule s v b k i p
  unfolding found_body
  found_begin h g x eg ex =
      ap (λ (y : Reply Span Told). record { reply = y; known = g.known }) ex ∙ ap (found_from rule s v i) eg ∙ sym (simp tests)
