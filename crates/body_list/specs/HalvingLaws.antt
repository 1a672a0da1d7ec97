-- Laws of the halving: what is found stands in the list, and one law for each way of the loop.
use Prim.Native.Nat.{ℕ, zero, suc, ◌+◌, ◌-◌, ◌<◌, ◌≤◌}
use Rattle.std.proofs.Math.Path.{◌≡◌, refl, sym, subst}
use Rattle.std.proofs.Common.{◌∙◌, inl, inr, arith}
use Rattle.std.specs.Prelude.{◌⊎◌, List, [], ◌∷◌, Bool, false, cond, length, get_or, ltb, leb, eqb}
use Rattle.std.proofs.Math.Bool.{true}
use borrow.Author.Tests.{leb-false, eqb-true}
use Rattle.walk.specs.Cases.{tests, by_cases}
use Rattle.body_list.specs.Search.{middle, look_at, halved_in, halved}

-- ---- what stands in a list

abbrev pub In : ℕ → List ℕ → Type 0
In v [] = ⊥
In v (x ∷ xs) = (v ≡ x) ⊎ In v xs

in_at : (xs : List ℕ) (i : ℕ) → i < length xs → In (get_or xs i 0) xs
in_at [] i h = absurd (omega arith)
in_at (x ∷ xs) zero h = inl refl
in_at (x ∷ xs) (suc i) h = inr (in_at xs i (omega arith))

module _ (u : ℕ) (b : List ℕ) where
  halved_in_lem : (k a e : ℕ) → e ≤ length b → halved_in u b k a e ≡ true → In u b
  unfolding halved_in look_at
  halved_in_lem zero a e h = λ q. let z : ◌≡◌ {A = ℕ} 0 1 = cc in absurd (omega arith)
  halved_in_lem (suc k) a e h =
      let m = middle a e in
      by_cases (λ (t : Bool). t ≡ true → In u b) (leb e a) (λ f q. let z : ◌≡◌ {A = ℕ} 0 1 = cc in absurd (omega arith))
      (λ f. let l : a < e = leb-false e a f in
      by_cases (λ (t : Bool). t ≡ true → In u b) (eqb (get_or b m 0) u)
      (λ g q. subst (λ x. In x b) (eqb-true (get_or b m 0) u g) (in_at b m (omega arith)))
      (λ g. by_cases (λ (t : Bool). t ≡ true → In u b) (ltb (get_or b m 0) u) (λ d. halved_in_lem k (m + 1) e h) (λ d. halved_in_lem k a m (omega arith))))

  pub found_in : halved u b 0 (length b) ≡ true → In u b
  unfolding halved
  found_in = halved_in_lem (suc (length b - 0)) 0 (length b) (omega arith)

  -- ---- the loop: both halves are shorter

  look_same : (f g : ℕ → ℕ → Bool) (a e : ℕ) → ((x y : ℕ) → y - x < e - a → f x y ≡ g x y) → look_at u b f a e ≡ look_at u b g a e
  unfolding look_at
  look_same f g a e h = by (leb e a) refl
    where
      m : ℕ
      m = middle a e

      by : (t : Bool) → leb e a ≡ t
          → cond t false (cond (eqb (get_or b m 0) u) true (cond (ltb (get_or b m 0) u) (f (m + 1) e) (f a m)))
          ≡ cond t false (cond (eqb (get_or b m 0) u) true (cond (ltb (get_or b m 0) u) (g (m + 1) e) (g a m)))
      by true q = refl
      by false q =
          let l = leb-false e a q in
          let back = h (m + 1) e (omega arith) in
          let front = h a m (omega arith) in
          λ i. cond (eqb (get_or b m 0) u) true (cond (ltb (get_or b m 0) u) (back i) (front i))

  settled : (k m a e : ℕ) → e - a < k → e - a < m → halved_in u b k a e ≡ halved_in u b m a e
  unfolding halved_in
  settled zero m a e h l = absurd (omega arith)
  settled (suc k) zero a e h l = absurd (omega arith)
  settled (suc k) (suc m) a e h l = look_same (halved_in u b k) (halved_in u b m) a e (λ x y f. settled k m x y (omega arith) (omega arith))

  -- a look, and then the halving of what is left
  look : (a e : ℕ) → look_at u b (halved u b) a e ≡ halved u b a e
  unfolding halved halved_in
  look a e = look_same (halved u b) (halved_in u b (e - a)) a e (λ x y f. settled (suc (y - x)) (e - a) x y (omega arith) f)

  module _ (a e : ℕ) where
    pub halved_none : e ≤ a → false ≡ halved u b a e
    unfolding look_at
    halved_none h = sym (simp tests) ∙ look a e

    module _ (h₁ : a < e) where
      pub halved_here : get_or b (middle a e) 0 ≡ u → true ≡ halved u b a e
      unfolding look_at
      halved_here h = sym (simp tests) ∙ look a e

      module _ (h₂ : get_or b (middle a e) 0 ≡ u → ⊥) where
        pub halved_back : get_or b (middle a e) 0 < u → halved u b (middle a e + 1) e ≡ halved u b a e
        unfolding look_at
        halved_back h = sym (simp tests) ∙ look a e

        pub halved_front : u ≤ get_or b (middle a e) 0 → halved u b a (middle a e) ≡ halved u b a e
        unfolding look_at
        halved_front h = sym (simp tests) ∙ look a e
