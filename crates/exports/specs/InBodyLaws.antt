-- Laws of exports by their body alone: a law for each way out of the code.
use Prim.Native.Nat.{ℕ, zero, suc, ◌+◌, ◌-◌, ◌*◌, ◌/◌, ◌%◌, ◌<◌, ◌≤◌}
use Rattle.std.specs.Prelude.{◌≡◌, Bool, true, false, take, drop, ltb, leb, eqb}
use Rattle.std.proofs.Math.Path.{refl, sym, ap}
use Rattle.std.proofs.Common.{◌∙◌, add-zero, length-drop, length-take-le, leb-false}
use mathlib.Core.List.{List}
use Rattle.std.proofs.Math.Bool.{cond}
use Rattle.std.proofs.Math.Logic.{⊎_elim}
use native.Mathlib.Omega.{arith}
use Rattle.std.proofs.Math.Nat.{add-sub_cancel_left}
use Rattle.std.proofs.Math.ListN.{length}
use Rattle.walk.specs.Cases.{tests, le_or_gt}
use Rattle.walk.specs.Listing.{Reply, gave, nothing, refused}
use Rattle.refusal.specs.Told.{Told, told, longest}
use Rattle.refusal.specs.declared.Refusal.TheVariants as why
use Rattle.word.specs.Word.{u32_at}
use Rattle.word.specs.WordLaws.{u32_drop, u32_take}
use Rattle.walk.specs.Pick.{on_gave}
use Rattle.find.specs.Find.{Span, bytes_at}
use Rattle.body.specs.Exports.{Pair, pairs}
use Rattle.table.specs.Collect.{collected, of_nth}
use Rattle.exports.specs.Exports.{Export, export_of, ascends}
use Rattle.exports.specs.ExportsLaws.{pair_of, pairs_behind, behind_more, behind_none, pairs_whole, pairs_odd}
use Rattle.exports.specs.InBody.{if_ascending, lookup_body, if_short, export_at, middle_pair, look_pair, pair_halved_in, pair_halved, global_in}

-- ---- `word_at`: a part of four bytes, lent from its start on

pub word_part : (s : List ℕ) (p w : ℕ) → w ≡ u32_at (take (p + 4 - p) (drop p s)) 0 → w ≡ u32_at s p
word_part s p w e =
    e ∙ ap (λ (k : ℕ). u32_at (take k (drop p s)) 0) (add-sub_cancel_left p 4) ∙ u32_take (drop p s) 4 0 (omega arith) ∙ u32_drop s p 0
    ∙ ap (u32_at s) (add-zero p)

-- ---- `tested_body`: the body b at `start`

abbrev pub tested : ℕ → List ℕ → Reply Span Told
tested start b = on_gave (if_ascending (record { start = start; len = length b })) (collected (pairs b))

module _ (start : ℕ) (b : List ℕ) where
  pub tested_odd : (length b % 8 ≡ 0 → ⊥) → refused (told why.ExportLength) ≡ tested start b
  tested_odd h = ap (on_gave (if_ascending (record { start = start; len = length b }))) (pairs_odd b h)

  module _ (h : length b % 8 ≡ 0) where
    by_order : (t : Bool) → t ≡ ascends (pairs_behind b 0)
        → cond t (gave (record { start = start; len = length b })) (refused (told why.UnsortedExports)) ≡ tested start b
    unfolding if_ascending
    by_order t e =
        ap (λ (u : Bool). cond u (gave (record { start = start; len = length b })) (refused (told why.UnsortedExports))) e
        ∙ ap (on_gave (if_ascending (record { start = start; len = length b }))) (pairs_whole b h)

    pub tested_sorted : true ≡ ascends (pairs_behind b 0) → gave (record { start = start; len = length b }) ≡ tested start b
    tested_sorted e = by_order true e

    pub tested_unsorted : false ≡ ascends (pairs_behind b 0) → refused (told why.UnsortedExports) ≡ tested start b
    tested_unsorted e = by_order false e

-- ---- `export_body`: g is what the finder says, and the part is lent from its start on, k long

module _ (s : List ℕ) (g : Reply Span Told) where
  pub body_found : (a : Span) (k : ℕ) → gave a ≡ g → k ≡ a.len → a.start + a.len ≤ length s
      → tested a.start (take k (drop a.start s)) ≡ lookup_body s g
  body_found a k e ek h =
      let l : length (bytes_at s a) ≡ a.len = length-take-le a.len (drop a.start s) (omega (arith, length-drop a.start s)) in
      ap (λ (j : ℕ). tested a.start (take j (drop a.start s))) ek
      ∙ ap (λ (n : ℕ). on_gave (if_ascending (record { start = a.start; len = n })) (collected (pairs (bytes_at s a)))) l
      ∙ ap (lookup_body s) e

  pub body_none : nothing ≡ g → gave (record { start = 0; len = 0 }) ≡ lookup_body s g
  body_none e = ap (lookup_body s) e

  pub body_refused : (t : Told) → refused t ≡ g → refused t ≡ lookup_body s g
  body_refused t e = ap (lookup_body s) e

-- ---- a body that is lent alone

module _ {A : Type 0} (b : List ℕ) (x : Reply A Told) where
  pub body_long : longest < length b → refused (told why.TooLong) ≡ if_short b x
  unfolding if_short
  body_long h = sym (simp tests)

  pub body_short : length b ≤ longest → x ≡ if_short b x
  unfolding if_short
  body_short h = sym (simp tests)

-- ---- `export_at`

-- the pair at an index of those from a place on
module _ {C : Type 0} (y : C) (f : Pair → C) (b : List ℕ) where
  pub nth_pair : (i p : ℕ) → p + 8 * i + 8 ≤ length b → f (pair_of b (p + 8 * i)) ≡ of_nth i (pairs_behind b p) y f
  unfolding of_nth
  nth_pair zero p h =
      let e : p + 8 * 0 ≡ p = omega arith in
      ap (λ (q : ℕ). f (pair_of b q)) e ∙ ap (λ (ps : List Pair). of_nth 0 ps y f) (behind_more b p (omega arith))
  nth_pair (suc i) p h =
      let e : p + 8 * suc i ≡ p + 8 + 8 * i = omega arith in
      ap (λ (q : ℕ). f (pair_of b q)) e ∙ nth_pair i (p + 8) (omega arith) ∙ ap (λ (ps : List Pair). of_nth (suc i) ps y f) (behind_more b p (omega arith))

  pub nth_past : (i p : ℕ) → length b < p + 8 * i + 8 → y ≡ of_nth i (pairs_behind b p) y f
  unfolding of_nth
  nth_past zero p h = ap (λ (ps : List Pair). of_nth 0 ps y f) (behind_none b p (omega arith))
  nth_past (suc i) p h =
      ⊎_elim
      (λ (l : p + 8 ≤ length b). nth_past i (p + 8) (omega arith) ∙ ap (λ (ps : List Pair). of_nth (suc i) ps y f) (behind_more b p l))
      (λ (l : length b < p + 8). ap (λ (ps : List Pair). of_nth (suc i) ps y f) (behind_none b p l)) (le_or_gt (p + 8) (length b))

module _ (b : List ℕ) (i : ℕ) where
  abbrev nth : List Pair → Reply Export Told
  nth ps = of_nth i ps nothing (λ (p : Pair). gave (export_of p))

  pub export_long : longest < length b → refused (told why.TooLong) ≡ export_at b i
  export_long h = body_long b _ h

  module _ (h : length b ≤ longest) where
    pub export_odd : (length b % 8 ≡ 0 → ⊥) → refused (told why.ExportLength) ≡ export_at b i
    export_odd d = ap (on_gave nth) (pairs_odd b d) ∙ body_short b _ h

    module _ (d : length b % 8 ≡ 0) where
      pub by_pairs : nth (pairs_behind b 0) ≡ export_at b i
      by_pairs = ap (on_gave nth) (pairs_whole b d) ∙ body_short b _ h

      pub export_past : length b / 8 ≤ i → nothing ≡ export_at b i
      export_past l = nth_past nothing (λ (p : Pair). gave (export_of p)) b i 0 (omega arith) ∙ by_pairs

      pub export_there : i < length b / 8 → (l g : ℕ) → l ≡ u32_at b (8 * i) → g ≡ u32_at b (8 * i + 4) → (e : Export)
          → e ≡ export_of (record { local = l; global = g }) → gave e ≡ export_at b i
      export_there k l g el eg e q =
          let z : 8 * i ≡ 0 + 8 * i = omega arith in
          ap gave (q ∙ (λ j. export_of (record { local = el j; global = eg j })))
          ∙ ap (λ (p : ℕ). gave (export_of (pair_of b p))) z
          ∙ nth_pair nothing (λ (p : Pair). gave (export_of p)) b i 0 (omega arith) ∙ by_pairs

-- ---- `halved`

module _ (b : List ℕ) (n : ℕ) where
  -- both halves are shorter
  look_same : (f g : ℕ → ℕ → Reply ℕ Told) (a e : ℕ) → ((c d : ℕ) → d - c < e - a → f c d ≡ g c d) → look_pair b n f a e ≡ look_pair b n g a e
  unfolding look_pair
  look_same f g a e h = by (leb e a) refl
    where
      m : ℕ
      m = middle_pair a e

      by : (t : Bool) → leb e a ≡ t
          → cond t nothing (cond (eqb (u32_at b (8 * m)) n) (gave (u32_at b (8 * m + 4))) (cond (ltb (u32_at b (8 * m)) n) (f (m + 1) e) (f a m)))
          ≡ cond t nothing (cond (eqb (u32_at b (8 * m)) n) (gave (u32_at b (8 * m + 4))) (cond (ltb (u32_at b (8 * m)) n) (g (m + 1) e) (g a m)))
      by true q = refl
      by false q =
          let l = leb-false e a q in
          let back = h (m + 1) e (omega arith) in
          let front = h a m (omega arith) in
          λ i. cond (eqb (u32_at b (8 * m)) n) (gave (u32_at b (8 * m + 4))) (cond (ltb (u32_at b (8 * m)) n) (back i) (front i))

  settled : (k m a e : ℕ) → e - a < k → e - a < m → pair_halved_in b n k a e ≡ pair_halved_in b n m a e
  unfolding pair_halved_in
  settled zero m a e h l = absurd (omega arith)
  settled (suc k) zero a e h l = absurd (omega arith)
  settled (suc k) (suc m) a e h l = look_same (pair_halved_in b n k) (pair_halved_in b n m) a e (λ c d f. settled k m c d (omega arith) (omega arith))

  -- a look, and then the halving of what is left
  look : (a e : ℕ) → look_pair b n (pair_halved b n) a e ≡ pair_halved b n a e
  unfolding pair_halved pair_halved_in
  look a e = look_same (pair_halved b n) (pair_halved_in b n (e - a)) a e (λ c d f. settled (suc (d - c)) (e - a) c d (omega arith) f)

  module _ (a e : ℕ) where
    pub half_none : e ≤ a → nothing ≡ pair_halved b n a e
    unfolding look_pair
    half_none h = sym (simp tests) ∙ look a e

    -- l is the local index at the middle m
    module _ (h : a < e) (m : ℕ) (em : m ≡ middle_pair a e) (l : ℕ) (read : l ≡ u32_at b (8 * m)) where
      el : l ≡ u32_at b (8 * middle_pair a e)
      el = read ∙ ap (λ (k : ℕ). u32_at b (8 * k)) em

      pub half_here : l ≡ n → (g : ℕ) → g ≡ u32_at b (8 * m + 4) → gave g ≡ pair_halved b n a e
      unfolding look_pair
      half_here d g eg =
          let q : u32_at b (8 * middle_pair a e) ≡ n = sym el ∙ d in
          ap gave (eg ∙ ap (λ (k : ℕ). u32_at b (8 * k + 4)) em) ∙ sym (simp tests) ∙ look a e

      module _ (d : l ≡ n → ⊥) where
        other : (u32_at b (8 * middle_pair a e) ≡ n → ⊥)
        other q = d (el ∙ q)

        pub half_back : l < n → pair_halved b n (m + 1) e ≡ pair_halved b n a e
        unfolding look_pair
        half_back k =
            let o = other in
            let q : u32_at b (8 * middle_pair a e) < n = omega (arith, el) in
            ap (λ (j : ℕ). pair_halved b n (j + 1) e) em ∙ sym (simp tests) ∙ look a e

        pub half_front : n ≤ l → pair_halved b n a m ≡ pair_halved b n a e
        unfolding look_pair
        half_front k =
            let o = other in
            let q : n ≤ u32_at b (8 * middle_pair a e) = omega (arith, el) in
            ap (pair_halved b n a) em ∙ sym (simp tests) ∙ look a e

-- ---- `export_in`

module _ (b : List ℕ) (n : ℕ) where
  pub in_long : longest < length b → refused (told why.TooLong) ≡ global_in b n
  unfolding global_in
  in_long h = body_long b _ h

  module _ (h : length b ≤ longest) where
    pub in_odd : (length b % 8 ≡ 0 → ⊥) → refused (told why.ExportLength) ≡ global_in b n
    unfolding global_in
    in_odd d = sym (simp tests) ∙ body_short b _ h

    pub in_halves : length b % 8 ≡ 0 → pair_halved b n 0 (length b / 8) ≡ global_in b n
    unfolding global_in
    in_halves d = sym (simp tests) ∙ body_short b _ h
