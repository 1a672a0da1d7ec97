-- The body that was found: what is answered of it alone is what is answered of the area.
use Rattle.std.specs.Prelude.{ℕ, zero, suc, ◌+◌, ◌-◌, ◌*◌, ◌/◌, ◌%◌, ◌<◌, ◌≤◌, Bool, true, false, drop}
use Rattle.std.proofs.Math.Path.{◌≡◌, refl, sym, ap, subst}
use Rattle.std.proofs.Common.{◌∙◌, arith, length-drop, length-take-le, ltb-true}
use mathlib.Core.List.{List, [], ◌∷◌, map}
use Rattle.std.proofs.Math.Bool.{cond}
use Rattle.std.proofs.Math.Logic.{⊎_elim}
use Rattle.std.proofs.Math.ListN.{length}
use Rattle.walk.specs.Cases.{and_true, le_or_gt, eq_or_ne}
use Rattle.walk.specs.Listing.{Reply, gave, nothing, refused}
use Rattle.refusal.specs.Told.{Told, told, longest}
use Rattle.refusal.specs.declared.Refusal.TheVariants as why
use Rattle.word.specs.Word.{u32_at}
use Rattle.walk.specs.Pick.{on_gave}
use Rattle.kinds.specs.Kind.{CROSS_SCOPE_EXPORTS, Sort}
use Rattle.find.specs.Find.{Span, first_sub, bytes_at}
use Rattle.body.specs.Exports.{Pair, pairs}
use Rattle.table.specs.Table.{table_of}
use Rattle.table.specs.TableLaws.{Finds, first_finds}
use Rattle.table.specs.Collect.{collected, of_nth}
use Rattle.table.specs.CollectLaws.{mapped_same, collected_map}
use Rattle.exports.specs.Exports.{Export, export_of, unplaced, pairs_of, exports_of, export_count, above, ascends, global_of, lookup, resolve_export}
use Rattle.exports.specs.ExportsLaws.{pair_of, pairs_behind, pairs_whole, pairs_odd, behind_more, behind_none, count_whole, global_end, global_hit, global_miss}
use Rattle.exports.specs.InBody.{if_ascending, lookup_body, export_body, export_at, middle_pair, pair_halved, global_in}
use Rattle.exports.specs.InBodyLaws.{by_pairs, half_none, half_here, half_back, half_front, in_halves}

-- ---- in a body whose local indices ascend the halving finds what a search from the first pair on does

module _ (b : List ℕ) (n : ℕ) (whole : length b % 8 ≡ 0) (sorted : true ≡ ascends (pairs_behind b 0)) where
  abbrev key : ℕ → ℕ
  key i = u32_at b (8 * i)

  -- the search from pair i on
  abbrev from : ℕ → Reply ℕ Told
  from i = global_of n (pairs_behind b (8 * i))

  abbrev count : ℕ
  count = length b / 8

  on : (i : ℕ) → 8 * i + 8 ≡ 8 * (i + 1)
  on i = omega arith

  behind_pair : (i : ℕ) → i < count → pair_of b (8 * i) ∷ pairs_behind b (8 * (i + 1)) ≡ pairs_behind b (8 * i)
  behind_pair i h = ap (λ (p : ℕ). pair_of b (8 * i) ∷ pairs_behind b p) (sym (on i)) ∙ behind_more b (8 * i) (omega arith)

  -- ---- each local index is above all before it

  parted : (i : ℕ) → i < count → ascends (pairs_behind b (8 * i)) ≡ true
      → (above (key i) (pairs_behind b (8 * (i + 1))) ≡ true) × (ascends (pairs_behind b (8 * (i + 1))) ≡ true)
  unfolding ascends
  parted i h e =
      and_true (above (key i) (pairs_behind b (8 * (i + 1)))) (ascends (pairs_behind b (8 * (i + 1)))) (ap ascends (behind_pair i h) ∙ e)

  ascends_from_lem : (i : ℕ) → i ≤ count → ascends (pairs_behind b (8 * i)) ≡ true
  ascends_from_lem zero h = sym sorted
  ascends_from_lem (suc i) h =
      let e : i + 1 ≡ suc i = omega arith in
      subst (λ (k : ℕ). ascends (pairs_behind b (8 * k)) ≡ true) e (parted i (omega arith) (ascends_from_lem i (omega arith))).1

  rises : (i : ℕ) → i + 1 < count → key i < key (i + 1)
  rises i h =
      ltb-true (key i) (key (i + 1)) (ap (above (key i)) (behind_pair (i + 1) h) ∙ (parted i (omega arith) (ascends_from_lem i (omega arith))).0)

  above_all : (i j : ℕ) → i < j → j < count → key i < key j
  above_all i zero l h = absurd (omega arith)
  above_all i (suc j) l h =
      let e : j + 1 ≡ suc j = omega arith in
      let r : key j < key (suc j) = subst (λ (k : ℕ). key j < key k) e (rises j (omega arith)) in
      ⊎_elim (λ (q : i ≡ j). subst (λ (k : ℕ). key k < key (suc j)) (sym q) r)
      (λ (q : i ≡ j → ⊥). omega (arith, above_all i j (omega (arith, q)) (omega arith))) (eq_or_ne i j)

  -- ---- pairs that are passed

  passed : (a : ℕ) → a ≤ count → ((i : ℕ) → i < a → key i ≡ n → ⊥) → from 0 ≡ from a
  passed zero h f = refl
  passed (suc a) h f =
      let e : 8 * a + 8 ≡ 8 * suc a = omega arith in
      passed a (omega arith) (λ i l. f i (omega arith))
      ∙ sym (global_miss b n (8 * a) (omega arith) (key a) refl (f a (omega arith)))
      ∙ ap (λ (p : ℕ). global_of n (pairs_behind b p)) e

  none_left : (j a : ℕ) → a + j ≡ count → ((i : ℕ) → a ≤ i → i < count → key i ≡ n → ⊥) → nothing ≡ from a
  none_left zero a h f = global_end b n (8 * a) (omega arith)
  none_left (suc j) a h f =
      none_left j (a + 1) (omega arith) (λ i l. f i (omega arith))
      ∙ ap (λ (p : ℕ). global_of n (pairs_behind b p)) (sym (on a))
      ∙ global_miss b n (8 * a) (omega arith) (key a) refl (f a (omega arith) (omega arith))

  -- ---- the span from a to e: all before it are below n, and all behind it above

  abbrev Below : ℕ → Type 0
  Below a = (i : ℕ) → i < a → key i < n

  abbrev Above : ℕ → Type 0
  Above e = (i : ℕ) → e ≤ i → i < count → n < key i

  module _ (a e : ℕ) (la : a ≤ count) (le : e ≤ count) (f : Below a) (g : Above e) where
    span_over : e ≤ a → pair_halved b n a e ≡ from 0
    span_over l =
        sym (half_none b n a e l)
        ∙ none_left (count - a) a (omega arith) (λ i d c q. let z = g i (omega arith) c in omega arith)
        ∙ sym (passed a la (λ i d q. let z = f i d in omega arith))

    module _ (l : a < e) (half : (c d : ℕ) → d - c < e - a → c ≤ count → d ≤ count → Below c → Above d → pair_halved b n c d ≡ from 0) where
      m : ℕ
      m = middle_pair a e

      span_here : key m ≡ n → pair_halved b n a e ≡ from 0
      unfolding m
      span_here q =
          sym (half_here b n a e l m refl (key m) refl q (u32_at b (8 * m + 4)) refl)
          ∙ global_hit b n (8 * m) (omega arith) (key m) refl q (u32_at b (8 * m + 4)) refl
          ∙ sym (passed m (omega arith) (λ i d z. let r = above_all i m d (omega arith) in omega arith))

      span_back : key m < n → pair_halved b n a e ≡ from 0
      unfolding m
      span_back q =
          sym (half_back b n a e l m refl (key m) refl (λ z. omega arith) q)
          ∙ half (m + 1) e (omega arith) (omega arith) le
          (λ i d. ⊎_elim (λ (z : i ≡ m). subst (λ (j : ℕ). key j < n) (sym z) q)
          (λ (z : i ≡ m → ⊥). let r = above_all i m (omega (arith, z)) (omega arith) in omega arith) (eq_or_ne i m)) g

      span_front : n < key m → pair_halved b n a e ≡ from 0
      unfolding m
      span_front q =
          sym (half_front b n a e l m refl (key m) refl (λ z. omega arith) (omega arith))
          ∙ half a m (omega arith) la (omega arith) f
          (λ i d c. ⊎_elim (λ (z : i ≡ m). subst (λ (j : ℕ). n < key j) (sym z) q)
          (λ (z : i ≡ m → ⊥). let r = above_all m i (omega (arith, z)) c in omega arith) (eq_or_ne i m))

      span_looked : pair_halved b n a e ≡ from 0
      span_looked =
          ⊎_elim span_here
          (λ (z : key m ≡ n → ⊥). ⊎_elim (λ (q : key m ≤ n). span_back (omega (arith, z))) (λ (q : n < key m). span_front q) (le_or_gt (key m) n))
          (eq_or_ne (key m) n)

  halving : (k a e : ℕ) → e - a < k → a ≤ count → e ≤ count → Below a → Above e → pair_halved b n a e ≡ from 0
  halving zero a e h la le f g = absurd (omega arith)
  halving (suc k) a e h la le f g =
      ⊎_elim (λ (l : e ≤ a). span_over a e la le f g l)
      (λ (l : a < e). span_looked a e la le f g l (λ c d r. halving k c d (omega arith))) (le_or_gt e a)

  halved_is : pair_halved b n 0 count ≡ global_of n (pairs_behind b 0)
  halved_is = halving (suc (count - 0)) 0 count (omega arith) (omega arith) (omega arith) (λ i d. absurd (omega arith)) (λ i d c. absurd (omega arith))

-- ---- a body that was found

-- what is known of it: x is what the finder says
record FoundBody (s : List ℕ) (a : Span) (x : Reply Span Told) : Type 0 where
  size : length (bytes_at s a) ≡ a.len
  short : length (bytes_at s a) ≤ longest
  whole : length (bytes_at s a) % 8 ≡ 0
  sorted : true ≡ ascends (pairs_behind (bytes_at s a) 0)
  are : gave (pairs_behind (bytes_at s a) 0) ≡ collected (table_of pairs unplaced s x)

module _ (s : List ℕ) (a : Span) where
  -- ps are the pairs of the subsection at c
  in_order : (c : Span) (t : Bool) (ps : List Pair) → t ≡ ascends ps → gave a ≡ cond t (gave c) (refused (told why.UnsortedExports))
      → (a ≡ c) × (true ≡ ascends ps)
  in_order c true ps e q = (cc, e)
  in_order c false ps e q = let z : ◌≡◌ {A = ℕ} 0 1 = cc in absurd (omega arith)

  found_at : (c : Span) → c.start + c.len ≤ length s → length s ≤ longest → (a ≡ c) × (true ≡ ascends (pairs_behind (bytes_at s c) 0))
      → length (bytes_at s c) % 8 ≡ 0 → FoundBody s a (gave c)
  found_at c h k q w =
      let l : length (bytes_at s c) ≡ c.len = length-take-le c.len (drop c.start s) (omega (arith, length-drop c.start s)) in
      subst (λ (d : Span). FoundBody s d (gave c)) (sym q.0)
      (record {
        size = l;
        short = omega arith;
        whole = w;
        sorted = q.1;
        are = pairs_whole (bytes_at s c) w ∙ ap collected (sym (mapped_same (pairs (bytes_at s c))));
      })

  no_body : FoundBody s (record { start = 0; len = 0 }) nothing
  unfolding ascends collected
  no_body =
      let e : [] ≡ pairs_behind [] 0 = behind_none [] 0 (omega arith) in
      record { size = refl; short = omega arith; whole = refl; sorted = ap ascends e; are = ap gave (sym e) }

  found : (x : Reply Span Told) → Finds s x → gave a ≡ lookup_body s x → FoundBody s a x
  unfolding if_ascending
  found (gave c) f q =
      ⊎_elim
      (λ (w : length (bytes_at s c) % 8 ≡ 0).
      let ps = pairs_behind (bytes_at s c) 0 in
      found_at c f.0 f.1 (in_order c (ascends ps) ps refl (q ∙ ap (on_gave (if_ascending c)) (sym (pairs_whole (bytes_at s c) w)))) w)
      (λ (w : length (bytes_at s c) % 8 ≡ 0 → ⊥).
      let e = q ∙ ap (on_gave (if_ascending c)) (sym (pairs_odd (bytes_at s c) w)) in
      let z : ◌≡◌ {A = ℕ} 0 1 = cc in absurd (omega arith))
      (eq_or_ne (length (bytes_at s c) % 8) 0)
  found nothing f q = let e : a ≡ record { start = 0; len = 0 } = cc in subst (λ (d : Span). FoundBody s d nothing) (sym e) no_body
  found (refused t) f q = let z : ◌≡◌ {A = ℕ} 0 1 = cc in absurd (omega arith)

nth_map : {A C D : Type 0} (g : A → C) (f : C → D) (y : D) (i : ℕ) (xs : List A) → of_nth i (map g xs) y f ≡ of_nth i xs y (λ (x : A). f (g x))
unfolding of_nth
nth_map g f y i [] = refl
nth_map g f y zero (x ∷ xs) = refl
nth_map g f y (suc i) (x ∷ xs) = nth_map g f y i xs

module _ (rule : ℕ → Sort) (s : List ℕ) (a : Span) (q : gave a ≡ export_body rule s) where
  abbrev body : List ℕ
  body = bytes_at s a

  known : FoundBody s a (first_sub rule CROSS_SCOPE_EXPORTS s)
  known = found s a (first_sub rule CROSS_SCOPE_EXPORTS s) (first_finds rule CROSS_SCOPE_EXPORTS s) q

  -- THE THEOREM on lookups: a lookup in the body that was found is one in the area
  pub body_resolves : (n : ℕ) → global_in body n ≡ resolve_export rule s n
  unfolding lookup
  body_resolves n =
      sym (in_halves body n known.short known.whole) ∙ halved_is body n known.whole known.sorted
      ∙ ap (λ (t : Bool). cond t (global_of n (pairs_behind body 0)) (refused (told why.UnsortedExports))) known.sorted
      ∙ ap (on_gave (lookup n)) known.are

  -- THE THEOREM on the exports: at the indices of the body that was found stand the exports of the area
  pub body_exports : (i : ℕ) → export_at body i ≡ on_gave (λ (es : List Export). of_nth i es nothing gave) (collected (exports_of rule s))
  body_exports i =
      sym (by_pairs body i known.short known.whole) ∙ sym (nth_map export_of gave nothing i (pairs_behind body 0))
      ∙ ap (λ (x : Reply (List Pair) Told). on_gave (λ (es : List Export). of_nth i es nothing gave) (on_gave (λ (ps : List Pair). gave (map export_of ps)) x))
      known.are
      ∙ ap (on_gave (λ (es : List Export). of_nth i es nothing gave)) (sym (collected_map export_of (pairs_of rule s)))

  -- and it has as many as the area
  pub body_count : gave (a.len / 8) ≡ export_count rule s
  body_count =
      ap (λ (n : ℕ). gave (n / 8)) (sym known.size) ∙ count_whole body known.whole
      ∙ ap (on_gave (λ (ps : List Pair). gave (length ps))) (sym (pairs_whole body known.whole) ∙ known.are)
