-- Laws of exports: a law for each way out of the code, the pairs of a body as a list, and the theorems on the walk and on the count.
use Prim.Native.Nat.{ℕ, zero, suc, ◌+◌, ◌-◌, ◌*◌, ◌/◌, ◌%◌, ◌<◌, ◌≤◌}
use Rattle.std.specs.Prelude.{◌≡◌, refl, Bool, true, false, ◌&&◌, length, take, drop, eqb}
use Rattle.std.proofs.Math.Path.{sym, ap}
use Rattle.std.proofs.Common.{◌∙◌, length-drop, drop-drop, lt-ltb, le-ltb, eq-eqb, ne_eqb, ltb-false}
use mathlib.Core.List.{List, [], ◌∷◌}
use Rattle.std.proofs.Math.Bool.{cond}
use native.Mathlib.Omega.{arith}
use Rattle.std.proofs.Math.Nat.{add-zero}
use Rattle.std.proofs.Math.Dec.{ltb}
use Rattle.word.specs.Word.{u32_at}
use Rattle.word.specs.WordLaws.{u32_drop}
use Rattle.walk.specs.Cases.{tests, by_cases}
use Rattle.walk.specs.Listing.{item, over, Listing, more, ends, fails, mapped, on_move, moved, all, Answer, gives, none, refuses, Reply, gave, nothing, refused, calls, replies}
use Rattle.walk.specs.Pick.{on_gave}
use Rattle.refusal.specs.Told.{Told, told}
use Rattle.refusal.specs.declared.Refusal.TheVariants as why
use Rattle.kinds.specs.Kind.{CROSS_SCOPE_EXPORTS, Sort}
use Rattle.find.specs.Find.{same, Span, first_sub}
use Rattle.body.specs.Exports.{Pair, pair_bite, pairs}
use Rattle.table.specs.declared.TableWalk.{TableWalk}
use Rattle.table.specs.declared.TableWalk.TheVariants as walk
use Rattle.table.specs.Table.{table_of}
use Rattle.table.specs.StepLaws.{Steps, steps}
use Rattle.table.specs.TableLaws.{table_walk_lem, first_finds}
use Rattle.table.specs.Rows.{rows_placed, row_at, rows_from}
use Rattle.table.specs.RowsLaws.{Bitten, bites_step, rows_step, rows_in}
use Rattle.table.specs.Collect.{collected, listing_count}
use Rattle.table.specs.CollectLaws.{mapped_same, collected_length}
use Rattle.exports.specs.Exports.{Export, a_type, anId, export_of, pair_size, unplaced, export_in, pairs_of, exports_of, export_count, above, ascends, global_of, lookup, pair_at, export_shown, export_step, pairs_from}

-- ---- the kind of an export

module _ (l g : ℕ) where
  pub export_id : l / 0x8000_0000 % 2 ≡ 1 → anId l g ≡ export_of (record { local = l; global = g })
  unfolding export_of
  export_id h = simp tests

  pub export_type : (l / 0x8000_0000 % 2 ≡ 1 → ⊥) → a_type l g ≡ export_of (record { local = l; global = g })
  unfolding export_of
  export_type h = simp tests

-- ---- the tests of `pair_at`

module _ (b : List ℕ) (p : ℕ) where
  pub pair_odd : (length b % 8 ≡ 0 → ⊥) → refuses (told why.ExportLength) ≡ pair_at b p
  unfolding pair_at
  pair_odd h = simp tests

  module _ (h₀ : length b % 8 ≡ 0) where
    pub pair_past : length b < p → refuses (told why.Cut) ≡ pair_at b p
    unfolding pair_at row_at
    pair_past h = simp tests

    module _ (h₁ : p ≤ length b) where
      pub pair_end : length b - p ≡ 0 → none ≡ pair_at b p
      unfolding pair_at row_at pair_bite
      pair_end h = simp (length-drop, tests)

      module _ (h₂ : length b - p ≡ 0 → ⊥) where
        pub pair_short : length b - p < 8 → refuses (told why.ExportLength) ≡ pair_at b p
        unfolding pair_at row_at pair_bite
        pair_short h = simp (length-drop, tests)

        pub pair_whole : 8 ≤ length b - p → (l g : ℕ) → l ≡ u32_at b p → g ≡ u32_at b (p + 4)
            → gives (record { local = l; global = g }) (p + 8) ≡ pair_at b p
        unfolding pair_at row_at pair_bite
        pair_whole h l g el eg = simp (length-drop, u32_drop, add-zero, tests, el, eg)

-- ---- `export_step`: m is what stands at the place

pub shown_pair : (start len l g x : ℕ) (e : Export) (m : Answer ℕ Pair Told) → e ≡ export_of (record { local = l; global = g })
    → gives (record { local = l; global = g }) x ≡ m → gives e (walk.In start len x) ≡ export_shown start len m
shown_pair start len l g x e m h q = ap (λ (y : Export). gives y (walk.In start len x)) h ∙ ap (export_shown start len) q

pub shown_other : (start len : ℕ) (k m : Answer ℕ Pair Told) → k ≡ m → export_shown start len k ≡ export_shown start len m
shown_other start len k m q = ap (export_shown start len) q

-- ---- a step of the walk

pub export_steps : (rule : ℕ → Sort) (s : List ℕ) (w : TableWalk) → Steps pair_at export_in (first_sub rule CROSS_SCOPE_EXPORTS s) s w
    (export_step rule s w)
export_steps rule s w = steps pair_at export_in (first_sub rule CROSS_SCOPE_EXPORTS s) s w (first_finds rule CROSS_SCOPE_EXPORTS s)

-- ---- the walk: a new walk's answers, taken until it ends, are the exports of the area

bitten : (s : List ℕ) → Bitten pair_size s (pair_bite s)
unfolding pair_bite
bitten s =
    by_cases (Bitten pair_size s) (eqb (length s) 0) (λ a. tt)
    (λ a. by_cases (Bitten pair_size s) (ltb (length s) 8) (λ d. tt) (λ d. (omega arith, omega (arith, ltb-false), refl)))

-- one step of the pairs of a body
pub pairs_right : (b : List ℕ) (p : ℕ) → pairs_from b p ≡ on_move (pairs_from b) (moved (pair_at b p))
unfolding pair_at
pairs_right b p = by (eqb (length b % 8) 0)
  where
    from : Bool → ℕ → Listing Pair Told
    from a q = cond a (rows_from pair_bite pair_size unplaced b q) (fails (told why.ExportLength))

    by : (a : Bool)
        → from a p ≡ on_move (from a) (moved (cond a (row_at pair_bite pair_size unplaced b p) (refuses (told why.ExportLength))))
    by true = rows_step pair_bite pair_size unplaced bitten b p
    by false = refl

placed_same : (p : ℕ) (l : Listing Pair Told) → rows_placed pair_size unplaced p l ≡ l
unfolding rows_placed
placed_same p (more r l) = ap (more r) (placed_same (p + 8) l)
placed_same p ends = refl
placed_same p (fails t) = refl

pub pairs_from_lem : (b : List ℕ) → pairs_from b 0 ≡ pairs b
unfolding pairs
pairs_from_lem b =
    ap (λ (l : Listing Pair Told). cond (eqb (length b % 8) 0) l (fails (told why.ExportLength)))
    (rows_in pair_bite pair_size unplaced b 0 (omega arith) ∙ placed_same 0 (all pair_bite length b))

shown : (s : List ℕ) (x : Reply Span Told)
    → table_of (λ (b : List ℕ). pairs_from b 0) export_in s x ≡ mapped export_of same (table_of pairs unplaced s x)
shown s (gave a) =
    let b = take a.len (drop a.start s) in
    ap (mapped export_of same) (pairs_from_lem b ∙ sym (mapped_same (pairs b)))
shown s nothing = refl
shown s (refused t) = refl

-- THE THEOREM on the walk
pub exports_walk : (rule : ℕ → Sort) (s : List ℕ) (n : ℕ) → calls (export_step rule s) n walk.New ≡ replies n (exports_of rule s)
exports_walk rule s n =
    table_walk_lem pair_at export_in pairs_from pairs_right s (first_sub rule CROSS_SCOPE_EXPORTS s) (first_finds rule CROSS_SCOPE_EXPORTS s) n
    ∙ ap (replies n) (shown s (first_sub rule CROSS_SCOPE_EXPORTS s))

-- THE THEOREM on the count: as many as the walk gives
pub count_is : (rule : ℕ → Sort) (s : List ℕ) → listing_count (exports_of rule s) ≡ export_count rule s
count_is rule s = collected_length export_of (pairs_of rule s)

-- ---- the pairs of a body as a list

-- the pair at a place
abbrev pub pair_of : List ℕ → ℕ → Pair
pair_of b p = record { local = u32_at b p; global = u32_at b (p + 4) }

-- n pairs at the front of bytes
unfoldable pub pair_list : ℕ → List ℕ → List Pair
pair_list zero b = []
pair_list (suc n) b = pair_of b 0 ∷ pair_list n (drop 8 b)

-- the whole pairs from a place on
unfoldable pub pairs_behind : List ℕ → ℕ → List Pair
pairs_behind b p = pair_list ((length b - p) / 8) (drop p b)

list_length : (n : ℕ) (b : List ℕ) → length (pair_list n b) ≡ n
unfolding pair_list
list_length zero b = refl
list_length (suc n) b = ap suc (list_length n (drop 8 b))

bite_none : (b : List ℕ) → length b ≡ 0 → pair_bite b ≡ over
unfolding pair_bite
bite_none b h = simp tests

bite_pair : (b : List ℕ) → 8 ≤ length b → (length b ≡ 0 → ⊥) → pair_bite b ≡ item (pair_of b 0) (drop 8 b)
unfolding pair_bite
bite_pair b h d = simp tests

list_is : (n : ℕ) (b : List ℕ) → length b ≡ 8 * n → collected (all pair_bite length b) ≡ gave (pair_list n b)
unfolding pair_list collected
list_is zero b e =
    ap collected (bites_step pair_bite pair_size bitten b ∙ ap (on_move (all pair_bite length)) (bite_none b (omega arith)))
list_is (suc n) b e =
    ap collected (bites_step pair_bite pair_size bitten b ∙ ap (on_move (all pair_bite length)) (bite_pair b (omega arith) (λ z. omega arith)))
    ∙ ap (on_gave (λ (ps : List Pair). gave (pair_of b 0 ∷ ps))) (list_is n (drop 8 b) (omega (arith, length-drop 8 b)))

module _ (b : List ℕ) where
  pub pairs_whole : length b % 8 ≡ 0 → gave (pairs_behind b 0) ≡ collected (pairs b)
  unfolding pairs pairs_behind
  pairs_whole h = rw (eq-eqb (length b % 8) 0 h) (sym (list_is ((length b - 0) / 8) b (omega arith)))

  pub pairs_odd : (length b % 8 ≡ 0 → ⊥) → refused (told why.ExportLength) ≡ collected (pairs b)
  unfolding pairs collected
  pairs_odd h = rw (ne_eqb (length b % 8) 0 h)

  pub behind_more : (p : ℕ) → p + 8 ≤ length b → pair_of b p ∷ pairs_behind b (p + 8) ≡ pairs_behind b p
  unfolding pairs_behind pair_list
  behind_more p h =
      let n : (length b - p) / 8 ≡ suc ((length b - (p + 8)) / 8) = omega arith in
      let el : u32_at (drop p b) 0 ≡ u32_at b p = u32_drop b p 0 ∙ ap (u32_at b) (add-zero p) in
      let eg : u32_at (drop p b) 4 ≡ u32_at b (p + 4) = u32_drop b p 4 in
      sym (ap (λ (k : ℕ). pair_list k (drop p b)) n
      ∙ (λ i. record { local = el i; global = eg i } ∷ pair_list ((length b - (p + 8)) / 8) (drop-drop 8 p b i)))

  pub behind_none : (p : ℕ) → length b < p + 8 → [] ≡ pairs_behind b p
  unfolding pairs_behind pair_list
  behind_none p h = let n : (length b - p) / 8 ≡ 0 = omega arith in sym (ap (λ (k : ℕ). pair_list k (drop p b)) n)

  -- ---- `count_in`

  pub count_whole : length b % 8 ≡ 0 → gave (length b / 8) ≡ listing_count (pairs b)
  unfolding pairs_behind
  count_whole h = ap gave (omega (arith, list_length ((length b - 0) / 8) b)) ∙ ap (on_gave (λ (ps : List Pair). gave (length ps))) (pairs_whole h)

  pub count_odd : (length b % 8 ≡ 0 → ⊥) → refused (told why.ExportLength) ≡ listing_count (pairs b)
  count_odd h = ap (on_gave (λ (ps : List Pair). gave (length ps))) (pairs_odd h)

  -- ---- `lookup_in`

  pub lookup_odd : (n : ℕ) → (length b % 8 ≡ 0 → ⊥) → refused (told why.ExportLength) ≡ on_gave (lookup n) (collected (pairs b))
  lookup_odd n h = ap (on_gave (lookup n)) (pairs_odd h)

  module _ (n : ℕ) (h : length b % 8 ≡ 0) where
    pub lookup_sorted : true ≡ ascends (pairs_behind b 0) → global_of n (pairs_behind b 0) ≡ on_gave (lookup n) (collected (pairs b))
    unfolding lookup
    lookup_sorted e =
        ap (λ (t : Bool). cond t (global_of n (pairs_behind b 0)) (refused (told why.UnsortedExports))) e ∙ ap (on_gave (lookup n)) (pairs_whole h)

    pub lookup_unsorted : false ≡ ascends (pairs_behind b 0) → refused (told why.UnsortedExports) ≡ on_gave (lookup n) (collected (pairs b))
    unfolding lookup
    lookup_unsorted e =
        ap (λ (t : Bool). cond t (global_of n (pairs_behind b 0)) (refused (told why.UnsortedExports))) e ∙ ap (on_gave (lookup n)) (pairs_whole h)

pub lookup_none : (n : ℕ) → nothing ≡ lookup n []
unfolding lookup ascends global_of
lookup_none n = refl

-- ---- the loop of `ascending`: `last` is the local index before the place p

abbrev pub Rises : List ℕ → ℕ → ℕ → Bool
Rises b last p = above last (pairs_behind b p) && ascends (pairs_behind b p)

module _ (b : List ℕ) where
  pub rises_none : length b < 8 → true ≡ ascends (pairs_behind b 0)
  unfolding ascends
  rises_none h = ap ascends (behind_none b 0 h)

  pub rises_first : 8 ≤ length b → (last : ℕ) → last ≡ u32_at b 0 → Rises b last 8 ≡ ascends (pairs_behind b 0)
  unfolding ascends
  rises_first h last e = ap (λ (l : ℕ). Rises b l 8) e ∙ ap ascends (behind_more b 0 h)

  module _ (last p : ℕ) where
    pub rises_end : length b < p + 8 → true ≡ Rises b last p
    unfolding ascends
    rises_end h = ap (λ (ps : List Pair). above last ps && ascends ps) (behind_none b p h)

    module _ (h : p + 8 ≤ length b) (l : ℕ) (e : l ≡ u32_at b p) where
      rises_onward : (ltb last l && Rises b l (p + 8)) ≡ Rises b last p
      unfolding ascends
      rises_onward =
          ap (λ (x : ℕ). ltb last x && Rises b x (p + 8)) e ∙ ap (λ (ps : List Pair). above last ps && ascends ps) (behind_more b p h)

      pub rises_not : l ≤ last → false ≡ Rises b last p
      rises_not d = ap (λ (t : Bool). t && Rises b l (p + 8)) (sym (le-ltb last l d)) ∙ rises_onward

      pub rises_on : last < l → Rises b l (p + 8) ≡ Rises b last p
      rises_on d = ap (λ (t : Bool). t && Rises b l (p + 8)) (sym (lt-ltb last l d)) ∙ rises_onward

-- ---- the loop of `global_of`

module _ (b : List ℕ) (n p : ℕ) where
  pub global_end : length b < p + 8 → nothing ≡ global_of n (pairs_behind b p)
  unfolding global_of
  global_end h = ap (global_of n) (behind_none b p h)

  module _ (h : p + 8 ≤ length b) (l : ℕ) (e : l ≡ u32_at b p) where
    global_onward : cond (eqb l n) (gave (u32_at b (p + 4))) (global_of n (pairs_behind b (p + 8))) ≡ global_of n (pairs_behind b p)
    unfolding global_of
    global_onward =
        ap (λ (x : ℕ). cond (eqb x n) (gave (u32_at b (p + 4))) (global_of n (pairs_behind b (p + 8)))) e ∙ ap (global_of n) (behind_more b p h)

    pub global_hit : l ≡ n → (g : ℕ) → g ≡ u32_at b (p + 4) → gave g ≡ global_of n (pairs_behind b p)
    global_hit d g eg = ap gave eg ∙ sym (rw (eq-eqb l n d)) ∙ global_onward

    pub global_miss : (l ≡ n → ⊥) → global_of n (pairs_behind b (p + 8)) ≡ global_of n (pairs_behind b p)
    global_miss d = ap (λ (t : Bool). cond t (gave (u32_at b (p + 4))) (global_of n (pairs_behind b (p + 8)))) (sym (ne_eqb l n d)) ∙ global_onward
