-- Laws of collected listings: of a table, and of a record looked for while the whole listing is walked over.
use Prim.Native.Nat.{ℕ, zero, suc, ◌+◌, ◌<◌}
use Rattle.std.proofs.Common.{arith, eq-eqb, ne_eqb, sym, ◌∙◌}
use Rattle.std.specs.Prelude.{eqb, Bool, cond, ◌≡◌, length, take, drop}
use Rattle.std.proofs.Math.Path.{refl, ap}
use mathlib.Core.List.{List, [], ◌∷◌, map}
use Rattle.std.proofs.lemmas.List.{length-map}
use Rattle.walk.specs.Listing.{Listing, more, ends, fails, mapped, Reply, gave, nothing, refused}
use Rattle.walk.specs.Pick.{on_gave}
use Rattle.refusal.specs.Told.{Told}
use Rattle.find.specs.Find.{Span}
use Rattle.table.specs.Table.{table_of}
use Rattle.table.specs.Collect.{collected, listing_count, of_nth}

pub mapped_same : {B R : Type 0} (l : Listing B R) → mapped (λ (b : B). b) (λ (r : R). r) l ≡ l
mapped_same (more b l) = ap (more b) (mapped_same l)
mapped_same ends = refl
mapped_same (fails r) = refl

pub mapped_mapped : {A B C R : Type 0} (f : B → C) (g : A → B) (l : Listing A R)
    → mapped f (λ (r : R). r) (mapped g (λ (r : R). r) l) ≡ mapped (λ (a : A). f (g a)) (λ (r : R). r) l
mapped_mapped f g (more a l) = ap (more (f (g a))) (mapped_mapped f g l)
mapped_mapped f g ends = refl
mapped_mapped f g (fails r) = refl

-- under a map of the records
module _ {B C R : Type 0} (g : B → C) where
  pub collected_map : (l : Listing B R) → collected (mapped g (λ (r : R). r) l) ≡ on_gave (λ (bs : List B). gave (map g bs)) (collected l)
  unfolding collected
  collected_map (more b l) = ap (on_gave (λ (cs : List C). gave (g b ∷ cs))) (collected_map l) ∙ by (collected l)
    where
      by : (x : Reply (List B) R)
          → on_gave (λ (cs : List C). gave (g b ∷ cs)) (on_gave (λ (bs : List B). gave (map g bs)) x)
          ≡ on_gave (λ (bs : List B). gave (map g bs)) (on_gave (λ (bs : List B). gave (b ∷ bs)) x)
      by (gave bs) = refl
      by nothing = refl
      by (refused r) = refl
  collected_map ends = refl
  collected_map (fails r) = refl

  -- as many as before
  pub collected_length : (l : Listing B R) → listing_count (mapped g (λ (r : R). r) l) ≡ listing_count l
  collected_length l = ap (on_gave (λ (cs : List C). gave (length cs))) (collected_map l) ∙ by (collected l)
    where
      by : (x : Reply (List B) R)
          → on_gave (λ (cs : List C). gave (length cs)) (on_gave (λ (bs : List B). gave (map g bs)) x) ≡ on_gave (λ (bs : List B). gave (length bs)) x
      by (gave bs) = ap gave (length-map bs g)
      by nothing = refl
      by (refused r) = refl

-- ---- a table as the code comes to it: g is what the finder says

module _ {B C : Type 0} (list : List ℕ → Listing B Told) (f : List B → Reply C Told) (s : List ℕ) (g : Reply Span Told) where
  abbrev table_is : Reply Span Told → Reply C Told
  table_is x = on_gave f (collected (table_of list (λ (_ : ℕ) (b : B). b) s x))

  -- the part is lent from its start on, k long
  pub of_found : (a : Span) (k : ℕ) → gave a ≡ g → k ≡ a.len → on_gave f (collected (list (take k (drop a.start s)))) ≡ table_is g
  of_found a k e ek =
      ap (λ (j : ℕ). on_gave f (collected (list (take j (drop a.start s))))) ek
      ∙ ap (λ (l : Listing B Told). on_gave f (collected l)) (sym (mapped_same (list (take a.len (drop a.start s)))))
      ∙ ap table_is e

  pub of_none : nothing ≡ g → f [] ≡ table_is g
  unfolding collected
  of_none e = ap table_is e

  pub of_refused : (t : Told) → refused t ≡ g → refused t ≡ table_is g
  unfolding collected
  of_refused t e = ap table_is e

-- ---- one pass over a whole listing that looks for the record of index w: n records were passed, `best` is what was found so far

module _ {B C R : Type 0} (f : B → Reply C R) (last : Reply C R → Reply C R) (w : ℕ) where
  unfoldable pub sought : ℕ → Reply C R → Listing B R → Reply C R
  sought n best (more b l) = sought (n + 1) (cond (eqb n w) (f b) best) l
  sought n best ends = last best
  sought n best (fails r) = refused r

  sought_past : (n : ℕ) (best : Reply C R) (l : Listing B R) → w < n → sought n best l ≡ on_gave (λ (bs : List B). last best) (collected l)
  unfolding sought collected
  sought_past n best (more b l) h =
      ap (λ (t : Bool). sought (n + 1) (cond t (f b) best) l) (ne_eqb n w (λ e. omega arith))
      ∙ sought_past (n + 1) best l (omega arith)
      ∙ by (collected l)
    where
      by : (x : Reply (List B) R)
          → on_gave (λ (bs : List B). last best) x ≡ on_gave (λ (bs : List B). last best) (on_gave (λ (bs : List B). gave (b ∷ bs)) x)
      by (gave bs) = refl
      by nothing = refl
      by (refused r) = refl
  sought_past n best ends h = refl
  sought_past n best (fails r) h = refl

  -- the pass is the definition
  pub sought_is : (j n : ℕ) (best : Reply C R) (l : Listing B R) → w ≡ n + j
      → sought n best l ≡ on_gave (λ (bs : List B). last (of_nth j bs best f)) (collected l)
  unfolding sought collected of_nth
  sought_is zero n best (more b l) e =
      ap (λ (t : Bool). sought (n + 1) (cond t (f b) best) l) (eq-eqb n w (omega arith))
      ∙ sought_past (n + 1) (f b) l (omega arith)
      ∙ by (collected l)
    where
      by : (x : Reply (List B) R)
          → on_gave (λ (bs : List B). last (f b)) x ≡ on_gave (λ (bs : List B). last (of_nth 0 bs best f)) (on_gave (λ (bs : List B). gave (b ∷ bs)) x)
      by (gave bs) = refl
      by nothing = refl
      by (refused r) = refl
  sought_is (suc j) n best (more b l) e =
      ap (λ (t : Bool). sought (n + 1) (cond t (f b) best) l) (ne_eqb n w (λ d. omega arith))
      ∙ sought_is j (n + 1) best l (omega arith)
      ∙ by (collected l)
    where
      by : (x : Reply (List B) R)
          → on_gave (λ (bs : List B). last (of_nth j bs best f)) x
          ≡ on_gave (λ (bs : List B). last (of_nth (suc j) bs best f)) (on_gave (λ (bs : List B). gave (b ∷ bs)) x)
      by (gave bs) = refl
      by nothing = refl
      by (refused r) = refl
  sought_is zero n best ends e = refl
  sought_is (suc j) n best ends e = refl
  sought_is zero n best (fails r) e = refl
  sought_is (suc j) n best (fails r) e = refl
