-- Laws of the records of a body: one step, what an answer says, and the records without their places.
use Rattle.std.specs.Prelude.{ℕ, ◌+◌, ◌<◌, ◌≤◌, Bool, cond, drop}
use Rattle.std.proofs.Math.Path.{◌≡◌, refl, sym, ap}
use Rattle.std.proofs.Common.{◌∙◌, arith}
use mathlib.Core.List.{List}
use Rattle.std.proofs.Math.Bool.{true, false}
use Rattle.std.proofs.Math.ListN.{length, length-drop}
use Rattle.std.proofs.Math.Seq.{drop-drop}
use Rattle.std.proofs.Math.Dec.{ltb}
use borrow.Author.Tests.{ltb-true, ltb-false}
use Rattle.walk.specs.Cases.{tests}
use Rattle.walk.specs.Listing.{Move, item, pass, over, fail, Listing, more, ends, fails, mapped, on_move, moved, all, Answer, gives, none, refuses}
use Rattle.walk.specs.ListingLaws.{To, all_step, all_ind}
use Rattle.refusal.specs.Told.{Told, told}
use Rattle.refusal.specs.declared.Refusal.TheVariants as why
use Rattle.table.specs.Rows.{rows_placed, row_of, row_at, rows_from}

-- what a bite says of the bytes: a record is some bytes long, which are there, and the rest is behind them
abbrev pub Bitten : {B : Type 0} → (B → ℕ) → List ℕ → Move (List ℕ) B Told → Type 0
Bitten size s (item r t) = (0 < size r) × (size r ≤ length s) × (t ≡ drop (size r) s)
Bitten size s (pass t) = ⊥
Bitten size s over = Unit {0}
Bitten size s (fail t) = Unit {0}

module _ {B : Type 0} (bite : List ℕ → Move (List ℕ) B Told) (size : B → ℕ) (bitten : (s : List ℕ) → Bitten size s (bite s)) where
  bite_falls : (s : List ℕ) (u : Move (List ℕ) B Told) → Bitten size s u → To u (λ t. length t < length s)
  bite_falls s (item r t) w = omega (arith, ap length w.2 ∙ length-drop (size r) s)
  bite_falls s (pass t) w = absurd w
  bite_falls s over w = tt
  bite_falls s (fail t) w = tt

  pub falls : (s : List ℕ) → To (bite s) (λ t. length t < length s)
  falls s = bite_falls s (bite s) (bitten s)

  pub bites_step : (s : List ℕ) → all bite length s ≡ on_move (all bite length) (bite s)
  bites_step = all_step bite length falls

-- one step
module _ {B C : Type 0} (bite : List ℕ → Move (List ℕ) B Told) (size : B → ℕ) (show : ℕ → B → C) where
  pub rows_past : (b : List ℕ) (p : ℕ) → length b < p → rows_from bite size show b p ≡ fails (told why.Cut)
  unfolding rows_from
  rows_past b p h = simp tests

  pub rows_in : (b : List ℕ) (p : ℕ) → p ≤ length b → rows_from bite size show b p ≡ rows_placed size show p (all bite length (drop p b))
  unfolding rows_from
  rows_in b p h = simp tests

  module _ (bitten : (s : List ℕ) → Bitten size s (bite s)) where
    turn : (b : List ℕ) (p : ℕ) → p ≤ length b → (u : Move (List ℕ) B Told) → Bitten size (drop p b) u
        → rows_placed size show p (on_move (all bite length) u) ≡ on_move (rows_from bite size show b) (moved (row_of size show p u))
    unfolding rows_placed
    turn b p h (item r t) w =
        let room : p + size r ≤ length b = omega (arith, length-drop p b) in
        ap (more (show p r))
        (ap (λ (x : List ℕ). rows_placed size show (p + size r) (all bite length x)) (w.2 ∙ drop-drop (size r) p b)
        ∙ sym (rows_in b (p + size r) room))
    turn b p h (pass t) w = absurd w
    turn b p h over w = refl
    turn b p h (fail t) w = refl

    pub rows_step : (b : List ℕ) (p : ℕ) → rows_from bite size show b p ≡ on_move (rows_from bite size show b) (moved (row_at bite size show b p))
    unfolding row_at
    rows_step b p = go (ltb (length b) p) refl
      where
        go : (a : Bool) → ltb (length b) p ≡ a
            → rows_from bite size show b p ≡ on_move (rows_from bite size show b) (moved (cond a (refuses (told why.Cut)) (row_of size show p (bite (drop p b)))))
        go true e = rows_past b p (ltb-true (length b) p e)
        go false e =
            let h = ltb-false (length b) p e in
            rows_in b p h ∙ ap (rows_placed size show p) (bites_step bite size bitten (drop p b)) ∙ turn b p h (bite (drop p b)) (bitten (drop p b))

-- what an answer at a place of the body says of the records from there on: for the loops over a body
pub record Row {B C : Type 0} (bite : List ℕ → Move (List ℕ) B Told) (size : B → ℕ) (show : ℕ → B → C) (b : List ℕ) (p : ℕ) (c : C) (x : ℕ) : Type 0 where
  pub row : B
  pub shown : c ≡ show p row
  pub bites : bite (drop p b) ≡ item row (drop x b)
  pub is : more row (all bite length (drop x b)) ≡ all bite length (drop p b)
  pub end : x ≡ p + size row
  pub behind : p < x
  pub inside : x ≤ length b

module _ {B C : Type 0} (bite : List ℕ → Move (List ℕ) B Told) (size : B → ℕ) (show : ℕ → B → C) (bitten : (s : List ℕ) → Bitten size s (bite s)) (b : List ℕ) (p : ℕ) where
  abbrev rest : List ℕ
  rest = drop p b

  abbrev found : Bool → Answer ℕ C Told
  found a = cond a (refuses (told why.Cut)) (row_of size show p (bite rest))

  row_of_lem : (c : C) (x : ℕ) → p ≤ length b → (u : Move (List ℕ) B Told) → bite rest ≡ u → Bitten size rest u → gives c x ≡ row_of size show p u
      → Row bite size show b p c x
  row_of_lem c x h (item r t) e w q =
      let ec : c ≡ show p r = cc in
      let ex : x ≡ p + size r = cc in
      let et : t ≡ drop x b = w.2 ∙ drop-drop (size r) p b ∙ ap (λ (i : ℕ). drop i b) (sym ex) in
      let eb : bite rest ≡ item r (drop x b) = e ∙ ap (item r) et in
      record {
        row = r;
        shown = ec;
        bites = eb;
        is = sym (bites_step bite size bitten rest ∙ ap (on_move (all bite length)) eb);
        end = ex;
        behind = omega arith;
        inside = omega (arith, length-drop p b);
      }
  row_of_lem c x h (pass t) e w q = absurd w
  row_of_lem c x h over e w q = let z : ◌≡◌ {A = ℕ} 0 1 = cc in absurd (omega arith)
  row_of_lem c x h (fail t) e w q = let z : ◌≡◌ {A = ℕ} 0 1 = cc in absurd (omega arith)

  pub row_next : (c : C) (x : ℕ) → gives c x ≡ row_at bite size show b p → Row bite size show b p c x
  unfolding row_at
  row_next c x q = go (ltb (length b) p) refl q
    where
      go : (a : Bool) → ltb (length b) p ≡ a → gives c x ≡ found a → Row bite size show b p c x
      go true e q = let z : ◌≡◌ {A = ℕ} 0 1 = cc in absurd (omega arith)
      go false e q = row_of_lem c x (ltb-false (length b) p e) (bite rest) refl (bitten rest) q

  -- an end and a refusal: u is the listing's step
  module _ (h : p ≤ length b) where
    at_inside : row_of size show p (bite rest) ≡ row_at bite size show b p
    unfolding row_at
    at_inside = simp tests

    pub row_end : none ≡ row_at bite size show b p → ends ≡ all bite length rest
    row_end q = by (bite rest) (bitten rest) (q ∙ sym at_inside) ∙ sym (bites_step bite size bitten rest)
      where
        by : (u : Move (List ℕ) B Told) → Bitten size rest u → none ≡ row_of size show p u → ends ≡ on_move (all bite length) u
        by (item r t) w q = let z : ◌≡◌ {A = ℕ} 0 1 = cc in absurd (omega arith)
        by (pass t) w q = absurd w
        by over w q = refl
        by (fail t) w q = let z : ◌≡◌ {A = ℕ} 0 1 = cc in absurd (omega arith)

    pub row_refused : (t : Told) → refuses t ≡ row_at bite size show b p → fails t ≡ all bite length rest
    row_refused t q = by (bite rest) (bitten rest) (q ∙ sym at_inside) ∙ sym (bites_step bite size bitten rest)
      where
        by : (u : Move (List ℕ) B Told) → Bitten size rest u → refuses t ≡ row_of size show p u → fails t ≡ on_move (all bite length) u
        by (item r x) w q = let z : ◌≡◌ {A = ℕ} 0 1 = cc in absurd (omega arith)
        by (pass x) w q = absurd w
        by over w q = let z : ◌≡◌ {A = ℕ} 0 1 = cc in absurd (omega arith)
        by (fail x) w q = ap fails (cc)

-- where `back` undoes `show` at each place of the body, the records without their places are those of the bites
module _ {B C : Type 0} (bite : List ℕ → Move (List ℕ) B Told) (size : B → ℕ) (show : ℕ → B → C) (bitten : (s : List ℕ) → Bitten size s (bite s))
    (b : List ℕ) (back : C → B) (undo : (p : ℕ) (r : B) (t : List ℕ) → p ≤ length b → bite (drop p b) ≡ item r t → back (show p r) ≡ r) where
  abbrev Same : List ℕ → Listing B Told → Type 0
  Same t l = (p : ℕ) → p ≤ length b → t ≡ drop p b → mapped back (λ (x : Told). x) (rows_placed size show p l) ≡ l

  same : (t : List ℕ) (u : Move (List ℕ) B Told) → bite t ≡ u → Bitten size t u → To u (λ v. Same v (all bite length v)) → Same t (on_move (all bite length) u)
  unfolding rows_placed
  same t (item r v) q w f p h e =
      let here : back (show p r) ≡ r = undo p r v h (ap bite (sym e) ∙ q) in
      let there = f (p + size r) (omega (arith, ap length e, length-drop p b)) (w.2 ∙ ap (drop (size r)) e ∙ drop-drop (size r) p b) in
      λ i. more (here i) (there i)
  same t (pass v) q w f p h e = absurd w
  same t over q w f p h e = refl
  same t (fail x) q w f p h e = refl

  pub rows_back : (p : ℕ) → p ≤ length b → mapped back (λ (x : Told). x) (rows_from bite size show b p) ≡ all bite length (drop p b)
  rows_back p h =
      ap (mapped back (λ (x : Told). x)) (rows_in bite size show b p h)
      ∙ all_ind bite length (falls bite size bitten) Same (λ t f. same t (bite t) refl (bitten t) f) (drop p b) p h refl
