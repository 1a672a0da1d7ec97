-- Laws of the list of an area's line bodies: its number of slots, the loop that fills it, and each way out of the call.
use Rattle.std.specs.Prelude.{ℕ, suc, ◌+◌, ◌<◌, ◌≤◌, ◌≡◌, refl, List, [], ◌∷◌, ◌++◌, map, length, drop, set, ltb}
use Rattle.std.proofs.Math.Path.{ap}
use Rattle.std.proofs.Common.{◌∙◌, ⊎_elim, arith}
use borrow.Author.Tests.{eq-eqb, ne_eqb}
use Rattle.walk.specs.Cases.{tests, by_cases, le_or_gt}
use Rattle.walk.specs.Listing.{Listing, more, ends, fails, Reply, gave, nothing, refused, gives, none, refuses}
use Rattle.walk.specs.Pick.{only}
use Rattle.refusal.specs.Told.{Told, told, longest}
use Rattle.refusal.specs.declared.Refusal.TheVariants as why
use Rattle.kinds.specs.Kind.{LINES, Sort}
use Rattle.area.specs.Subs.{Sub, subs_from, step_at, first_of}
use Rattle.area.specs.SubsLaws.{sub_next, sub_end, sub_refused, subs_long}
use Rattle.find.specs.Find.{is}
use Rattle.lines.specs.Lines.{headed, plus, count_of, count_lines}
use Rattle.body_list.specs.BodyList.{listed, sub_start, starts_from, in_room, body_list, slots_holding, bodies_after}

-- ---- as many bodies as are counted

pub plus_one : {R : Type 0} (x : Reply ℕ R) (n : ℕ) → gave n ≡ plus 1 x → (m : ℕ) × (gave m ≡ x) × (n ≡ suc m)
plus_one (gave m) n e = (m, refl, let q : n ≡ 1 + m = cc in omega arith)
plus_one nothing n e = let z : ◌≡◌ {A = ℕ} 0 1 = cc in absurd (omega arith)
plus_one (refused r) n e = let z : ◌≡◌ {A = ℕ} 0 1 = cc in absurd (omega arith)

counts : (l : Listing Sub Told) (n : ℕ) → gave n ≡ count_of (headed l) → length (map sub_start (listed l)) ≡ n
unfolding headed count_of listed
counts (more b l) n =
    by_cases (λ (k : Listing Sub Told). gave n ≡ count_of k → suc (length (map sub_start (listed l))) ≡ n) (ltb b.len 12)
    (λ e q. let z : ◌≡◌ {A = ℕ} 0 1 = cc in absurd (omega arith))
    (λ e q. let m = plus_one (count_of (headed l)) n q in omega (arith, counts l m.0 m.1, m.2))
counts ends n = λ q. let z : 0 ≡ n = cc in z
counts (fails t) n = λ q. let z : ◌≡◌ {A = ℕ} 0 1 = cc in absurd (omega arith)

pub counted_starts : (rule : ℕ → Sort) (s : List ℕ) (n : ℕ) → gave n ≡ count_lines rule s → length (starts_from rule s 0) ≡ n
counted_starts rule s n e = counts (only (is LINES) (subs_from rule s 0)) n e

-- ---- stores one after the other, from index i on

unfoldable pub store_all : List ℕ → ℕ → List ℕ → List ℕ
store_all [] i a = a
store_all (x ∷ xs) i a = store_all xs (i + 1) (set a i x)

store_under : (xs : List ℕ) (i z : ℕ) (a : List ℕ) → store_all xs (suc i) (z ∷ a) ≡ z ∷ store_all xs i a
unfolding store_all
store_under [] i z a = refl
store_under (x ∷ xs) i z a =
    let e : suc i + 1 ≡ suc (i + 1) = omega arith in
    ap (λ k. store_all xs k (z ∷ set a i x)) e ∙ store_under xs (i + 1) z (set a i x)

pub stored_all : (xs a : List ℕ) → length xs ≤ length a → store_all xs 0 a ≡ xs ++ drop (length xs) a
unfolding store_all
stored_all [] a h = refl
stored_all (x ∷ xs) [] h = absurd (omega arith)
stored_all (x ∷ xs) (z ∷ a) h = store_under xs 0 x a ∙ ap (λ l. x ∷ l) (stored_all xs a (omega arith))

-- ---- the loop of `fill`: one law for each way, on an answer of `sub_at`

module _ (rule : ℕ → Sort) (s : List ℕ) (p : ℕ) where
  -- a subsection is answered only in an area that is not too long
  pub sub_short : (b : Sub) (x : ℕ) → gives b x ≡ step_at rule s p → length s ≤ longest
  sub_short b x q =
      ⊎_elim (λ (m : length s ≤ longest). m)
      (λ (m : longest < length s). let e = q ∙ ap first_of (subs_long rule s p m) in let z : ◌≡◌ {A = ℕ} 0 1 = cc in absurd (omega arith))
      (le_or_gt (length s) longest)

  module _ (b : Sub) (x : ℕ) (q : gives b x ≡ step_at rule s p) where
    pub starts_line : b.kind ≡ LINES → b.start ∷ starts_from rule s x ≡ starts_from rule s p
    unfolding only listed
    starts_line h = rw (← (sub_next rule s p b x q).is, eq-eqb b.kind LINES h)

    pub starts_other : (b.kind ≡ LINES → ⊥) → starts_from rule s x ≡ starts_from rule s p
    unfolding only listed
    starts_other h = rw (← (sub_next rule s p b x q).is, ne_eqb b.kind LINES h)

  pub starts_end : none ≡ step_at rule s p → [] ≡ starts_from rule s p
  unfolding only listed
  starts_end q = rw (← sub_end rule s p q)

  pub starts_refused : (t : Told) → refuses t ≡ step_at rule s p → [] ≡ starts_from rule s p
  unfolding only listed
  starts_refused t q = rw (← sub_refused rule s p t q)

  module _ (i : ℕ) (a : List ℕ) where
    pub store_end : [] ≡ starts_from rule s p → a ≡ store_all (starts_from rule s p) i a
    unfolding store_all
    store_end e = ap (λ l. store_all l i a) e

    pub store_line : (v x : ℕ) → v ∷ starts_from rule s x ≡ starts_from rule s p
        → store_all (starts_from rule s x) (i + 1) (set a i v) ≡ store_all (starts_from rule s p) i a
    unfolding store_all
    store_line v x e = ap (λ l. store_all l i a) e

-- ---- each way out of `body_list`: the answer, and the slots

module _ (rule : ℕ → Sort) (s xs : List ℕ) where
  pub list_refused : (t : Told) → refused t ≡ count_lines rule s → (refused t ≡ body_list rule s (length xs)) × (xs ≡ bodies_after rule s xs)
  list_refused t e =
      let q : refused t ≡ body_list rule s (length xs) = ap (in_room (length xs)) e in
      (q, ap (slots_holding (starts_from rule s 0) xs) q)

  module _ (n : ℕ) (e : gave n ≡ count_lines rule s) where
    pub list_short : length xs < n → (refused (told why.NoRoom) ≡ body_list rule s (length xs)) × (xs ≡ bodies_after rule s xs)
    list_short h =
        let g : refused (told why.NoRoom) ≡ in_room (length xs) (gave n) = simp tests in
        let q : refused (told why.NoRoom) ≡ body_list rule s (length xs) = g ∙ ap (in_room (length xs)) e in
        (q, ap (slots_holding (starts_from rule s 0) xs) q)

    -- ys as `fill` leaves the slots
    pub list_all : n ≤ length xs → (ys : List ℕ) → ys ≡ starts_from rule s 0 ++ drop (length (starts_from rule s 0)) xs
        → (gave n ≡ body_list rule s (length xs)) × (ys ≡ bodies_after rule s xs)
    list_all h ys f =
        let g : gave n ≡ in_room (length xs) (gave n) = simp tests in
        let q : gave n ≡ body_list rule s (length xs) = g ∙ ap (in_room (length xs)) e in
        (q, f ∙ ap (λ k. starts_from rule s 0 ++ drop k xs) (counted_starts rule s n e) ∙ ap (slots_holding (starts_from rule s 0) xs) q)

-- the list takes n slots only after the tests
pub listed_counted : (m : ℕ) (x : Reply ℕ Told) (n : ℕ) → gave n ≡ in_room m x → gave n ≡ x
listed_counted m (gave k) n =
    by_cases (λ (y : Reply ℕ Told). gave n ≡ y → ◌≡◌ {A = Reply ℕ Told} (gave n) (gave k)) (ltb m k)
    (λ e q. let z : ◌≡◌ {A = ℕ} 0 1 = cc in absurd (omega arith)) (λ e q. q)
listed_counted m nothing n = λ q. q
listed_counted m (refused t) n = λ q. let z : ◌≡◌ {A = ℕ} 0 1 = cc in absurd (omega arith)
