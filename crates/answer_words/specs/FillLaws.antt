-- Laws of a loop that puts records into lent words one by one, over any walk and any records of k words each: what it keeps, for each way of its
-- turns, and how it stops. A crate whose call gives many records cites them for its own walk.
use Prim.Native.Nat.{ℕ, zero, suc, ◌+◌, ◌-◌, ◌*◌, ◌/◌, ◌≤◌, ◌<◌}
use Rattle.std.specs.Prelude.{◌≡◌, ◌⊎◌, List, [], ◌∷◌}
use Rattle.std.proofs.Math.Path.{refl, sym, ap}
use Rattle.std.proofs.Common.{◌∙◌, subst, inl, inr, mul-zero, mul-suc, mul-add, mul-le-mul_left, add-one, arith}
use Rattle.std.proofs.Math.Nat.{mul-div-le}
use Rattle.std.proofs.Math.ListN.{length}
use Rattle.word.specs.Word.{put, store}
use Rattle.word.specs.WordLaws.{put_length_lem, store_put}
use Rattle.walk.specs.Cases.{tests}
use Rattle.walk.specs.Listing.{Answer, gives, none, refuses}
use Rattle.walk.specs.Many.{no_more, then_many, as_many, many, many_of}
use Rattle.walk.specs.ManyLaws.{NoRecord, many_step, many_none, many_zero, many_some}
use Rattle.refusal.specs.Told.{Told}
use Rattle.answer_words.specs.PiecesLaws.{put_nothing, put_join}
use Rattle.answer_words.specs.Fill.{words_of, no_room, counted, filled, fill_of}
use Rattle.answer_words.specs.Filling.{put_from, done, Filled, Filling}

module _ (k : ℕ) where
  times_next : (n : ℕ) → k * (n + 1) ≡ k * n + k
  times_next n = ap (λ (x : ℕ). k * x) (add-one n) ∙ mul-suc k n

  -- n records and one more fit into m words
  one_more : (n m : ℕ) → n < m / k → k * n + k ≤ m
  one_more n m h = omega (arith, times_next n, mul-le-mul_left k (let l : n + 1 ≤ m / k = omega arith in l), mul-div-le m k)

-- ---- records put one by one are their words put at once

module _ {B : Type 0} (k : ℕ) (f : B → List ℕ) (sized : (b : B) → length (f b) ≡ k) where
  put_from_lem : (n : ℕ) (o : List ℕ) (rs : List B) → k * (n + length rs) ≤ length o → put_from k f n o rs ≡ put o (k * n) (words_of f rs)
  put_from_lem n o [] h = put_nothing o (k * n)
  put_from_lem n o (r ∷ rs) h =
      let l = sized r in
      let o' = put o (k * n) (f r) in
      let q : n + suc (length rs) ≡ n + 1 + length rs = omega arith in
      let h' : k * (n + 1 + length rs) ≤ length o = subst (λ (x : ℕ). k * x ≤ length o) q h in
      let fits : k * n + length (f r) ≤ length o = omega (arith, times_next k n, mul-add k (n + 1) (length rs)) in
      let e : k * (n + 1) ≡ k * n + length (f r) = omega (arith, times_next k n) in
      put_from_lem (n + 1) o' rs (omega (arith, put_length_lem o (k * n) (f r) fits))
      ∙ ap (λ (a : ℕ). put o' a (words_of f rs)) e ∙ put_join o (k * n) (f r) (words_of f rs) fits

-- ---- the loop

-- fewer are enough where no more are given
module _ {S B R : Type 0} (next : S → Answer S B R) where
  pub many_fewer : (k j : ℕ) (w : S) → length (many next k w).records ≤ j → j ≤ k → many next j w ≡ many next k w
  unfolding many
  many_fewer zero zero w h l = refl
  many_fewer zero (suc j) w h l = absurd (omega arith)
  many_fewer (suc k) zero w h l = by (next w) h
    where
      by : (a : Answer S B R) → length (then_many (many next k) w a).records ≤ 0 → no_more w ≡ then_many (many next k) w a
      by (gives b t) h = absurd (omega arith)
      by none h = refl
      by (refuses r) h = refl
  many_fewer (suc k) (suc j) w h l = by (many_fewer k j) (next w) h
    where
      by : ((t : S) → length (many next k t).records ≤ j → j ≤ k → many next j t ≡ many next k t) → (a : Answer S B R)
          → length (then_many (many next k) w a).records ≤ suc j → then_many (many next j) w a ≡ then_many (many next k) w a
      by ih (gives b t) h = ap (λ m. record { records = b ∷ m.records; next = m.next }) (ih t (omega arith) (omega arith))
      by ih none h = refl
      by ih (refuses r) h = refl

-- S is the type of the walk's states and B that of the records
module _ {S B : Type 0} (k : ℕ) (f : B → List ℕ) (sized : (b : B) → length (f b) ≡ k) (next : S → Answer S B Told) (w₀ : S) (o₀ : List ℕ) where
  abbrev room : ℕ
  room = length o₀ / k

  abbrev Ends : Answer S ℕ Told → List ℕ → Type 0
  Ends = Filled k f next w₀ o₀

  abbrev Keeps : ℕ → S → S → List ℕ → Type 0
  Keeps = Filling k f next w₀ o₀

  pub fill_start : Keeps 0 w₀ w₀ o₀
  fill_start =
      record { most = omega arith; size = refl; same = refl; first = λ e. refl; rest = let e : room - 0 ≡ room = omega arith in ap (λ (x : ℕ). done k f 0 o₀ (many next x w₀)) e }

  -- ---- with room for a record or without

  filled_is : k ≤ length o₀ → {a : Answer S ℕ Told} {o : List ℕ} → (a ≡ counted (many_of next room w₀)) × (o ≡ filled f o₀ (many_of next room w₀)) → Ends a o
  unfolding fill_of
  filled_is h q = let e : many_of next room w₀ ≡ fill_of k next (length o₀) w₀ = sym (simp tests) in (q.0 ∙ ap counted e, q.1 ∙ ap (filled f o₀) e)

  -- without: a is what a step answers
  pub fill_no_room : length o₀ < k → (a : Answer S B Told) → a ≡ next w₀ → Ends (counted (no_room a)) o₀
  unfolding fill_of
  fill_no_room h a e =
      let q : no_room a ≡ fill_of k next (length o₀) w₀ = ap no_room e ∙ sym (simp tests) in
      (ap counted q, as_found a ∙ ap (filled f o₀) q)
    where
      as_found : (a : Answer S B Told) → o₀ ≡ filled f o₀ (no_room a)
      as_found (gives r t) = refl
      as_found none = refl
      as_found (refuses t) = refl

  -- ---- the turns

  module _ {n : ℕ} {last w : S} {o : List ℕ} (h : Keeps n last w o) where
    -- a turn that passes on
    pub fill_pass : (t : S) → next t ≡ next w → Keeps n last t o
    fill_pass t e = record { most = h.most; size = h.size; same = e ∙ h.same; first = h.first; rest = h.rest }

    -- a turn that gives a record, whose words are put
    pub fill_record : (r : B) (t : S) → gives r t ≡ next w → n < length o₀ / k → Keeps (n + 1) t t (put o (k * n) (f r))
    fill_record r t e l =
        let fits : k * n + length (f r) ≤ length o = omega (arith, sized r, h.size, one_more k n (length o₀) l) in
        let o' = put o (k * n) (f r) in
        let j : room - (n + 1) ≡ room - n - 1 = omega arith in
        let i : suc (room - n - 1) ≡ room - n = omega arith in
        let c : n + 1 + length (many next (room - n - 1) t).records ≡ n + suc (length (many next (room - n - 1) t).records) = omega arith in
        record {
          most = omega arith;
          size = put_length_lem o (k * n) (f r) fits ∙ h.size;
          same = refl;
          first = λ q. absurd (omega arith);
          rest =
              ap (λ (x : ℕ). done k f (n + 1) o' (many next x t)) j
              ∙ ap (λ (x : ℕ). record { count = x; next = (many next (room - n - 1) t).next; words = put_from k f (n + 1) o' (many next (room - n - 1) t).records }) c
              ∙ ap (done k f n o) (many_step next (room - n - 1) last (gives r t) (e ∙ h.same))
              ∙ ap (λ (x : ℕ). done k f n o (many next x last)) i
              ∙ h.rest;
        }

    -- a record whose words are put if they fit, as they do here
    pub fill_stored : (r : B) (t : S) (o' : List ℕ) → gives r t ≡ next w → n < length o₀ / k → o' ≡ store o (k * n) (f r) → Keeps (n + 1) t t o'
    fill_stored r t o' e l q =
        subst (Keeps (n + 1) t t)
        (store_put o (k * n) (f r) k (sized r) (omega (arith, h.size, one_more k n (length o₀) l)) ∙ sym q) (fill_record r t e l)

    -- ---- it stops where there is no room for another record, or where no other is given

    ended : NoRecord (next w) ⊎ (room ≤ n) → done k f n o (no_more last) ≡ done k f 0 o₀ (many next room w₀)
    ended (inl z) = ap (done k f n o) (sym (many_none next (room - n) last (subst NoRecord h.same z))) ∙ h.rest
    ended (inr z) =
        let e : 0 ≡ room - n = omega arith in
        ap (done k f n o) (sym (many_zero next last)) ∙ ap (λ (x : ℕ). done k f n o (many next x last)) e ∙ h.rest

    -- behind a record
    stopped : NoRecord (next w) ⊎ (room ≤ n) → 1 ≤ n → (gives n last ≡ counted (many_of next room w₀)) × (o ≡ filled f o₀ (many_of next room w₀))
    stopped z l =
        let m = many next room w₀ in
        let q = ended z in
        let qc : n + 0 ≡ 0 + length m.records = ap (λ d. d.count) q in
        let qn : last ≡ m.next = ap (λ d. d.next) q in
        let qw : o ≡ put_from k f 0 o₀ m.records = ap (λ d. d.words) q in
        let c : n ≡ length m.records = omega arith in
        let e : gives m.records m.next ≡ many_of next room w₀ = many_some next room w₀ (omega arith) in
        let x : 0 + length m.records ≤ room = omega (arith, h.most) in
        let fits : k * (0 + length m.records) ≤ length o₀ = omega (arith, mul-le-mul_left k x, mul-div-le (length o₀) k) in
        ((λ i. gives (c i) (qn i)) ∙ ap counted e, qw ∙ put_from_lem k f sized 0 o₀ m.records fits ∙ ap (λ (x : ℕ). put o₀ x (words_of f m.records)) (mul-zero k) ∙ ap (filled f o₀) e)

    -- which state is behind the last record: the one that as many records from the start on lead to
    pub fill_behind : (a : Answer S B Told) → a ≡ next w → NoRecord a → last ≡ (many next n w₀).next
    fill_behind a e g =
        let m = many next room w₀ in
        let q = ended (inl (subst NoRecord e g)) in
        let qc : n + 0 ≡ 0 + length m.records = ap (λ d. d.count) q in
        let qn : last ≡ m.next = ap (λ d. d.next) q in
        qn ∙ ap (λ d. d.next) (sym (many_fewer next room n w₀ (omega arith) h.most))

    module _ (fits : k ≤ length o₀) where
      pub fill_full : length o₀ / k ≤ n → 1 ≤ n → Ends (gives n last) o
      fill_full l p = filled_is fits (stopped (inr l) p)

      -- a is what a step from here answers
      pub fill_stop : (a : Answer S B Told) → a ≡ next w → NoRecord a → (n ≡ 0 → ⊥) → Ends (gives n last) o
      fill_stop a e g z = filled_is fits (stopped (inl (subst NoRecord e g)) (omega arith))

      -- at once: the answer is that of the one step
      pub fill_none : (a : Answer S B Told) → a ≡ next w → NoRecord a → n ≡ 0 → Ends (counted (no_room a)) o
      fill_none a e g z =
          let q : a ≡ next w₀ = e ∙ h.same ∙ ap next (h.first z) in
          let m = many_none next room w₀ (subst NoRecord q g) in
          let o_is : o ≡ o₀ = ap (λ d. d.words) (ended (inl (subst NoRecord e g))) ∙ ap (λ m. put_from k f 0 o₀ m.records) m in
          filled_is fits (ap counted (as_one a g) ∙ ap (λ x. counted (as_many (many next room w₀) x)) q, o_is ∙ as_found a g ∙ ap (λ x. filled f o₀ (as_many (many next room w₀) x)) q)
        where
          as_one : (a : Answer S B Told) → NoRecord a → no_room a ≡ as_many (many next room w₀) a
          as_one (gives r t) g = absurd g
          as_one none g = refl
          as_one (refuses t) g = refl

          as_found : (a : Answer S B Told) → NoRecord a → o₀ ≡ filled f o₀ (as_many (many next room w₀) a)
          as_found (gives r t) g = absurd g
          as_found none g = refl
          as_found (refuses t) g = refl
