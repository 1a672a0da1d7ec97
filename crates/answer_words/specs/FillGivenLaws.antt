-- Laws of a call that gives many records: each way out of it, that only an answer changes the words lent for records, and that nothing comes behind the
-- last ones.
use Prim.Native.Nat.{ℕ, zero, suc, ◌/◌, ◌≤◌, ◌<◌}
use Rattle.std.specs.Prelude.{◌≡◌, refl, ◌⊎◌, List, [], ◌∷◌, Bool, true, false, cond, length, leb, ltb}
use Rattle.std.proofs.Common.{sym, ap, ◌∙◌, subst, inl, inr, ⊎_elim, arith, le-div_iff_mul-le, length-append}
use Rattle.std.proofs.Math.Path.{subst⁻¹}
use borrow.Author.Tests.{ltb-false}
use Rattle.word.specs.Word.{put}
use Rattle.walk.specs.Cases.{by_cases}
use Rattle.walk.specs.Listing.{Answer, gives, none, refuses}
use Rattle.walk.specs.Many.{then_many, as_many, many}
use Rattle.refusal.specs.Told.{Told}
use Rattle.answer_words.specs.Given.{given, Gives, status_in, short_given}
use Rattle.answer_words.specs.GivenLaws.{gives_put, gives_fits, gives_as, room_changes, room_keeps, room_still}
use Rattle.answer_words.specs.Fill.{no_room, counted, filled, fill_of}
use Rattle.answer_words.specs.FillGiven.{count_words, answer_status, many_given, asked_size, fill_given, fill_left}

-- an answer: 1, or 4 where nothing comes behind it
abbrev pub Answered : ℕ → Type 0
Answered r = (r ≡ 1) ⊎ (r ≡ 4)

answer_answered : (last : Bool) → Answered (answer_status last)
answer_answered true = inr refl
answer_answered false = inl refl

-- P of the state behind what is given
abbrev pub Behind : {S B : Type 0} → (S → Type 0) → Answer S B Told → Type 0
Behind P (gives b w) = P w
Behind P none = Unit {0}
Behind P (refuses t) = Unit {0}

-- what holds behind each record holds behind many
module _ {S B : Type 0} (next : S → Answer S B Told) (P : S → Type 0) (each : (w : S) → Behind P (next w)) where
  many_behind : (k : ℕ) (w : S) → P w → P (many next k w).next
  unfolding many
  many_behind zero w h = h
  many_behind (suc k) w h = by (many_behind k) (next w) (each w)
    where
      by : ((t : S) → P t → P (many next k t).next) → (a : Answer S B Told) → Behind P a → P (then_many (many next k) w a).next
      by ih (gives b t) q = ih t q
      by ih none q = h
      by ih (refuses t) q = h

  of_behind : (k : ℕ) (w : S) → 0 < k → Behind P (as_many (many next k w) (next w))
  unfolding many
  of_behind zero w l = absurd (omega arith)
  of_behind (suc k) w l = by (next w) (each w)
    where
      by : (a : Answer S B Told) → Behind P a → Behind P (as_many (then_many (many next k) w a) a)
      by (gives b t) q = many_behind k t q
      by none q = tt
      by (refuses t) q = tt

  no_behind : (a : Answer S B Told) → Behind P (no_room a)
  no_behind (gives b t) = tt
  no_behind none = tt
  no_behind (refuses t) = tt

  pub fill_behind_each : (k n : ℕ) (w : S) → 0 < k → Behind P (fill_of k next n w)
  unfolding fill_of
  fill_behind_each k n w l =
      by_cases (Behind P) (ltb n k) (λ e. no_behind (next w))
      (λ e. of_behind (n / k) w ((le-div_iff_mul-le {x = 1} l).1 (omega (arith, ltb-false n k e))))

-- a has the answer for each state of the walk; w is the state that was read, b what was told, and y what was left
pub fill_given_lem : {S B W : Type 0} (k : ℕ) (over : S → Bool) (g : S → List ℕ) (f : B → List ℕ) (o x : List ℕ) (a : W → Answer S (List B) Told) {w v : W}
    {b : Answer S ℕ Told} {y left : List ℕ} {r : ℕ} → asked_size k ≤ length o → w ≡ v → b ≡ counted (a w) → y ≡ filled f x (a w)
    → Gives o (many_given k over g b) r left → Gives o (fill_given k over g o (a v)) r left × (y ≡ fill_left k f o x (a v))
fill_given_lem k over g f o x a {v = v} h p e q z =
    room_changes (asked_size k) o (many_given k over g (counted (a v))) x (filled f x (a v)) h
    (gives_as (many_given k over g) (e ∙ ap (λ u. counted (a u)) p) z) (q ∙ ap (λ u. filled f x (a u)) p)

module _ {S B : Type 0} (k : ℕ) (over : S → Bool) (g : S → List ℕ) (f : B → List ℕ) (o x : List ℕ) (a : Answer S (List B) Told) where
  pub fill_short : length o < asked_size k → Gives o (fill_given k over g o a) 3 o × (x ≡ fill_left k f o x a)
  fill_short h = room_keeps (asked_size k) o (many_given k over g (counted a)) x (filled f x a) h

  -- THE LAW: with any status but 1 and 4 the words lent for records are as they were
  pub fill_careful : ((w : S) → length (g w) ≡ k) → {r : ℕ} {left : List ℕ} → Gives o (fill_given k over g o a) r left → (r ≡ 1 → ⊥) → (r ≡ 4 → ⊥)
      → fill_left k f o x a ≡ x
  fill_careful sized q z u =
      room_still Answered (asked_size k) o (many_given k over g (counted a)) x (filled f x a) (by a) q (⊎_elim z u)
    where
      by : (a : Answer S (List B) Told) → asked_size k ≤ length o → Answered (status_in o (many_given k over g (counted a))) ⊎ (filled f x a ≡ x)
      by (gives rs w) l =
          let ws = count_words g (length rs) w in
          let n = length-append (g w) (length rs ∷ []) in
          inl (subst Answered (gives_put o (given (answer_status (over w)) 0 ws) (omega (arith, sized w))).status (answer_answered (over w)))
      by none l = inr refl
      by (refuses t) l = inr refl

  -- THE LAW: behind an answer of status 4 the walk is at its end, if it is so at each state that is over and stands behind a record; P says of words that
  -- their walk is
  pub fill_last : (P : List ℕ → Type 0) (next : S → Answer S B Told) → ((w : S) (n : ℕ) → over w ≡ true → next w ≡ none → P (put o 0 (count_words g n w)))
      → Behind (λ w. over w ≡ true → next w ≡ none) a → {left : List ℕ} → Gives o (fill_given k over g o a) 4 left → P left
  fill_last P next at h {left} q = room (leb (asked_size k) (length o)) q
    where
      other : (n : ℕ) → 4 ≡ n → (n ≡ 4 → ⊥) → P left
      other n e z = absurd (z (sym e))

      is_over_lem : (t : Bool) → 4 ≡ answer_status t → t ≡ true
      is_over_lem true e = refl
      is_over_lem false e = absurd (omega arith)

      by : (b : Answer S (List B) Told) → Behind (λ w. over w ≡ true → next w ≡ none) b → Gives o (many_given k over g (counted b)) 4 left → P left
      by (gives rs w) h q =
          let f = gives_fits q (λ e. omega arith) in
          let e = is_over_lem (over w) f.0 in
          subst⁻¹ P f.1 (at w (length rs) e (h e))
      by none h q = other 0 (gives_fits q (λ e. omega arith)).0 (λ e. omega arith)
      by (refuses t) h q = other 2 (gives_fits q (λ e. omega arith)).0 (λ e. omega arith)

      room : (t : Bool) → Gives o (cond t (many_given k over g (counted a)) short_given) 4 left → P left
      room true q = by a h q
      room false q = other 3 (gives_fits q (λ e. omega arith)).0 (λ e. omega arith)
