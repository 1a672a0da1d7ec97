-- States of a walk from which calls are answered alike: with g of each record, for a map g of the records, any number of replies are the same. Then calls for
-- many records at once are answered alike, too, and the states behind them are such states again.
use Prim.Native.Nat.{ℕ, zero, suc, ◌+◌}
use Rattle.std.specs.Prelude.{◌≡◌, List, [], ◌∷◌, map, length, drop, get_or}
use Rattle.std.proofs.Math.Path.{refl, ap}
use Rattle.std.proofs.Common.{sym, ◌∙◌}
use Rattle.std.proofs.lemmas.List.{length-map}
use Rattle.walk.specs.Listing.{Listing, more, ends, fails, mapped, Answer, gives, none, refuses, Reply, gave, nothing, refused, replies, replied, calls}
use Rattle.walk.specs.Pick.{map_reply}
use Rattle.walk.specs.Many.{Many, no_more, then_many, as_many, many, many_of}
use Rattle.walk.specs.ManyLaws.{NoRecord, gave_all, many_none, many_calls}

module _ {B C R : Type 0} (g : B → C) where
  -- g of the record that a reply gave, and of each record of a listing
  abbrev pub through : Reply B R → Reply C R
  through = map_reply g (λ (r : R). r)

  abbrev pub throughout : Listing B R → Listing C R
  throughout = mapped g (λ (r : R). r)

  replies_through : (n : ℕ) (l : Listing B R) → map through (replies n l) ≡ replies n (throughout l)
  unfolding replies
  replies_through zero l = refl
  replies_through (suc n) (more b l) = ap (λ x. gave (g b) ∷ x) (replies_through n l)
  replies_through (suc n) ends = ap (λ x. nothing ∷ x) (replies_through n ends)
  replies_through (suc n) (fails r) = ap (λ x. refused r ∷ x) (replies_through n (fails r))

-- the records that replies begin with
abbrev given : {B R : Type 0} → List (Reply B R) → List B
given [] = []
given (gave b ∷ l) = b ∷ given l
given (nothing ∷ l) = []
given (refused r ∷ l) = []

given_through : {B C R : Type 0} (g : B → C) (l : List (Reply B R)) → map g (given l) ≡ given (map (through g) l)
given_through g [] = refl
given_through g (gave b ∷ l) = ap (λ x. g b ∷ x) (given_through g l)
given_through g (nothing ∷ l) = refl
given_through g (refused r ∷ l) = refl

behind_given : {B C R : Type 0} (g : B → C) (bs : List B) (l : List (Reply B R)) → drop (length bs) (map (through g) (gave_all bs l)) ≡ map (through g) l
behind_given g [] l = refl
behind_given g (b ∷ bs) l = behind_given g bs l

-- what an answer shows, and the state that it leaves: a call that finds no record leaves it as it was
abbrev pub shown : {S B R : Type 0} → Answer S B R → Reply B R
shown (gives b t) = gave b
shown none = nothing
shown (refuses r) = refused r

abbrev pub left : {S B R : Type 0} → S → Answer S B R → S
left s (gives b t) = t
left s none = s
left s (refuses r) = s

module _ {S B C R : Type 0} (g : B → C) (step : S → Answer S B R) where
  -- any number of calls from w on and from u on
  abbrev pub Alike : S → S → Type 0
  Alike w u = (n : ℕ) → map (through g) (calls step n w) ≡ map (through g) (calls step n u)

  -- so where the calls are those that two listings ask for, and these are the same with g of each record
  pub listings_alike : (w u : S) (l m : Listing B R) → ((n : ℕ) → calls step n w ≡ replies n l) → ((n : ℕ) → calls step n u ≡ replies n m)
      → throughout g l ≡ throughout g m → Alike w u
  listings_alike w u l m p q e n =
      ap (map (through g)) (p n) ∙ replies_through g n l ∙ ap (replies n) e ∙ sym (replies_through g n m) ∙ ap (map (through g)) (sym (q n))

  many_given_lem : (k : ℕ) (w : S) → (many step k w).records ≡ given (calls step k w)
  unfolding many calls
  many_given_lem zero w = refl
  many_given_lem (suc k) w = by (many_given_lem k) (step w)
    where
      by : ((t : S) → (many step k t).records ≡ given (calls step k t)) → (a : Answer S B R)
          → (then_many (many step k) w a).records ≡ given (replied step (calls step k) w a)
      by ih (gives b t) = ap (λ x. b ∷ x) (ih t)
      by ih none = refl
      by ih (refuses r) = refl

  replied_shown : (n : ℕ) (w : S) (a : Answer S B R) → replied step (calls step n) w a ≡ shown a ∷ calls step n (left w a)
  replied_shown n w (gives b t) = refl
  replied_shown n w none = refl
  replied_shown n w (refuses r) = refl

  calls_shown : (n : ℕ) (w : S) → calls step (suc n) w ≡ shown (step w) ∷ calls step n (left w (step w))
  unfolding calls
  calls_shown n w = replied_shown n w (step w)

  many_shown : (m : Many S B) (a : Answer S B R) → through (map g) (shown (as_many m a)) ≡ through (λ (c : C). map g m.records) (through g (shown a))
  many_shown m (gives b t) = refl
  many_shown m none = refl
  many_shown m (refuses r) = refl

  many_left : (k : ℕ) (w : S) → left w (many_of step k w) ≡ (many step k w).next
  many_left k w = by (step w) (many_none step k w)
    where
      by : (a : Answer S B R) → (NoRecord a → many step k w ≡ no_more w) → left w (as_many (many step k w) a) ≡ (many step k w).next
      by (gives b t) stays = refl
      by none stays = ap (λ m. m.next) (sym (stays tt))
      by (refuses r) stays = ap (λ m. m.next) (sym (stays tt))

  module _ (w u : S) (h : Alike w u) where
    each_call : (n : ℕ) → through g (shown (step w)) ∷ map (through g) (calls step n (left w (step w)))
        ≡ through g (shown (step u)) ∷ map (through g) (calls step n (left u (step u)))
    each_call n = ap (map (through g)) (sym (calls_shown n w)) ∙ h (suc n) ∙ ap (map (through g)) (calls_shown n u)

    -- one call
    pub one_alike : through g (shown (step w)) ≡ through g (shown (step u))
    one_alike = ap (λ l. get_or l 0 nothing) (each_call 0)

    pub one_left_alike : Alike (left w (step w)) (left u (step u))
    one_left_alike n = ap (drop 1) (each_call n)

  module _ (w u : S) (h : Alike w u) (k : ℕ) where
    many_alike : map g (many step k w).records ≡ map g (many step k u).records
    many_alike =
        ap (map g) (many_given_lem k w) ∙ given_through g (calls step k w) ∙ ap given (h k) ∙ sym (given_through g (calls step k u)) ∙ ap (map g) (sym (many_given_lem k u))

    same_length : length (many step k w).records ≡ length (many step k u).records
    same_length = sym (length-map (many step k w).records g) ∙ ap length many_alike ∙ length-map (many step k u).records g

    behind : (x : S) (n : ℕ) → map (through g) (calls step n (many step k x).next)
        ≡ drop (length (many step k x).records) (map (through g) (calls step (length (many step k x).records + n) x))
    behind x n =
        sym (behind_given g (many step k x).records (calls step n (many step k x).next))
        ∙ ap (λ l. drop (length (many step k x).records) (map (through g) l)) (sym (many_calls step k n x))

    behind_alike : Alike (many step k w).next (many step k u).next
    behind_alike n =
        behind w n ∙ ap (drop (length (many step k w).records)) (h (length (many step k w).records + n))
        ∙ ap (λ m. drop m (map (through g) (calls step (m + n) u))) same_length ∙ sym (behind u n)

    -- a call for many records
    pub call_alike : through (map g) (shown (many_of step k w)) ≡ through (map g) (shown (many_of step k u))
    call_alike =
        many_shown (many step k w) (step w) ∙ (λ i. through (λ (c : C). many_alike i) (one_alike w u h i)) ∙ sym (many_shown (many step k u) (step u))

    pub left_alike : Alike (left w (many_of step k w)) (left u (many_of step k u))
    left_alike n =
        ap (λ x. map (through g) (calls step n x)) (many_left k w) ∙ behind_alike n ∙ ap (λ x. map (through g) (calls step n x)) (sym (many_left k u))
