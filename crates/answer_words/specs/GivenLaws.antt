-- Laws of what an exported call answers: the two ways of `put`, and a loop that copies words one by one.
use Rattle.std.specs.Prelude.{ℕ, ◌+◌, ◌≤◌, ◌<◌, ◌≡◌, refl, take, drop, set, Bool, true, false, cond, ◌⊎◌, leb}
use Rattle.std.proofs.Common.{sym, ◌∙◌, subst, arith, le_antisymm, add-one, inl, inr, ⊎_elim, le-leb, leb-true}
use Rattle.std.proofs.Math.Path.{ap, subst⁻¹}
use Rattle.std.proofs.Math.Option.{Option, none, some}
use mathlib.Core.List.{List, [], ◌++◌, append_assoc}
use Rattle.std.proofs.Math.ListN.{length, get_or}
use Rattle.std.proofs.Math.Seq.{paste, paste-suc, take-length}
use Rattle.std.proofs.lemmas.Bool.{lt-leb}
use Rattle.walk.specs.Cases.{by_cases}
use Rattle.word.specs.Word.{put, store}
use Rattle.word.specs.WordLaws.{put_before, put_behind}
use Rattle.walk.specs.Listing.{Reply, gave, nothing, refused}
use Rattle.refusal.specs.Told.{Told}
use Rattle.answer_words.specs.Given.{Given, given, Gives, status_in, none_given, if_chosen, choice_given, refusal_size, one, reply_given, if_room, short_given}

module _ (o : List ℕ) (g : Given) where
  -- words that fit are put
  pub gives_put : g.at + length g.words ≤ length o → Gives o g g.status (put o g.at g.words)
  unfolding status_in store
  gives_put h = record { status = rw (le-leb (g.at + length g.words) (length o) h); words = rw (le-leb (g.at + length g.words) (length o) h) }

  -- others are not
  pub gives_short : length o < g.at + length g.words → Gives o g 3 o
  unfolding status_in store
  gives_short h = record { status = rw (lt-leb (g.at + length g.words) (length o) h); words = rw (lt-leb (g.at + length g.words) (length o) h) }

-- any status but 3 is the answer's own, and its words are put
pub gives_fits : {o left : List ℕ} {g : Given} {r : ℕ} → Gives o g r left → (r ≡ 3 → ⊥) → (r ≡ g.status) × (left ≡ put o g.at g.words)
unfolding status_in store
gives_fits {o} {left} {g} {r} h z = go (leb (g.at + length g.words) (length o)) h.status h.words
  where
    go : (t : Bool) → r ≡ cond t g.status 3 → left ≡ cond t (put o g.at g.words) o → (r ≡ g.status) × (left ≡ put o g.at g.words)
    go true s w = (s, w)
    go false s w = absurd (z s)

-- what is put changes nothing else: neither a word before its place nor one behind it
module _ {o left : List ℕ} {g : Given} {r : ℕ} (h : Gives o g r left) where
  pub keeps_before : (i : ℕ) → i < g.at → get_or left i 0 ≡ get_or o i 0
  unfolding store
  keeps_before i l =
      ap (λ (x : List ℕ). get_or x i 0) h.words
      ∙ by_cases (λ (x : List ℕ). get_or x i 0 ≡ get_or o i 0) (leb (g.at + length g.words) (length o))
      (λ t. put_before o g.at g.words i (omega (arith, leb-true)) l) (λ f. refl)

  pub keeps_behind : (i : ℕ) → get_or left (g.at + length g.words + i) 0 ≡ get_or o (g.at + length g.words + i) 0
  unfolding store
  keeps_behind i =
      ap (λ (x : List ℕ). get_or x (g.at + length g.words + i) 0) h.words
      ∙ by_cases (λ (x : List ℕ). get_or x (g.at + length g.words + i) 0 ≡ get_or o (g.at + length g.words + i) 0) (leb (g.at + length g.words) (length o))
      (λ t. put_behind o g.at g.words i (omega (arith, leb-true))) (λ f. refl)

-- one answer only: the result and the words left are determined
pub gives_one : {o l m : List ℕ} {g : Given} {r q : ℕ} → Gives o g r l → Gives o g q m → (r ≡ q) × (l ≡ m)
gives_one h k = (h.status ∙ sym k.status, h.words ∙ sym k.words)

-- no words leave all as it was
pub gives_nothing : (status : ℕ) (o : List ℕ) → Gives o (given status 0 []) status o
gives_nothing status o = gives_put o (given status 0 []) (omega arith)

pub gives_none : (o : List ℕ) → Gives o none_given 0 o
gives_none o = gives_nothing 0 o

-- what is given of an answer m is given of every n that it equals
pub gives_as : {A : Type 0} (f : A → Given) {m n : A} {o left : List ℕ} {r : ℕ} → m ≡ n → Gives o (f m) r left → Gives o (f n) r left
gives_as f {o = o} {left = left} {r = r} e h = subst (λ x. Gives o (f x) r left) e h

-- by a choice c of the caller's, which m names; and where m names none
module _ {C : Type 0} (f : C → Given) (m : Option C) {o : List ℕ} where
  pub gives_chosen : (c : C) → some c ≡ m → {left : List ℕ} {r : ℕ} → Gives o (f c) r left → Gives o (if_chosen choice_given f m) r left
  gives_chosen c e h = gives_as (if_chosen choice_given f) e h

  pub gives_unchosen : none ≡ m → Gives o (if_chosen choice_given f m) 5 o
  gives_unchosen e = gives_as (if_chosen choice_given f) e (gives_nothing 5 o)

pub gives_status : {o left ws : List ℕ} {at m n r : ℕ} → m ≡ n → Gives o (given m at ws) r left → Gives o (given n at ws) r left
gives_status {ws = ws} {at = at} e h = gives_as (λ s. given s at ws) e h

-- a loop that copies the words s to a place of o one by one: a turn of it, and its end
module _ (o : List ℕ) (at : ℕ) (s : List ℕ) (t : List ℕ) (i : ℕ) (e : t ≡ paste o at s i) where
  pub copied_turn : at + length s ≤ length o → i < length s → set t (at + i) (get_or s i 0) ≡ paste o at s (i + 1)
  copied_turn room l = rw (e, add-one) (paste-suc o at s i 0 (omega arith) l)

  pub copied_all : i ≤ length s → length s ≤ i → t ≡ put o at s
  copied_all l h =
      e ∙ ap (paste o at s) (le_antisymm l h)
      ∙ ap (λ (x : List ℕ). take at o ++ x ++ drop (at + length s) o) (take-length s)
      ∙ append_assoc (take at o) s (drop (at + length s) o)

  pub gives_copied : (status : ℕ) → at + length s ≤ length o → i ≤ length s → length s ≤ i → Gives o (given status at s) status t
  gives_copied status room l h = rw (copied_all l h) (gives_put o (given status at s) room)

  pub stores_copied : at + length s ≤ length o → i ≤ length s → length s ≤ i → t ≡ store o at s
  stores_copied room l h = (gives_copied 1 room l h).words

-- ---- a call that changes other lent memory m too, which it leaves as n

module _ {M : Type 0} (k : ℕ) (o : List ℕ) (g : Given) (m n : M) where
  -- with room it does what it does
  pub room_changes : {r : ℕ} {left : List ℕ} {x : M} → k ≤ length o → Gives o g r left → x ≡ n → Gives o (if_room k o g short_given) r left × (x ≡ if_room k o n m)
  room_changes h q e = rw (le-leb k (length o) h) (q, e)

  -- without, nothing
  pub room_keeps : length o < k → Gives o (if_room k o g short_given) 3 o × (m ≡ if_room k o n m)
  room_keeps h = rw (lt-leb k (length o) h) (gives_nothing 3 o, refl)

-- THE LAW: with any status but those of an answer such a call changes nothing, if with room it has an answer or leaves m
pub room_still : {M : Type 0} (Answered : ℕ → Type 0) (k : ℕ) (o : List ℕ) (g : Given) (m n : M) {r : ℕ} {left : List ℕ}
    → (k ≤ length o → Answered (status_in o g) ⊎ (n ≡ m)) → Gives o (if_room k o g short_given) r left → (Answered r → ⊥) → if_room k o n m ≡ m
room_still {M} Answered k o g m n {r} h q z = go (leb k (length o)) refl q.status
  where
    go : (t : Bool) → leb k (length o) ≡ t → r ≡ status_in o (cond t g short_given) → cond t n m ≡ m
    go true e s = ⊎_elim (λ a. absurd (z (subst⁻¹ Answered s a))) (λ b. b) (h (omega (arith, leb-true k (length o) e)))
    go false e s = refl

-- what it leaves of m where it has no answer: m
abbrev pub Still : {M : Type 0} → Reply ℕ Told → M → M → Type 0
Still (gave k) m n = Unit {0}
Still nothing m n = n ≡ m
Still (refused t) m n = n ≡ m

-- THE LAW for a call of one answer
pub room_careful : {M : Type 0} (o : List ℕ) (x : Reply ℕ Told) (m n : M) {r : ℕ} {left : List ℕ}
    → Still x m n → Gives o (if_room refusal_size o (reply_given one x) short_given) r left → (r ≡ 1 → ⊥) → if_room refusal_size o n m ≡ m
room_careful o x m n h g z = room_still (λ q. q ≡ 1) refusal_size o (reply_given one x) m n (by x h) g z
  where
    by : (y : Reply ℕ Told) → Still y m n → refusal_size ≤ length o → (status_in o (reply_given one y) ≡ 1) ⊎ (n ≡ m)
    by (gave k) q l = inl (sym (gives_put o (given 1 0 (one k)) (omega arith)).status)
    by nothing q l = inr q
    by (refused t) q l = inr q
