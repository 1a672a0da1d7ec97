-- Laws of words put piece by piece, and into a part that is lent: they are the same as all of them put at once.
use Rattle.std.specs.Prelude.{ℕ, ◌+◌, ◌-◌, ◌≤◌, ◌≡◌, List, [], ◌++◌, length, take, drop}
use Rattle.std.proofs.Common.{sym, ap, ◌∙◌, append_assoc, append-nil, arith, add_assoc, add-zero, length-append, take-append-drop, drop_of_length-le, length-take-le, take_at, drop-drop, le-leb}
use Rattle.std.proofs.Math.Seq.{drop-append-add}
use borrow.Rule.Slice.PartMut.{put_mid, Post-is, mid_len}
use Rattle.word.specs.Word.{put, store}
use Rattle.word.specs.WordLaws.{store_put}
use Rattle.answer_words.specs.Given.{given, Gives}
use Rattle.answer_words.specs.GivenLaws.{gives_put}

-- no words
pub put_nothing : (o : List ℕ) (a : ℕ) → o ≡ put o a []
put_nothing o a = sym (ap (λ (k : ℕ). take a o ++ drop k o) (add-zero a) ∙ take-append-drop a o)

-- words put into a part of their own length, as it is given back
pub put_part : (o y ws : List ℕ) (at k : ℕ) → length ws ≡ k → at + k ≤ length o → y ≡ store (take (at + k - at) (drop at o)) 0 ws
    → put_mid at (at + k - at) o y ≡ store o at ws
put_part o y ws at k e h q =
    let mid = take (at + k - at) (drop at o) in
    let n : at + k - at ≡ k = omega arith in
    let size : length mid ≡ k = mid_len at (at + k) o h ∙ n in
    let all : y ≡ ws
    = q ∙ sym (store_put mid 0 ws k e (omega arith)) ∙ ap (λ (l : List ℕ). ws ++ l) (drop_of_length-le mid {i = 0 + length ws} (omega arith)) ∙ append-nil ws in
    (λ i. take at o ++ (all i ++ drop (at + k - at) (drop at o)))
    ∙ ap (λ (l : List ℕ). take at o ++ (ws ++ l)) (Post-is at (at + k) o (omega arith) ∙ ap (λ (j : ℕ). drop (at + j) o) (sym e))
    ∙ store_put o at ws k e h

-- a put that fits
pub gives_is : {o left : List ℕ} {r : ℕ} (status at : ℕ) (ws : List ℕ) → Gives o (given status at ws) r left → at + length ws ≤ length o → left ≡ put o at ws
unfolding store
gives_is {o} status at ws h l = h.words ∙ rw (le-leb (at + length ws) (length o) l)

-- a piece behind a piece
module _ (o : List ℕ) (at : ℕ) (a b : List ℕ) (fits : at + length a ≤ length o) where
  front : length (take at o ++ a) ≡ at + length a
  front = length-append (take at o) a ∙ ap (λ (k : ℕ). k + length a) (length-take-le at o (omega arith))

  shape : put o at a ≡ (take at o ++ a) ++ drop (at + length a) o
  shape = sym (append_assoc (take at o) a (drop (at + length a) o))

  taken : take (at + length a) (put o at a) ≡ take at o ++ a
  taken = ap (take (at + length a)) shape ∙ take_at (take at o ++ a) (drop (at + length a) o) (at + length a) front

  dropped : (n : ℕ) → drop (at + length a + n) (put o at a) ≡ drop (at + length a + n) o
  dropped n =
      ap (drop (at + length a + n)) shape
      ∙ ap (λ (k : ℕ). drop (k + n) ((take at o ++ a) ++ drop (at + length a) o)) (sym front)
      ∙ drop-append-add (take at o ++ a) (drop (at + length a) o) n
      ∙ drop-drop n (at + length a) o

  pub put_join : put (put o at a) (at + length a) b ≡ put o at (a ++ b)
  put_join =
      ap (λ (l : List ℕ). l ++ (b ++ drop (at + length a + length b) (put o at a))) taken
      ∙ ap (λ (l : List ℕ). (take at o ++ a) ++ (b ++ l)) (dropped (length b))
      ∙ append_assoc (take at o) a (b ++ drop (at + length a + length b) o)
      ∙ ap (λ (l : List ℕ). take at o ++ l) (sym (append_assoc a b (drop (at + length a + length b) o)))
      ∙ ap (λ (k : ℕ). take at o ++ ((a ++ b) ++ drop k o)) (add_assoc at (length a) (length b) ∙ ap (λ (k : ℕ). at + k) (sym (length-append a b)))

pub two_pieces : (o o' o'' : List ℕ) (at n : ℕ) (a b : List ℕ) → o' ≡ put o at a → o'' ≡ put o' n b → n ≡ at + length a → at + length a ≤ length o → o'' ≡ put o at (a ++ b)
two_pieces o o' o'' at n a b e q m fits =
    q ∙ (λ i. put (e i) (m i) b) ∙ put_join o at a b fits

-- all pieces together are the answer
pub gives_pieces : (o left ws : List ℕ) → left ≡ put o 0 ws → length ws ≤ length o → Gives o (given 1 0 ws) 1 left
gives_pieces o left ws e fits = rw e (gives_put o (given 1 0 ws) (omega arith))
