-- The same records once more: a call with room for just the records that were given gives these, the same state behind them, and leaves their words as
-- they are.
use Rattle.std.specs.Prelude.{ℕ, zero, suc, ◌+◌, ◌*◌, ◌/◌, ◌≤◌, ◌≡◌, refl, List, [], ◌∷◌, ◌++◌, length, take, drop}
use Rattle.std.proofs.Common.{sym, ap, ◌∙◌, append-nil, arith, length-append, drop_of_length-le, take_at}
use Rattle.word.specs.Word.{put}
use Rattle.walk.specs.Cases.{tests}
use Rattle.walk.specs.Listing.{Answer, gives, none, refuses}
use Rattle.walk.specs.Many.{as_many, many, many_of}
use Rattle.walk.specs.ManyLaws.{many_step, many_most}
use Rattle.refusal.specs.Told.{Told}
use Rattle.kinds.specs.Kind.{Sort}
use Rattle.line_record.specs.declared.LineRecord.{LineRecord}
use Rattle.line_state_words.specs.LineWords.{record_size, record_words}
use Rattle.line_state_words.specs.LineWordsLaws.{record_length}
use Rattle.line_step.specs.declared.LineWalk.{LineWalk}
use Rattle.line_walk.specs.Next.{next_of}
use Rattle.answer_words.specs.Fill.{words_of, counted, filled, fill_of}
use Rattle.answer_words.specs.FillLaws.{many_fewer}
use Rattle.body_lines.specs.Turns.{Filled}

-- ---- what an answer holds

abbrev count_of : Answer LineWalk ℕ Told → ℕ
count_of (gives n w) = n
count_of none = 0
count_of (refuses t) = 0

abbrev state_of : LineWalk → Answer LineWalk ℕ Told → LineWalk
state_of x (gives n w) = w
state_of x none = x
state_of x (refuses t) = x

pub same_count : {n m : ℕ} {w t : LineWalk} → ◌≡◌ {A = Answer LineWalk ℕ Told} (gives n w) (gives m t) → n ≡ m
same_count e = ap count_of e

pub same_state : {n m : ℕ} {w t : LineWalk} → ◌≡◌ {A = Answer LineWalk ℕ Told} (gives n w) (gives m t) → w ≡ t
same_state {w = w} e = ap (state_of w) e

abbrev records_of : Answer LineWalk (List LineRecord) Told → List LineRecord
records_of (gives rs w) = rs
records_of none = []
records_of (refuses t) = []

-- ---- the words of records

words_length : (rs : List LineRecord) → length (words_of record_words rs) ≡ record_size * length rs
words_length [] = refl
words_length (r ∷ rs) = length-append (record_words r) (words_of record_words rs) ∙ omega (arith, record_length r, words_length rs)

-- words that are put at the start stand there, and once more they change nothing
put_front : (o ws : List ℕ) (n : ℕ) → length ws ≡ n → take n (put o 0 ws) ≡ ws
put_front o ws n e = take_at ws (drop (0 + length ws) o) n e

put_itself : (ws : List ℕ) → put ws 0 ws ≡ ws
put_itself ws =
    let h : length ws ≤ 0 + length ws = omega arith in
    ap (λ l. ws ++ l) (drop_of_length-le ws h) ∙ append-nil ws

module _ (rule : ℕ → Sort) (s v : List ℕ) (w₀ : LineWalk) where
  abbrev next : LineWalk → Answer LineWalk LineRecord Told
  next = next_of rule s v

  -- ---- as many records are enough

  some : (k : ℕ) (a : Answer LineWalk LineRecord Told) → a ≡ next w₀ → 1 ≤ k → (rs : List LineRecord) (t : LineWalk) → gives rs t ≡ as_many (many next k w₀) a
      → (rs ≡ (many next k w₀).records) × (1 ≤ length rs)
  some zero a e h rs t q = absurd (omega arith)
  some (suc k) (gives r u) e h rs t q =
      let er : rs ≡ (many next (suc k) w₀).records = ap records_of q in
      let em = many_step next k w₀ (gives r u) e in
      (er, omega (arith, ap length er, ap (λ m. length m.records) em))
  some (suc k) none e h rs t q = let z : ◌≡◌ {A = ℕ} 0 1 = cc in absurd (omega arith)
  some (suc k) (refuses x) e h rs t q = let z : ◌≡◌ {A = ℕ} 0 1 = cc in absurd (omega arith)

  fill_many : (m : ℕ) → record_size ≤ m → fill_of record_size next m w₀ ≡ many_of next (m / record_size) w₀
  unfolding fill_of
  fill_many m h = simp tests

  -- ---- THE LAW
  pub lines_again : (o₁ o : List ℕ) (n : ℕ) (last : LineWalk) → record_size ≤ length o₁ → Filled rule s v w₀ o₁ (gives n last) o
      → (a : Answer LineWalk ℕ Told) (o'' : List ℕ) → Filled rule s v w₀ (take (record_size * n) o) a o'' → (a ≡ gives n last) × (o'' ≡ take (record_size * n) o)
  lines_again o₁ o n last h q a o'' z = on (fill_of record_size next (length o₁) w₀) refl
    where
      on : (f : Answer LineWalk (List LineRecord) Told) → f ≡ fill_of record_size next (length o₁) w₀ → (a ≡ gives n last) × (o'' ≡ take (record_size * n) o)
      on none e = let y : gives n last ≡ none = q.0 ∙ ap counted (sym e) in let x : ◌≡◌ {A = ℕ} 0 1 = cc in absurd (omega arith)
      on (refuses t) e = let y : gives n last ≡ refuses t = q.0 ∙ ap counted (sym e) in let x : ◌≡◌ {A = ℕ} 0 1 = cc in absurd (omega arith)
      on (gives rs t) e =
          let room = length o₁ / record_size in
          let ws = words_of record_words rs in
          let en : n ≡ length rs = same_count (q.0 ∙ ap counted (sym e)) in
          let k = some room (next w₀) refl (omega arith) rs t (e ∙ fill_many (length o₁) h) in
          let el : length ws ≡ record_size * n = words_length rs ∙ omega arith in
          let eo : take (record_size * n) o ≡ ws = ap (take (record_size * n)) (q.1 ∙ ap (filled record_words o₁) (sym e)) ∙ put_front o₁ ws (record_size * n) el in
          let em : length (take (record_size * n) o) ≡ record_size * n = ap length eo ∙ el in
          let ed : length (take (record_size * n) o) / record_size ≡ n = omega arith in
          let fewer : many next n w₀ ≡ many next room w₀ = many_fewer next room n w₀ (omega (arith, ap length k.0)) (omega (arith, ap length k.0, many_most next room w₀)) in
          let same : fill_of record_size next (length (take (record_size * n) o)) w₀ ≡ fill_of record_size next (length o₁) w₀
          = fill_many (length (take (record_size * n) o)) (omega (arith, k.1)) ∙ ap (λ (x : ℕ). many_of next x w₀) ed ∙ ap (λ m. as_many m (next w₀)) fewer ∙ sym (fill_many (length o₁) h) in (
            z.0 ∙ ap counted same ∙ sym q.0,
            z.1 ∙ ap (filled record_words (take (record_size * n) o)) (same ∙ sym e) ∙ ap (λ l. put l 0 ws) eo ∙ put_itself ws ∙ sym eo,
          )
