-- Laws of many turns of the line walk at once (`TurnsPut` of Turns): a turn that passes on, one that gives a record, and one after the other.
use Rattle.std.specs.Prelude.{ℕ, ◌+◌, ◌*◌, ◌/◌, ◌<◌, ◌≡◌, List, length}
use Rattle.std.proofs.Math.Path.{refl}
use Rattle.std.proofs.Common.{arith}
use Rattle.word.specs.Word.{store}
use Rattle.walk.specs.Listing.{item, pass}
use Rattle.kinds.specs.Kind.{Sort}
use Rattle.line_record.specs.declared.LineRecord.{LineRecord}
use Rattle.line_state_words.specs.LineWords.{record_size, record_words}
use Rattle.line_step.specs.declared.LineWalk.{LineWalk}
use Rattle.line_step.specs.Turn.{turn_of}
use Rattle.line_walk.proofs.NextLaws.{next_falls}
use Rattle.body_lines.specs.Turns.{UnderWay, TurnsPut}
use Rattle.body_lines.specs.FillLaws.{turns_pass, turns_record, record_falls}

module _ (rule : ℕ → Sort) (s v : List ℕ) (room : ℕ) where
  abbrev Put : ℕ → LineWalk → List ℕ → ℕ → LineWalk → List ℕ → Type 0
  Put = TurnsPut rule s v room

  module _ {n : ℕ} {w : LineWalk} {o : List ℕ} where
    pub turns_put_same : Put n w o n w o
    turns_put_same = record { under_way = λ w₀ o₀ e g. g; less = omega arith }

    module _ (l : n < room) where
      pub turns_put_pass : (t : LineWalk) → pass t ≡ turn_of rule s v w → Put n w o n t o
      turns_put_pass t q = record {
        under_way = λ w₀ o₀ e g. record { last = g.last; fills = turns_pass rule s v w₀ o₀ g.fills t q; full = λ f. absurd (omega arith) };
        less = omega (arith, next_falls rule s v w t q);
      }

      pub turns_put_record : (r : LineRecord) (t : LineWalk) (o' : List ℕ) → item r t ≡ turn_of rule s v w → o' ≡ store o (record_size * n) (record_words r)
          → Put n w o (n + 1) t o'
      turns_put_record r t o' q eo = record {
        under_way = λ w₀ o₀ e g. record { last = t; fills = turns_record rule s v w₀ o₀ g.fills r t o' q (omega arith) eo; full = λ f. refl };
        less = omega (arith, record_falls rule s v w r t q);
      }

    pub turns_put_on : {n' n'' : ℕ} {w' w'' : LineWalk} {o' o'' : List ℕ} → Put n w o n' w' o' → Put n' w' o' n'' w'' o'' → Put n w o n'' w'' o''
    turns_put_on f g =
        record { under_way = λ w₀ o₀ e h. g.under_way w₀ o₀ e (f.under_way w₀ o₀ e h); less = omega (arith, f.less, g.less) }

  -- where a call stands behind both
  pub turns_put_both : {n n' n'' : ℕ} {w w' w'' : LineWalk} {o o' o'' : List ℕ} (f : Put n w o n' w' o') (g : Put n' w' o' n'' w'' o'') (w₀ : LineWalk) (o₀ : List ℕ)
      (e : length o₀ / record_size ≡ room) (h : UnderWay rule s v w₀ o₀ n w o) → (turns_put_on f g).under_way w₀ o₀ e h ≡ g.under_way w₀ o₀ e (f.under_way w₀ o₀ e h)
  unfolding turns_put_on
  turns_put_both f g w₀ o₀ e h = refl

  -- the walk behind the last record is known where a turn of its own gave that
  pub turns_put_last : {n n' : ℕ} {w w' : LineWalk} {o o' : List ℕ} (f : Put n w o n' w' o') (l : n' < room) (r : LineRecord) (t : LineWalk) (o'' : List ℕ)
      (q : item r t ≡ turn_of rule s v w') (eo : o'' ≡ store o' (record_size * n') (record_words r)) (w₀ : LineWalk) (o₀ : List ℕ) (e : length o₀ / record_size ≡ room) (g : UnderWay rule s v w₀ o₀ n w o)
      → ((turns_put_on f (turns_put_record l r t o'' q eo)).under_way w₀ o₀ e g).last ≡ t
  unfolding turns_put_on turns_put_record
  turns_put_last f l r t o'' q eo w₀ o₀ e g = refl
