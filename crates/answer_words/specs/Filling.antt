-- Names for the proofs of a loop that puts records into lent words one by one, over any walk and any records of k words each, which f has: what the loop
-- keeps, and what it ends in. FillLaws has the laws. Source: docs/DECISIONS.md, 36.
-- Definitions only; contracts of inner calls alone cite them.
use Rattle.std.specs.Prelude.{ℕ, ◌+◌, ◌-◌, ◌*◌, ◌/◌, ◌≤◌, ◌≡◌, List, [], ◌∷◌, length}
use Rattle.word.specs.Word.{put}
use Rattle.walk.specs.Listing.{Answer}
use Rattle.walk.specs.Many.{Many, many}
use Rattle.refusal.specs.Told.{Told}
use Rattle.answer_words.specs.Fill.{counted, filled, fill_of}

-- the words o with records behind the first n
abbrev pub put_from : {B : Type 0} → ℕ → (B → List ℕ) → ℕ → List ℕ → List B → List ℕ
put_from k f n o [] = o
put_from k f n o (r ∷ rs) = put_from k f (n + 1) (put o (k * n) (f r)) rs

-- where a loop comes to: how many records are put, the state behind them, and the words then
pub record Done (S : Type 0) : Type 0 where
  pub count : ℕ
  pub next : S
  pub words : List ℕ

-- n records are put into o, and those of m come behind them
abbrev pub done : {S B : Type 0} → ℕ → (B → List ℕ) → ℕ → List ℕ → Many S B → Done S
done k f n o m = record { count = n + length m.records; next = m.next; words = put_from k f n o m.records }

-- S is the type of the walk's states and B that of the records; a call begins at the state w₀, with the words o₀
module _ {S B : Type 0} (k : ℕ) (f : B → List ℕ) (next : S → Answer S B Told) (w₀ : S) (o₀ : List ℕ) where
  -- what is told, and what the words are at the end
  abbrev pub Filled : Answer S ℕ Told → List ℕ → Type 0
  Filled a o = (a ≡ counted (fill_of k next (length o₀) w₀)) × (o ≡ filled f o₀ (fill_of k next (length o₀) w₀))

  -- the call has put n records, so that the words are o now; it stands at the state w, and `last` is the one behind the last record
  pub record Filling (n : ℕ) (last w : S) (o : List ℕ) : Type 0 where
    pub most : n ≤ length o₀ / k
    pub size : length o ≡ length o₀
    pub same : next w ≡ next last
    pub first : n ≡ 0 → last ≡ w₀
    pub rest : done k f n o (many next (length o₀ / k - n) last) ≡ done k f 0 o₀ (many next (length o₀ / k) w₀)
