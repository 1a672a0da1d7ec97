-- Laws of a line walk in words: reading its state, and putting it piece by piece.
use Rattle.std.specs.Prelude.{ℕ, ◌+◌, ◌≤◌, ◌≡◌, refl, List, [], ◌∷◌, ◌++◌, length, get_or, Option, None, Some}
use Rattle.std.proofs.Common.{sym, ◌∙◌, arith, length-append}
use Rattle.std.proofs.Math.Path.{ap}
use Rattle.std.proofs.Math.Option.{none, some}
use Rattle.std.proofs.Math.Option as option
use borrow.Author.Tests.{eq-eqb, ne_eqb}
use Rattle.line_record.specs.Told.{told_length, told_column, told_line_kind}
use Rattle.line_record.specs.declared.EndLines.{EndLines}
use Rattle.line_record.specs.declared.EndLines.TheVariants.{Crate, LowBits, Delta}
use Rattle.line_record.specs.declared.LineRecord.{LineRecord}
use Rattle.line_step.specs.declared.Rest.{Rest}
use Rattle.line_step.specs.declared.Place.{Place}
use Rattle.line_step.specs.declared.LineWalk.{LineWalk}
use Rattle.line_step.specs.declared.LineWalk.TheVariants as walk
use Rattle.word.specs.Word.{put, store}
use Rattle.word.specs.WordLaws.{put_length_lem, store_put}
use Rattle.answer_words.specs.Given.{given, Gives}
use Rattle.answer_words.specs.PiecesLaws.{two_pieces, gives_pieces}
use Rattle.line_state_words.specs.LineWords.{record_size, held_at, rest_size, how_at, state_size, how_named}
use Rattle.line_state_words.specs.LineWords.{option_words, record_words, held_words, rest_words, part_words, line_walk_words}
use Rattle.line_state_words.specs.LineWords.{record_in, held_in, rest_in, place_in, walk_by, walk_if, line_walk_in}

-- ---- read back

module _ (o : List ℕ) (n : ℕ) (e : n ≡ get_or o held_at 0) where
  pub held_nothing : n ≡ 0 → None ≡ held_in o
  unfolding held_in
  held_nothing z = rw (eq-eqb (get_or o held_at 0) 0 (sym e ∙ z))

  pub held_one : (n ≡ 0 → ⊥) → (r : LineRecord) → r ≡ record_in o → Some r ≡ held_in o
  unfolding held_in
  held_one z r q = ap Some q ∙ rw (ne_eqb (get_or o held_at 0) 0 (λ h. z (e ∙ h)))

module _ (how : EndLines) (o : List ℕ) (n : ℕ) (e : n ≡ get_or o 0 0) where
  pub walk_new : n ≡ 0 → walk.New how ≡ walk_by how o
  unfolding walk_by
  walk_new z = rw (eq-eqb (get_or o 0 0) 0 (sym e ∙ z))

  pub walk_between : (n ≡ 0 → ⊥) → n ≡ 1 → (t : Rest) → t ≡ rest_in o → walk.Between how t ≡ walk_by how o
  unfolding walk_by
  walk_between z u t q = ap (walk.Between how) q ∙ rw (ne_eqb (get_or o 0 0) 0 (λ h. z (e ∙ h)), eq-eqb (get_or o 0 0) 1 (sym e ∙ u))

  pub walk_inside : (n ≡ 0 → ⊥) → (n ≡ 1 → ⊥) → (p : Place) → p ≡ place_in how o → (t : Rest) → t ≡ rest_in o → walk.Inside p t ≡ walk_by how o
  unfolding walk_by
  walk_inside z u p r t q =
      (λ i. walk.Inside (r i) (q i)) ∙ rw (ne_eqb (get_or o 0 0) 0 (λ h. z (e ∙ h)), ne_eqb (get_or o 0 0) 1 (λ h. u (e ∙ h)))

-- the reading that a number names

module _ (n : ℕ) where
  pub named_crate : n ≡ 0 → some Crate ≡ how_named n
  unfolding how_named
  named_crate z = rw (eq-eqb n 0 z)

  pub named_low : (n ≡ 0 → ⊥) → n ≡ 1 → some LowBits ≡ how_named n
  unfolding how_named
  named_low z u = rw (ne_eqb n 0 z, eq-eqb n 1 u)

  pub named_delta : (n ≡ 0 → ⊥) → (n ≡ 1 → ⊥) → n ≡ 2 → some Delta ≡ how_named n
  unfolding how_named
  named_delta z u d = rw (ne_eqb n 0 z, ne_eqb n 1 u, eq-eqb n 2 d)

  pub named_none : (n ≡ 0 → ⊥) → (n ≡ 1 → ⊥) → (n ≡ 2 → ⊥) → none ≡ how_named n
  unfolding how_named
  named_none z u d = rw (ne_eqb n 0 z, ne_eqb n 1 u, ne_eqb n 2 d)

-- n is the word for it, and x what it names
pub walk_named : (o : List ℕ) (n : ℕ) → n ≡ get_or o how_at 0 → (x : option.Option EndLines) → x ≡ how_named n → walk_if o x ≡ line_walk_in o
walk_named o n e x q = ap (walk_if o) (q ∙ ap how_named e)

-- ---- how many words

two_length : (l : Option ℕ) → length (option_words (told_length l)) ≡ 2
two_length None = refl
two_length (Some n) = refl

two_column : (l : Option ℕ) → length (option_words (told_column l)) ≡ 2
two_column None = refl
two_column (Some n) = refl

pub record_length : (r : LineRecord) → length (record_words r) ≡ record_size
record_length r =
    simp length-append (omega (arith, two_length r.length, two_column r.column_start, two_column r.column_end))

held_length : (h : Option LineRecord) → length (held_words h) ≡ 1 + record_size
held_length None = refl
held_length (Some r) = omega (arith, record_length r)

pub rest_length : (tag : ℕ) (t : Rest) → length (tag ∷ rest_words t) ≡ rest_size
rest_length tag t = omega (arith, held_length t.held)

pub part_length : (w : LineWalk) → length (part_words w) ≡ how_at
part_length (walk.New how) = refl
part_length (walk.Between how t) = simp length-append (omega (arith, held_length t.held))
part_length (walk.Inside p t) = simp length-append (omega (arith, held_length t.held))

pub walk_length : (w : LineWalk) → length (line_walk_words w) ≡ state_size
walk_length w = simp length-append (omega (arith, part_length w))

-- ---- put

-- the words of a record from those of its parts
pub record_words_lem : (r : LineRecord) {l₀ l₁ s₀ s₁ e₀ e₁ k : ℕ} → option_words (told_length r.length) ≡ l₀ ∷ l₁ ∷ [] → option_words (told_column r.column_start) ≡ s₀ ∷ s₁ ∷ []
    → option_words (told_column r.column_end) ≡ e₀ ∷ e₁ ∷ [] → told_line_kind r.kind ≡ k
    → record_words r ≡ r.section ∷ r.offset ∷ l₀ ∷ l₁ ∷ r.file ∷ r.start_line ∷ r.end_line ∷ s₀ ∷ s₁ ∷ e₀ ∷ e₁ ∷ k ∷ r.body ∷ []
record_words_lem r l s e k =
    λ i. r.section ∷ r.offset ∷ (l i ++ (r.file ∷ r.start_line ∷ r.end_line ∷ (s i ++ (e i ++ (k i ∷ r.body ∷ [])))))

-- a record that fits
pub record_is : (o left : List ℕ) (at : ℕ) (r : LineRecord) → left ≡ store o at (record_words r) → at + record_size ≤ length o
    → left ≡ put o at (record_words r)
record_is o left at r e h = e ∙ sym (store_put o at (record_words r) record_size (record_length r) h)

-- p with the state put, and q with the words ws behind it
pub behind_walk : (o p q : List ℕ) (w : LineWalk) (ws : List ℕ) → state_size + length ws ≤ length o → p ≡ put o 0 (line_walk_words w) → q ≡ store p state_size ws
    → Gives o (given 1 0 (line_walk_words w ++ ws)) 1 q
behind_walk o p q w ws h ep eq =
    let l = walk_length w in
    let fits : 0 + length (line_walk_words w) ≤ length o = omega arith in
    let lp : length p ≡ length o = ap length ep ∙ put_length_lem o 0 (line_walk_words w) fits in
    let e = two_pieces o p q 0 state_size (line_walk_words w) ws ep (eq ∙ sym (store_put p state_size ws (length ws) refl (omega arith))) (omega arith) fits in
    gives_pieces o q (line_walk_words w ++ ws) e (omega (arith, length-append (line_walk_words w) ws))
