-- A state of the line walk in words is read back as that state, whatever stands behind its words, if its numbers fit the fields that hold them: a section
-- and flags 16 bits, every other number of a record, a header or a file 32 bits. Those of each state that the code has do, by their types. Which words are a new
-- walk, and which are none.
use Rattle.std.specs.Prelude.{ℕ, ◌+◌, ◌<◌, ◌≡◌, refl, List, [], ◌∷◌, ◌++◌, get_or, Option, None, Some}
use Rattle.std.proofs.Common.{sym, ap, ◌∙◌, append_assoc, arith, get_or-append-add}
use Rattle.std.proofs.Math.Option.{none, some}
use Rattle.line_record.specs.Told.{told_length, told_column, told_line_kind}
use Rattle.line_record.specs.declared.EndLines.{EndLines}
use Rattle.line_record.specs.declared.EndLines.TheVariants as ends
use Rattle.line_record.specs.declared.LineKind.{LineKind}
use Rattle.line_record.specs.declared.LineKind.TheVariants as kind
use Rattle.line_record.specs.declared.LineRecord.{LineRecord}
use Rattle.line_step.specs.declared.Rest.{Rest}
use Rattle.line_step.specs.declared.Place.{Place}
use Rattle.line_step.specs.declared.LineWalk.{LineWalk}
use Rattle.line_step.specs.declared.LineWalk.TheVariants as walk
use Rattle.line_state_words.specs.LineWords.{rest_size, how_at, how_word, how_named, option_words, record_words, u16_of, u32_of, length_of, column_of, kind_in, record_in, held_in, rest_in, place_in, walk_by, walk_if, line_walk_in, held_words, rest_words, place_words, no_place, part_words, walk_how, line_walk_words}
use Rattle.line_state_words.specs.LineWordsLaws.{walk_new, named_none, record_words_lem, rest_length, part_length}

-- ---- what fits

abbrev pub Fits16 : ℕ → Type 0
Fits16 n = n < 0x1_0000

abbrev pub Fits32 : ℕ → Type 0
Fits32 n = n < 0x1_0000_0000

abbrev pub FitsLength : Option ℕ → Type 0
FitsLength None = Unit {0}
FitsLength (Some n) = Fits32 n

abbrev pub FitsColumn : Option ℕ → Type 0
FitsColumn None = Unit {0}
FitsColumn (Some n) = Fits32 n

pub record FitsRecord (r : LineRecord) : Type 0 where
  pub section : Fits16 r.section
  pub offset : Fits32 r.offset
  pub length : FitsLength r.length
  pub file : Fits32 r.file
  pub start_line_lem : Fits32 r.start_line
  pub end_line_lem : Fits32 r.end_line
  pub column_start_lem : FitsColumn r.column_start
  pub column_end_lem : FitsColumn r.column_end
  pub body : Fits32 r.body

abbrev pub FitsHeld : Option LineRecord → Type 0
FitsHeld None = Unit {0}
FitsHeld (Some r) = FitsRecord r

pub record FitsPlace (p : Place) : Type 0 where
  pub offset : Fits32 p.head.offset
  pub section : Fits16 p.head.section
  pub flags : Fits16 p.head.flags
  pub code : Fits32 p.head.code
  pub file : Fits32 p.file

abbrev pub FitsWalk : LineWalk → Type 0
FitsWalk (walk.New how) = Unit {0}
FitsWalk (walk.Between how t) = FitsHeld t.held
FitsWalk (walk.Inside p t) = FitsPlace p × FitsHeld t.held

-- ---- a record

u16_same : (n : ℕ) → Fits16 n → u16_of n ≡ n
u16_same n h = omega arith

u32_same : (n : ℕ) → Fits32 n → u32_of n ≡ n
u32_same n h = omega arith

record TwoWords {A : Type 0} (words : A → List ℕ) (back : ℕ → ℕ → A) (x : A) : Type 0 where
  first : ℕ
  second : ℕ
  is : words x ≡ first ∷ second ∷ []
  read : back first second ≡ x

two_length : (l : Option ℕ) → FitsLength l → TwoWords (λ l. option_words (told_length l)) length_of l
two_length None h = record { first = 0; second = 0; is = refl; read = refl }
two_length (Some n) h = record { first = 1; second = n; is = refl; read = ap Some (u32_same n h) }

two_column : (c : Option ℕ) → FitsColumn c → TwoWords (λ c. option_words (told_column c)) column_of c
two_column None h = record { first = 0; second = 0; is = refl; read = refl }
two_column (Some n) h = record { first = 1; second = n; is = refl; read = ap Some (u32_same n h) }

kind_same : (k : LineKind) → kind_in (told_line_kind k) ≡ k
kind_same kind.Expression = refl
kind_same kind.Statement = refl

-- four words in front of the tag of what is held: the record behind it
record_read : (a b c d : ℕ) (r : LineRecord) (ws : List ℕ) → FitsRecord r → record_in (a ∷ b ∷ c ∷ d ∷ 1 ∷ (record_words r ++ ws)) ≡ r
record_read a b c d r ws f =
    let L = two_length r.length f.length in
    let S = two_column r.column_start f.column_start_lem in
    let E = two_column r.column_end f.column_end_lem in
    let e = record_words_lem r L.is S.is E.is refl in
    let e₁ = u16_same r.section f.section in
    let e₂ = u32_same r.offset f.offset in
    let e₃ = L.read in
    let e₄ = u32_same r.file f.file in
    let e₅ = u32_same r.start_line f.start_line_lem in
    let e₆ = u32_same r.end_line f.end_line_lem in
    let e₇ = S.read in
    let e₈ = E.read in
    let e₉ = kind_same r.kind in
    let e₁₀ = u32_same r.body f.body in
    ap (λ (x : List ℕ). record_in (a ∷ b ∷ c ∷ d ∷ 1 ∷ (x ++ ws))) e
    ∙ (λ i. record {
      section = e₁ i;
      offset = e₂ i;
      length = e₃ i;
      file = e₄ i;
      start_line = e₅ i;
      end_line = e₆ i;
      column_start = e₇ i;
      column_end = e₈ i;
      kind = e₉ i;
      body = e₁₀ i;
    })

held_read : (a b c d : ℕ) (h : Option LineRecord) (ws : List ℕ) → FitsHeld h → held_in (a ∷ b ∷ c ∷ d ∷ (held_words h ++ ws)) ≡ h
unfolding held_in
held_read a b c d None ws f = refl
held_read a b c d (Some r) ws f = ap Some (record_read a b c d r ws f)

-- ---- a state

rest_read : (tag : ℕ) (t : Rest) (ws : List ℕ) → FitsHeld t.held → rest_in (tag ∷ (rest_words t ++ ws)) ≡ t
rest_read tag t ws f =
    let e = held_read tag t.slot t.left t.scan t.held ws f in
    λ i. record { slot = t.slot; left = t.left; scan = t.scan; held = e i }

-- a word behind those of the rest
behind_rest : (tag : ℕ) (t : Rest) (ys : List ℕ) (n i : ℕ) → n ≡ rest_size + i → get_or (tag ∷ (rest_words t ++ ys)) n 0 ≡ get_or ys i 0
behind_rest tag t ys n i e =
    ap (λ (k : ℕ). get_or (tag ∷ (rest_words t ++ ys)) k 0) (e ∙ ap (λ (k : ℕ). k + i) (sym (rest_length tag t)))
    ∙ get_or-append-add (tag ∷ rest_words t) ys i 0

place_read : (tag : ℕ) (t : Rest) (p : Place) (ws : List ℕ) → FitsPlace p → place_in p.how (tag ∷ (rest_words t ++ (place_words p ++ ws))) ≡ p
place_read tag t p ws f =
    let at : (n i : ℕ) → n ≡ rest_size + i → get_or (tag ∷ (rest_words t ++ (place_words p ++ ws))) n 0 ≡ get_or (place_words p ++ ws) i 0
    = behind_rest tag t (place_words p ++ ws) in
    let e₁ = ap u32_of (at 18 0 refl) ∙ u32_same p.head.offset f.offset in
    let e₂ = ap u16_of (at 19 1 refl) ∙ u16_same p.head.section f.section in
    let e₃ = ap u16_of (at 20 2 refl) ∙ u16_same p.head.flags f.flags in
    let e₄ = ap u32_of (at 21 3 refl) ∙ u32_same p.head.code f.code in
    let e₅ = at 22 4 refl in
    let e₆ = at 23 5 refl in
    let e₇ = at 24 6 refl in
    let e₈ = ap u32_of (at 25 7 refl) ∙ u32_same p.file f.file in
    let e₉ = at 26 8 refl in
    let e₁₀ = at 27 9 refl in
    let e₁₁ = at 28 10 refl in
    λ i. record {
      head = record { offset = e₁ i; section = e₂ i; flags = e₃ i; code = e₄ i };
      how = p.how;
      body = e₅ i;
      end = e₆ i;
      next = e₇ i;
      file = e₈ i;
      lines = e₉ i;
      line = e₁₀ i;
      column = e₁₁ i;
    }

-- all but the reading
parts_read : (w : LineWalk) (ws : List ℕ) → FitsWalk w → walk_by (walk_how w) (part_words w ++ ws) ≡ w
unfolding walk_by
parts_read (walk.New how) ws f = refl
parts_read (walk.Between how t) ws f =
    ap (λ (x : List ℕ). walk.Between how (rest_in (1 ∷ x))) (append_assoc (rest_words t) no_place ws) ∙ ap (walk.Between how) (rest_read 1 t (no_place ++ ws) f)
parts_read (walk.Inside p t) ws f =
    let a = append_assoc (rest_words t) (place_words p) ws in
    let e = place_read 2 t p ws f.0 in
    let g = rest_read 2 t (place_words p ++ ws) f.1 in
    ap (λ (x : List ℕ). walk.Inside (place_in p.how (2 ∷ x)) (rest_in (2 ∷ x))) a ∙ (λ i. walk.Inside (e i) (g i))

-- the reading
how_same : (how : EndLines) → how_named (how_word how) ≡ some how
unfolding how_named
how_same ends.Crate = refl
how_same ends.LowBits = refl
how_same ends.Delta = refl

-- its word is the one behind the parts
how_behind : (w : LineWalk) (ws : List ℕ) → get_or (part_words w ++ (how_word (walk_how w) ∷ ws)) how_at 0 ≡ how_word (walk_how w)
how_behind w ws =
    ap (λ (k : ℕ). get_or (part_words w ++ (how_word (walk_how w) ∷ ws)) k 0) (sym (omega (arith, part_length w)))
    ∙ get_or-append-add (part_words w) (how_word (walk_how w) ∷ ws) 0 0

-- A NEW WALK: words that begin with 0, and whose word for it names a reading; so zeros are a new walk by the crate's
pub walk_begins : (how : EndLines) (o : List ℕ) → get_or o 0 0 ≡ 0 → get_or o how_at 0 ≡ how_word how → line_walk_in o ≡ some (walk.New how)
walk_begins how o z e =
    ap (λ (n : ℕ). walk_if o (how_named n)) e ∙ ap (walk_if o) (how_same how) ∙ ap some (sym (walk_new how o (get_or o 0 0) refl z))

-- NO WALK: words whose word for it is that of no reading; so there is no default
pub walk_none : (o : List ℕ) → ((how : EndLines) → get_or o how_at 0 ≡ how_word how → ⊥) → line_walk_in o ≡ none
walk_none o f = ap (walk_if o) (sym (named_none (get_or o how_at 0) (f ends.Crate) (f ends.LowBits) (f ends.Delta)))

-- THE THEOREM
pub state_read : (w : LineWalk) (ws : List ℕ) → FitsWalk w → line_walk_in (line_walk_words w ++ ws) ≡ some w
state_read w ws f =
    let h = how_word (walk_how w) in
    ap line_walk_in (append_assoc (part_words w) (h ∷ []) ws)
    ∙ ap (λ (n : ℕ). walk_if (part_words w ++ (h ∷ ws)) (how_named n)) (how_behind w ws)
    ∙ ap (walk_if (part_words w ++ (h ∷ ws))) (how_same (walk_how w))
    ∙ ap some (parts_read w (h ∷ ws) f)
