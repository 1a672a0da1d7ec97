-- Names for the proofs of the lines of a body: a held record as the words that it was made of, and what each loop keeps.
-- Definitions only; of public contracts that of `body_lines` alone cites them, and no answer of another call depends on it.
use Rattle.std.specs.Prelude.{false, cond, ℕ, zero, suc, ◌+◌, ◌*◌, ◌<◌, ◌≤◌, ◌≡◌, List, length, take, Option, None, Some}
use Rattle.walk.specs.Listing.{nothing}
use Rattle.word.specs.Word.{u32_at, store}
use Rattle.refusal.specs.Told.{longest}
use Rattle.kinds.specs.Kind.{Sort}
use Rattle.body.specs.Lines.{columned}
use Rattle.line_record.specs.Record.{column_if, record_of, closed_at, max_offset}
use Rattle.line_record.specs.Flags.{is_marker}
use Rattle.line_record.specs.declared.LineRecord.{LineRecord}
use Rattle.line_state_words.specs.LineWords.{record_size, record_words}
use Rattle.line_step.specs.Turn.{source_of, with_held, lines_on, next_block}
use Rattle.line_step.specs.declared.Rest.{Rest}
use Rattle.line_step.specs.declared.Place.{Place}
use Rattle.line_step.specs.declared.LineWalk.{LineWalk}
use Rattle.line_step.specs.declared.LineWalk.TheVariants.{Inside}
use Rattle.body_lines.specs.declared.LineHeld.{LineHeld}
use Rattle.body_lines.specs.declared.InBody.{InBody}
use Rattle.body_lines.specs.Turns.{TurnsPut}

-- the record of an entry whose sum and words these are
abbrev pub held_record : Place → ℕ → ℕ → ℕ → LineRecord
held_record p offset flags word = record_of (source_of p) offset flags (column_if (source_of p).columns word)

-- the lines of the place, and their columns, lie in its body, which starts no later than it ends, and that in the area s
pub record LinesFit (s : List ℕ) (p : Place) : Type 0 where
  pub short : length s ≤ longest
  pub end : p.end ≤ length s
  pub body : p.body ≤ p.end
  pub lines : p.line + 8 * p.lines ≤ p.end
  pub columns : p.column + 4 * p.lines ≤ p.end

-- from x to y over a line that gives a record, whose words are a and g, the words o being o' then
pub record LinePut (s : List ℕ) (p : Place) (x : LineHeld) (a g : ℕ) (o : List ℕ) (y : LineHeld) (o' : List ℕ) : Type 0 where
  pub n : y.n ≡ x.n + 1
  pub done : y.done ≡ x.done + 1
  pub offset : y.offset ≡ p.head.offset + a
  pub flags : y.flags ≡ g
  pub word : column_if (columned p.head.flags) y.word ≡ column_if (columned p.head.flags) (u32_at s (p.column + 4 * x.done))
  pub words : o' ≡ store o (record_size * x.n) (record_words (closed_at p.head.section (p.head.offset + a) (held_record p x.offset x.flags x.word)))

abbrev pub inside_at : Place → Rest → LineHeld → LineWalk
inside_at p t x = Inside (lines_on p x.done) (with_held t (Some (held_record p x.offset x.flags x.word)))

-- from x to y, the words o being o' then
pub record LinesPut (rule : ℕ → Sort) (s : List ℕ) (p : Place) (room : ℕ) (x : LineHeld) (o : List ℕ) (y : LineHeld) (o' : List ℕ) : Type 0 where
  pub most : y.n ≤ room
  pub on : x.done ≤ y.done
  pub inside : y.done ≤ p.lines
  pub size : length o' ≡ length o
  pub turns : (v : List ℕ) (t : Rest) → TurnsPut rule s v room x.n (inside_at p t x) o y.n (inside_at p t y) o'

-- how many records are put where `held` is closed by an end, and the words then
abbrev pub PutAs : Option LineRecord → ℕ → ℕ → ℕ → List ℕ → ℕ → List ℕ → Type 0
PutAs None section end n o m o' = (m ≡ n) × (o' ≡ o)
PutAs (Some q) section end n o m o' = (m ≡ n + 1) × (o' ≡ store o (record_size * n) (record_words (closed_at section end q)))

pub record HeldPut (held : Option LineRecord) (section end n : ℕ) (o : List ℕ) (m : ℕ) (o' : List ℕ) : Type 0 where
  pub words : PutAs held section end n o m o'

-- a and g are the words of the place's line, which gives a record
pub record FirstLine (s : List ℕ) (p : Place) (a g : ℕ) : Type 0 where
  pub offset : a ≡ u32_at s p.line
  pub flags : g ≡ u32_at s (p.line + 4)
  pub line : is_marker g ≡ false
  pub sum : p.head.offset + a ≤ max_offset

-- how many of the k lines at a are markers, one behind the other from the first on
unfoldable pub count_markers : List ℕ → ℕ → ℕ → ℕ
count_markers s a zero = 0
count_markers s a (suc k) = cond (is_marker (u32_at s (a + 4))) (1 + count_markers s (a + 8) k) 0

-- from a place of a body, with a held record or none and n records put, to another place of it
pub record BlockPut (rule : ℕ → Sort) (s : List ℕ) (room : ℕ) (p : Place) (held : Option LineRecord) (n : ℕ) (o : List ℕ) (r : InBody) (o' : List ℕ) : Type 0 where
  pub most : r.n ≤ room
  pub size : length o' ≡ length o
  pub fit : LinesFit s r.place
  pub head : r.place.head ≡ p.head
  pub end : r.place.end ≡ p.end
  pub next : r.place.next ≡ p.next
  pub turns : (v : List ℕ) (t : Rest) → TurnsPut rule s v room n (Inside p (with_held t held)) o r.n (Inside r.place (with_held t r.held)) o'

-- the body of a place is used up
pub record Used (s : List ℕ) (p : Place) : Type 0 where
  pub fit : LinesFit s p
  pub lines : p.lines ≡ 0
  pub over : nothing ≡ next_block (take p.end s) p

-- from a place of a body on, to its end if the walk is not stuck, and then there is room for another record
pub record BodyPut (rule : ℕ → Sort) (s : List ℕ) (room : ℕ) (p : Place) (held : Option LineRecord) (n : ℕ) (o : List ℕ) (r : InBody) (o' : List ℕ) : Type 0 where
  pub size : length o' ≡ length o
  pub head : r.place.head ≡ p.head
  pub end : r.place.end ≡ p.end
  pub turns : (v : List ℕ) (t : Rest) → TurnsPut rule s v room n (Inside p (with_held t held)) o r.n (Inside r.place (with_held t r.held)) o'
  pub used : r.stuck ≡ false → Used s r.place × (r.n < room)
