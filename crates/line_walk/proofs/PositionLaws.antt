-- The position in a record, of the whole walk, over any list: each record has the start of the body that it was read from. The records are the lines of the
-- bodies, body after body, and each line of a body has its start. That is the body of a line subsection of the area, whose header stands before it. No two
-- bodies of an area start at the same place, so records of two subsections are told apart by it, also where their keys are equal.
use Rattle.std.specs.Prelude.{ℕ, ◌+◌, ◌<◌, ◌≤◌, ◌≡◌, length, drop, ltb}
use Rattle.std.proofs.Math.Path.{refl, sym, ap, subst⁻¹}
use Rattle.std.proofs.Common.{◌∙◌, subst, arith}
use mathlib.Core.List.{List, [], ◌∷◌}
use Rattle.walk.specs.Cases.{by_cases, both_ways}
use Rattle.walk.specs.Listing.{Listing, more, ends, fails, and_then, spread, Reply, gave, nothing, refused}
use Rattle.walk.specs.ListingLaws.{Every, Has, every_map, every_both, every_then, every_has, has_every}
use Rattle.walk.specs.PickLaws.{Gives}
use Rattle.refusal.specs.Told.{Told, longest}
use Rattle.kinds.specs.Kind.{Sort}
use Rattle.body.specs.Lines.{LineHead, line_head_size, line_head, columned, Block, blocks}
use Rattle.line_record.specs.declared.EndLines.{EndLines}
use Rattle.line_record.specs.declared.LineRecord.{LineRecord}
use Rattle.line_record.specs.declared.LineSource.{LineSource}
use Rattle.line_record.specs.Flags.{is_marker}
use Rattle.line_record.specs.Record.{max_offset, no_position, head_source, entry_of, closed_at}
use Rattle.line_record.proofs.RecordLaws.{lengthless, close_lengthless}
use Rattle.lines.specs.Lines.{Body}
use Rattle.lines.specs.Slots.{list_of}
use Rattle.lines.specs.SlotsLaws.{body_by, LineSubAt, IsLineBody, list_line_bodies}
use Rattle.slot_key.specs.SortLaws.{Pairs, pairs_map}
use Rattle.order.specs.Order.{in_order}
use Rattle.order.specs.BuiltLaws.{StartsApart, bodies_apart}
use Rattle.line_walk.specs.Meaning.{line, done, Events, entry_then, behind, lines_then, blocks_then, body_then, events_of, Records, settle_one, settle, records_of}
use Rattle.line_walk.proofs.EveryLaws.{OnLine, body_every}

-- ---- the records that events settle are their lines, in order

-- the lines of events
unfoldable pub event_lines : Events → Records
event_lines (more (line r) l) = more r (event_lines l)
event_lines (more (done h) l) = event_lines l
event_lines ends = ends
event_lines (fails t) = fails t

-- record for record, their lengths put aside: all of them, or where l is refused the first so many
abbrev pub Begins : Records → Records → Type 0
Begins (more r l) (more q m) = (lengthless r ≡ lengthless q) × Begins l m
Begins (more r l) ends = ⊥
Begins (more r l) (fails t) = ⊥
Begins ends m = m ≡ ends
Begins (fails t) m = Unit {0}

settle_one_lines : (o q : LineRecord) → lengthless o ≡ lengthless q → (l : Events) → Begins (settle_one o l) (more q (event_lines l))
unfolding settle_one event_lines
settle_one_lines o q e (more (line r) l) = (close_lengthless r.section r.offset o ∙ e, settle_one_lines r r refl l)
settle_one_lines o q e (more (done h) l) =
    let x = h.offset + h.code in
    by_cases (λ (k : Records). Begins k (more q (event_lines l))) (ltb max_offset x) (λ f. tt)
    (λ f. settle_one_lines (closed_at h.section x o) q (close_lengthless h.section x o ∙ e) l)
settle_one_lines o q e ends = (e, refl)
settle_one_lines o q e (fails t) = tt

settle_lines : (l : Events) → Begins (settle l) (event_lines l)
unfolding settle event_lines
settle_lines (more (line r) l) = settle_one_lines r r refl l
settle_lines (more (done h) l) = settle_lines l
settle_lines ends = refl
settle_lines (fails t) = tt

-- ---- the events of a body are its own, and then those behind it

module _ (m : Events) where
  entry_then_lem : (e : Reply LineRecord Told) (l : Events) → entry_then e (and_then l m) ≡ and_then (entry_then e l) m
  entry_then_lem (gave r) l = refl
  entry_then_lem nothing l = refl
  entry_then_lem (refused t) l = refl

  lines_then_lem : (k : LineSource) (ws cs : List ℕ) (l : Events) → lines_then k ws cs (and_then l m) ≡ and_then (lines_then k ws cs l) m
  unfolding lines_then
  lines_then_lem k (offset ∷ flags ∷ ws) cs l =
      ap (entry_then (entry_of k offset flags cs)) (lines_then_lem k ws (behind cs) l) ∙ entry_then_lem (entry_of k offset flags cs) (lines_then k ws (behind cs) l)
  lines_then_lem k (offset ∷ []) cs l = refl
  lines_then_lem k [] cs l = refl

  blocks_then_lem : (how : EndLines) (a : ℕ) (h : LineHead) (k : Listing Block Told) → blocks_then how a h k m ≡ and_then (blocks_then how a h k ends) m
  unfolding blocks_then
  blocks_then_lem how a h (more b k) =
      ap (lines_then (head_source how a h b.file) b.lines b.columns) (blocks_then_lem how a h k)
      ∙ lines_then_lem (head_source how a h b.file) b.lines b.columns (blocks_then how a h k ends)
  blocks_then_lem how a h ends = refl
  blocks_then_lem how a h (fails t) = refl

  body_then_lem : (how : EndLines) (b : Body) → body_then how b m ≡ and_then (body_then how b ends) m
  unfolding body_then
  body_then_lem how b =
      let h = line_head b.bytes in
      let k = blocks (columned h.flags) (drop line_head_size b.bytes) in
      sym (both_ways (λ (l : Events). and_then l m) (ltb (length b.bytes) line_head_size) (λ e. refl) (λ e. sym (blocks_then_lem how b.start h k)))

  lines_behind : (l : Events) → event_lines (and_then l m) ≡ and_then (event_lines l) (event_lines m)
  unfolding event_lines
  lines_behind (more (line r) l) = ap (more r) (lines_behind l)
  lines_behind (more (done h) l) = lines_behind l
  lines_behind ends = refl
  lines_behind (fails t) = refl

-- ---- the first theorem: the records are the lines of the bodies, body after body, and each line of a body has the body's start

-- the lines of one body
abbrev pub body_lines : EndLines → Body → Records
body_lines how b = event_lines (body_then how b ends)

lines_spread : (how : EndLines) (l : Listing Body Told) → event_lines (events_of how l) ≡ spread (body_lines how) l
unfolding event_lines events_of
lines_spread how (more b l) =
    ap event_lines (body_then_lem (events_of how l) how b) ∙ lines_behind (events_of how l) (body_then how b ends)
    ∙ ap (and_then (body_lines how b)) (lines_spread how l)
lines_spread how ends = refl
lines_spread how (fails t) = refl

pub records_lines : (how : EndLines) (l : Listing Body Told) → Begins (settle (events_of how l)) (spread (body_lines how) l)
records_lines how l = subst (Begins (settle (events_of how l))) (lines_spread how l) (settle_lines (events_of how l))

-- a line of a body has its start, and no length yet
abbrev Begun : ℕ → LineRecord → Type 0
Begun a r = (r.body ≡ a) × (lengthless r ≡ r)

entry_begun : (k : LineSource) (offset flags : ℕ) (cs : List ℕ) → Gives (Begun k.body) (entry_of k offset flags cs)
unfolding entry_of
entry_begun k offset flags cs =
    by_cases (Gives (Begun k.body)) (is_marker flags) (λ e. tt)
    (λ e. by_cases (Gives (Begun k.body)) (ltb max_offset (k.base + offset)) (λ g. tt) (λ g. (refl, refl)))

body_begun : (how : EndLines) (b : Body) → Every (OnLine (Begun b.start)) (body_then how b ends)
body_begun how b =
    body_every how b.start (Begun b.start) (λ h f offset flags cs. entry_begun (head_source how b.start h f) offset flags cs) b.bytes ends tt

on_lines : (P : LineRecord → Type 0) (l : Events) → Every (OnLine P) l → Every P (event_lines l)
unfolding event_lines
on_lines P (more (line r) l) e = (e.0, on_lines P l e.1)
on_lines P (more (done h) l) e = on_lines P l e.1
on_lines P ends e = tt
on_lines P (fails t) e = tt

lines_begun : (how : EndLines) (b : Body) → Every (Begun b.start) (body_lines how b)
lines_begun how b = on_lines (Begun b.start) (body_then how b ends) (body_begun how b)

pub lines_start : (how : EndLines) (b : Body) → Every (λ r. r.body ≡ b.start) (body_lines how b)
lines_start how b = every_map (Begun b.start) (λ r. r.body ≡ b.start) (λ r h. h.0) (body_lines how b) (lines_begun how b)

-- ---- the second: at the position of each record starts the body of a line subsection of the area, and the record is one of its lines

-- of a record that has no length yet
pub record LineRead (how : EndLines) (rule : ℕ → Sort) (s : List ℕ) (q : LineRecord) : Type 0 where
  pub at : LineSubAt rule s q.body
  pub own : Has q (body_lines how (body_by s q.body))

abbrev pub ReadFrom : EndLines → (ℕ → Sort) → List ℕ → LineRecord → Type 0
ReadFrom how rule s r = LineRead how rule s (lengthless r)

module _ (how : EndLines) (rule : ℕ → Sort) (s : List ℕ) where
  own_read : (b : Body) → IsLineBody rule s b → (r : LineRecord) → Begun b.start r → Has r (body_lines how b) → ReadFrom how rule s r
  own_read b h r g has =
      subst⁻¹ (LineRead how rule s) g.1 (record {
        at = subst⁻¹ (LineSubAt rule s) g.0 h.at;
        own = subst (λ (c : Body). Has r (body_lines how c)) (h.is ∙ ap (body_by s) (sym g.0)) has;
      })

  body_read : (b : Body) → IsLineBody rule s b → Every (ReadFrom how rule s) (body_lines how b)
  body_read b h =
      let k = body_lines how b in
      every_both (Begun b.start) (λ r. Has r k) (ReadFrom how rule s) (own_read b h) k (lines_begun how b) (every_has k)

  spread_read : (l : Listing Body Told) → Every (IsLineBody rule s) l → Every (ReadFrom how rule s) (spread (body_lines how) l)
  spread_read (more b l) h = every_then (ReadFrom how rule s) (body_lines how b) (spread (body_lines how) l) (body_read b h.0) (spread_read l h.1)
  spread_read ends h = tt
  spread_read (fails t) h = tt

  begins_read : (l m : Records) → Begins l m → Every (ReadFrom how rule s) m → Every (ReadFrom how rule s) l
  begins_read (more r l) (more q m) b e = (subst⁻¹ (LineRead how rule s) b.0 e.0, begins_read l m b.1 e.1)
  begins_read (more r l) ends b e = absurd b
  begins_read (more r l) (fails t) b e = absurd b
  begins_read ends m b e = tt
  begins_read (fails t) m b e = tt

  -- of any line bodies of the area
  pub bodies_read : (l : Listing Body Told) → Every (IsLineBody rule s) l → Every (ReadFrom how rule s) (settle (events_of how l))
  bodies_read l h = begins_read (settle (events_of how l)) (spread (body_lines how) l) (records_lines how l) (spread_read l h)

  -- of the area and a list, whatever the list
  pub read_from : (v : List ℕ) → Every (ReadFrom how rule s) (records_of how rule s v)
  read_from v = bodies_read (list_of rule s v) (list_line_bodies rule s v)

-- such a position is never that of no body
pub read_some : (how : EndLines) (rule : ℕ → Sort) (s : List ℕ) (r : LineRecord) → ReadFrom how rule s r → r.body < no_position
read_some how rule s r h = omega (arith, h.at.header.short, h.at.header.inside)

-- ---- told apart: no line of a body has the position of a line of another one, of any two bodies of an area, in walk order, also those with equal keys

line_starts : (how : EndLines) (b : Body) (r : LineRecord) → Has r (body_lines how b) → r.body ≡ b.start
line_starts how b = has_every (λ r. r.body ≡ b.start) (body_lines how b) (lines_start how b)

pub told_apart : (how : EndLines) (rule : ℕ → Sort) (s : List ℕ) → length s ≤ longest
    → Pairs (λ b c. (r q : LineRecord) → Has r (body_lines how b) → Has q (body_lines how c) → r.body ≡ q.body → ⊥) (in_order rule s)
told_apart how rule s h =
    pairs_map StartsApart (λ b c. (r q : LineRecord) → Has r (body_lines how b) → Has q (body_lines how c) → r.body ≡ q.body → ⊥)
    (λ b c f r q g k e. f (sym (line_starts how b r g) ∙ e ∙ line_starts how c q k)) (in_order rule s) (bodies_apart rule s h)
