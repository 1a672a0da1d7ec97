-- What does not depend on the reading of end lines, of the whole walk: everything but the end lines. Two walks over the same area and list that differ in the
-- reading give the same records in the same order, with the same start lines, kinds and lengths, but for their end lines, and end alike or with the same
-- refusal. It is said with any line `last` in the place of all end lines: then nothing is left that could differ.
use Rattle.std.specs.Prelude.{ℕ, ◌+◌, ◌≡◌, length, drop, ltb}
use Rattle.std.proofs.Math.Path.{refl, sym, ap}
use Rattle.std.proofs.Common.{◌∙◌}
use mathlib.Core.List.{List, [], ◌∷◌}
use Rattle.walk.specs.Cases.{both_ways}
use Rattle.walk.specs.Listing.{Listing, more, ends, fails, before, Reply, gave, nothing, refused}
use Rattle.walk.specs.AlikeLaws.{through, throughout, Alike, listings_alike}
use Rattle.refusal.specs.Told.{Told}
use Rattle.kinds.specs.Kind.{Sort}
use Rattle.body.specs.Lines.{LineHead, line_head_size, line_head, columned, Block, blocks}
use Rattle.line_record.specs.declared.EndLines.{EndLines}
use Rattle.line_record.specs.declared.LineRecord.{LineRecord}
use Rattle.line_record.specs.Record.{max_offset, head_source, entry_of, closed_at}
use Rattle.line_record.proofs.ReadingsLaws.{with_end, entry_readings, close_readings}
use Rattle.lines.specs.Lines.{Body}
use Rattle.lines.specs.Slots.{list_of}
use Rattle.order.specs.Order.{in_order}
use Rattle.line_step.specs.declared.LineWalk.TheVariants.{New}
use Rattle.line_walk.specs.Meaning.{Event, line, done, Events, entry_then, behind, lines_then, blocks_then, body_then, events_of, Records, settle_one, settle, records_of, area_records}
use Rattle.line_walk.specs.Next.{next_of}
use Rattle.line_walk.proofs.WalkLaws.{walk_is}

module _ (last : ℕ) where
  -- records, and events, with `last` for each end line
  abbrev pub with_ends : Records → Records
  with_ends = throughout (with_end last)

  abbrev event_with : Event → Event
  event_with (line r) = line (with_end last r)
  event_with (done h) = done h

  abbrev events_with : Events → Events
  events_with = throughout event_with

  -- ---- end lines can be put into the events, or into the records that these settle

  settle_one_with : (o : LineRecord) (l : Events) → with_ends (settle_one o l) ≡ settle_one (with_end last o) (events_with l)
  unfolding settle_one
  settle_one_with o (more (line r) l) = λ i. more (close_readings last r.section r.offset o i) (settle_one_with r l i)
  settle_one_with o (more (done h) l) =
      let x = h.offset + h.code in
      both_ways with_ends (ltb max_offset x) (λ e. refl)
      (λ e. settle_one_with (closed_at h.section x o) l ∙ ap (λ (r : LineRecord). settle_one r (events_with l)) (close_readings last h.section x o))
  settle_one_with o ends = refl
  settle_one_with o (fails t) = refl

  settle_with : (l : Events) → with_ends (settle l) ≡ settle (events_with l)
  unfolding settle
  settle_with (more (line r) l) = settle_one_with r l
  settle_with (more (done h) l) = settle_with l
  settle_with ends = refl
  settle_with (fails t) = refl

  entry_with : (e : Reply LineRecord Told) (l : Events) → events_with (entry_then e l) ≡ entry_then (through (with_end last) e) (events_with l)
  entry_with (gave r) l = refl
  entry_with nothing l = refl
  entry_with (refused t) l = refl

  -- ---- with the same end lines the events are the same

  module _ (how also : EndLines) where
    lines_same : (a : ℕ) (h : LineHead) (f : ℕ) (ws cs : List ℕ) (l m : Events) → events_with l ≡ events_with m
        → events_with (lines_then (head_source how a h f) ws cs l) ≡ events_with (lines_then (head_source also a h f) ws cs m)
    unfolding lines_then
    lines_same a h f (offset ∷ flags ∷ ws) cs l m e =
        let rest = lines_same a h f ws (behind cs) l m e in
        entry_with (entry_of (head_source how a h f) offset flags cs) (lines_then (head_source how a h f) ws (behind cs) l)
        ∙ (λ i. entry_then (entry_readings last how also a h f offset flags cs i) (rest i))
        ∙ sym (entry_with (entry_of (head_source also a h f) offset flags cs) (lines_then (head_source also a h f) ws (behind cs) m))
    lines_same a h f (offset ∷ []) cs l m e = e
    lines_same a h f [] cs l m e = e

    blocks_same : (a : ℕ) (h : LineHead) (k : Listing Block Told) (l m : Events) → events_with l ≡ events_with m
        → events_with (blocks_then how a h k l) ≡ events_with (blocks_then also a h k m)
    unfolding blocks_then
    blocks_same a h (more b k) l m e =
        lines_same a h b.file b.lines b.columns (blocks_then how a h k l) (blocks_then also a h k m) (blocks_same a h k l m e)
    blocks_same a h ends l m e = ap (more (done h)) e
    blocks_same a h (fails t) l m e = refl

    body_same : (b : Body) (l m : Events) → events_with l ≡ events_with m → events_with (body_then how b l) ≡ events_with (body_then also b m)
    unfolding body_then
    body_same b l m e =
        let h = line_head b.bytes in
        let k = blocks (columned h.flags) (drop line_head_size b.bytes) in
        both_ways events_with (ltb (length b.bytes) line_head_size) (λ c. refl) (λ c. blocks_same b.start h k l m e)
        ∙ sym (both_ways events_with (ltb (length b.bytes) line_head_size) (λ c. refl) (λ c. refl))

    events_same : (l : Listing Body Told) → events_with (events_of how l) ≡ events_with (events_of also l)
    unfolding events_of
    events_same (more b l) = body_same b (events_of how l) (events_of also l) (events_same l)
    events_same ends = refl
    events_same (fails t) = refl

    -- THE THEOREM, of any line bodies
    pub readings_same : (l : Listing Body Told) → with_ends (settle (events_of how l)) ≡ with_ends (settle (events_of also l))
    readings_same l = settle_with (events_of how l) ∙ ap settle (events_same l) ∙ sym (settle_with (events_of also l))

    -- of an area and a list, and of an area alone
    pub records_readings : (rule : ℕ → Sort) (s v : List ℕ) → with_ends (records_of how rule s v) ≡ with_ends (records_of also rule s v)
    records_readings rule s v = readings_same (list_of rule s v)

    pub area_readings : (rule : ℕ → Sort) (s : List ℕ) → with_ends (area_records how rule s) ≡ with_ends (area_records also rule s)
    area_readings rule s = readings_same (before (in_order rule s) ends)

    -- of the walk itself: any number of steps from a new walk on
    pub walk_readings : (rule : ℕ → Sort) (s v : List ℕ) → Alike (with_end last) (next_of rule s v) (New how) (New also)
    walk_readings rule s v =
        listings_alike (with_end last) (next_of rule s v) (New how) (New also) (records_of how rule s v) (records_of also rule s v) (walk_is rule s v how)
        (walk_is rule s v also) (records_readings rule s v)
