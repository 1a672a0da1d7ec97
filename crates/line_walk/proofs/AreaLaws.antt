-- The walk over a list left as it was built: it gives the records of the area alone, slots behind those of the list are not read, and it is never
-- refused for a slot.
use Rattle.std.specs.Prelude.{ℕ, ◌+◌, ◌≡◌, length, ltb}
use Rattle.std.proofs.Common.{ap, ◌∙◌, arith}
use mathlib.Core.List.{List, [], ◌∷◌, ◌++◌}
use Rattle.std.proofs.Math.ListN.{drop}
use Rattle.walk.specs.Cases.{by_cases}
use Rattle.walk.specs.Listing.{Listing, more, ends, fails, before, Reply, gave, nothing, refused, calls, replies}
use Rattle.walk.specs.FailsLaws.{FailsBy}
use Rattle.refusal.specs.Told.{Told, told}
use Rattle.refusal.specs.declared.Refusal.TheVariants as why
use Rattle.kinds.specs.Kind.{Sort}
use Rattle.body.specs.Lines.{LineHead, line_head_size, line_head, columned, Block, blocks}
use Rattle.body.specs.LinesLaws.{blocks_by}
use Rattle.line_record.specs.declared.LineSource.{LineSource}
use Rattle.line_record.specs.declared.EndLines.{EndLines}
use Rattle.line_record.specs.declared.LineRecord.{LineRecord}
use Rattle.line_record.specs.Flags.{is_marker}
use Rattle.line_record.specs.Record.{max_offset, head_source, entry_of, closed_at}
use Rattle.lines.specs.Lines.{count_lines, Body}
use Rattle.order.specs.Order.{order_of, ordered, slots_after, in_order}
use Rattle.order.specs.BuiltLaws.{built_list, built}
use Rattle.line_step.specs.declared.LineWalk.TheVariants.{New}
use Rattle.line_walk.specs.Meaning.{line, done, Events, entry_then, behind, lines_then, blocks_then, body_then, events_of, settle_one, settle, records_of, area_records}
use Rattle.line_walk.specs.Next.{next_of}
use Rattle.line_walk.proofs.WalkLaws.{walk_is}

module _ (rule : ℕ → Sort) (s : List ℕ) (n : ℕ) where
  -- what stands behind the list does not matter
  pub records_built : (how : EndLines) (vs : List ℕ) → gave n ≡ count_lines rule s → records_of how rule s (order_of rule s ++ vs) ≡ area_records how rule s
  records_built how vs e = ap (λ l. settle (events_of how l)) (built_list rule s n e vs)

  -- THE THEOREM for a list that `order_list` made in slots that held xs
  pub walk_built : (how : EndLines) (xs : List ℕ) → gave n ≡ ordered rule s (length xs) → (k : ℕ)
      → calls (next_of rule s (slots_after rule s xs)) k (New how) ≡ replies k (area_records how rule s)
  walk_built how xs e k = walk_is rule s (slots_after rule s xs) how k ∙ ap (λ l. replies k (settle (events_of how l))) (built rule s xs n e)

-- ---- why the records of bodies can fail: 1, 7 and 8, and nothing else

module _ (Q : Told → Type 0) (cut : Q (told why.Cut)) (size : Q (told why.BlockSize)) (large : Q (told why.OffsetTooLarge)) where
  abbrev EntryBy : Reply LineRecord Told → Type 0
  EntryBy (gave r) = Unit {0}
  EntryBy nothing = Unit {0}
  EntryBy (refused t) = Q t

  entry_by : (source : LineSource) (offset flags : ℕ) (cs : List ℕ) → EntryBy (entry_of source offset flags cs)
  unfolding entry_of
  entry_by source offset flags cs =
      by_cases EntryBy (is_marker flags) (λ e. tt) (λ e. by_cases EntryBy (ltb max_offset (source.base + offset)) (λ g. large) (λ g. tt))

  then_by : (e : Reply LineRecord Told) (l : Events) → EntryBy e → FailsBy Q l → FailsBy Q (entry_then e l)
  then_by (gave r) l f g = g
  then_by nothing l f g = g
  then_by (refused t) l f g = f

  lines_by : (source : LineSource) (ws cs : List ℕ) (l : Events) → FailsBy Q l → FailsBy Q (lines_then source ws cs l)
  unfolding lines_then
  lines_by source (offset ∷ flags ∷ ws) cs l g =
      then_by (entry_of source offset flags cs) (lines_then source ws (behind cs) l) (entry_by source offset flags cs) (lines_by source ws (behind cs) l g)
  lines_by source (offset ∷ []) cs l g = g
  lines_by source [] cs l g = g

  blocks_then_by : (how : EndLines) (a : ℕ) (h : LineHead) (k : Listing Block Told) (l : Events) → FailsBy Q k → FailsBy Q l
      → FailsBy Q (blocks_then how a h k l)
  unfolding blocks_then
  blocks_then_by how a h (more b k) l e g =
      lines_by (head_source how a h b.file) b.lines b.columns (blocks_then how a h k l) (blocks_then_by how a h k l e g)
  blocks_then_by how a h ends l e g = g
  blocks_then_by how a h (fails t) l e g = e

  pub body_by_lem : (how : EndLines) (b : Body) (l : Events) → FailsBy Q l → FailsBy Q (body_then how b l)
  unfolding body_then
  body_by_lem how b l g =
      let h = line_head b.bytes in
      let r = drop line_head_size b.bytes in
      by_cases (FailsBy Q) (ltb (length b.bytes) line_head_size) (λ e. cut)
      (λ e. blocks_then_by how b.start h (blocks (columned h.flags) r) l (blocks_by Q cut size (columned h.flags) r) g)

  events_by : (how : EndLines) (bs : List Body) → FailsBy Q (events_of how (before bs ends))
  unfolding events_of
  events_by how [] = tt
  events_by how (b ∷ bs) = body_by_lem how b (events_of how (before bs ends)) (events_by how bs)

  settle_one_by : (o : LineRecord) (l : Events) → FailsBy Q l → FailsBy Q (settle_one o l)
  unfolding settle_one
  settle_one_by o (more (line r) l) e = settle_one_by r l e
  settle_one_by o (more (done h) l) e =
      by_cases (FailsBy Q) (ltb max_offset (h.offset + h.code)) (λ f. large) (λ f. settle_one_by (closed_at h.section (h.offset + h.code) o) l e)
  settle_one_by o ends e = tt
  settle_one_by o (fails t) e = e

  pub settle_by : (l : Events) → FailsBy Q l → FailsBy Q (settle l)
  unfolding settle
  settle_by (more (line r) l) e = settle_one_by r l e
  settle_by (more (done h) l) e = settle_by l e
  settle_by ends e = tt
  settle_by (fails t) e = e

  pub area_fails : (how : EndLines) (rule : ℕ → Sort) (s : List ℕ) → FailsBy Q (area_records how rule s)
  area_fails how rule s = settle_by (events_of how (before (in_order rule s) ends)) (events_by how (in_order rule s))

-- so the walk over a list left as it was built is never refused for a slot
pub never_slot : (how : EndLines) (rule : ℕ → Sort) (s : List ℕ) → FailsBy (λ t. t.number ≡ 19 → ⊥) (area_records how rule s)
never_slot = area_fails (λ t. t.number ≡ 19 → ⊥) (λ e. omega arith) (λ e. omega arith) (λ e. omega arith)
