-- What each entry of a body gives, each line of the body is: the induction over lines and blocks, once for all that is said of each line.
use Rattle.std.specs.Prelude.{ℕ, length, drop, ltb}
use mathlib.Core.List.{List, [], ◌∷◌}
use Rattle.walk.specs.Cases.{by_cases}
use Rattle.walk.specs.Listing.{Listing, more, ends, fails, Reply, gave, nothing, refused}
use Rattle.walk.specs.ListingLaws.{Every}
use Rattle.walk.specs.PickLaws.{Gives}
use Rattle.refusal.specs.Told.{Told}
use Rattle.body.specs.Lines.{LineHead, line_head_size, line_head, columned, Block, blocks}
use Rattle.line_record.specs.declared.EndLines.{EndLines}
use Rattle.line_record.specs.declared.LineRecord.{LineRecord}
use Rattle.line_record.specs.Record.{head_source, entry_of}
use Rattle.line_walk.specs.Meaning.{Event, line, done, Events, entry_then, behind, lines_then, blocks_then, body_then}

-- P of the record of a line
abbrev pub OnLine : (LineRecord → Type 0) → Event → Type 0
OnLine P (line r) = P r
OnLine P (done h) = Unit {0}

-- P of each record that an entry of a body gives, which starts at a
module _ (how : EndLines) (a : ℕ) (P : LineRecord → Type 0)
    (entry : (h : LineHead) (f offset flags : ℕ) (cs : List ℕ) → Gives P (entry_of (head_source how a h f) offset flags cs)) where
  then_every : (e : Reply LineRecord Told) (l : Events) → Gives P e → Every (OnLine P) l → Every (OnLine P) (entry_then e l)
  then_every (gave r) l f g = (f, g)
  then_every nothing l f g = g
  then_every (refused t) l f g = tt

  lines_every : (h : LineHead) (f : ℕ) (ws cs : List ℕ) (l : Events) → Every (OnLine P) l → Every (OnLine P) (lines_then (head_source how a h f) ws cs l)
  unfolding lines_then
  lines_every h f (offset ∷ flags ∷ ws) cs l e =
      let k = head_source how a h f in
      then_every (entry_of k offset flags cs) (lines_then k ws (behind cs) l) (entry h f offset flags cs) (lines_every h f ws (behind cs) l e)
  lines_every h f (offset ∷ []) cs l e = e
  lines_every h f [] cs l e = e

  blocks_every : (h : LineHead) (k : Listing Block Told) (l : Events) → Every (OnLine P) l → Every (OnLine P) (blocks_then how a h k l)
  unfolding blocks_then
  blocks_every h (more b k) l e = lines_every h b.file b.lines b.columns (blocks_then how a h k l) (blocks_every h k l e)
  blocks_every h ends l e = (tt, e)
  blocks_every h (fails t) l e = tt

  -- of the body's bytes, and then l
  pub body_every : (bytes : List ℕ) (l : Events) → Every (OnLine P) l → Every (OnLine P) (body_then how (record { start = a; bytes = bytes }) l)
  unfolding body_then
  body_every bytes l e =
      let h = line_head bytes in
      by_cases (Every (OnLine P)) (ltb (length bytes) line_head_size) (λ g. tt) (λ g. blocks_every h (blocks (columned h.flags) (drop line_head_size bytes)) l e)
