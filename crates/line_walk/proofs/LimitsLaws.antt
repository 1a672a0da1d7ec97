-- Each record of a walk, over any list, keeps to the limits that its type carries, MAX_START_LINE and MAX_OFFSET, and its end line to that of the reading.
use Rattle.std.specs.Prelude.{ℕ, ◌+◌, List, ltb}
use Rattle.std.proofs.Common.{ltb-false}
use Rattle.walk.specs.Cases.{by_cases}
use Rattle.walk.specs.Listing.{Listing, more, ends, fails}
use Rattle.walk.specs.ListingLaws.{Every}
use Rattle.refusal.specs.Told.{Told}
use Rattle.kinds.specs.Kind.{Sort}
use Rattle.line_record.specs.declared.EndLines.{EndLines}
use Rattle.line_record.specs.declared.LineRecord.{LineRecord}
use Rattle.line_record.specs.Record.{max_offset, head_source, closed_at}
use Rattle.line_record.proofs.LimitsLaws.{Limits, entry_limits, close_limits}
use Rattle.lines.specs.Lines.{Body}
use Rattle.lines.specs.Slots.{list_of}
use Rattle.line_walk.specs.Meaning.{line, done, Events, body_then, events_of, settle_one, settle, records_of}
use Rattle.line_walk.proofs.EveryLaws.{OnLine, body_every}

module _ (how : EndLines) where
  pub body_limits : (b : Body) (l : Events) → Every (OnLine (Limits how)) l → Every (OnLine (Limits how)) (body_then how b l)
  body_limits b = body_every how b.start (Limits how) (λ h f offset flags cs. entry_limits (head_source how b.start h f) offset flags cs) b.bytes

  events_limits : (l : Listing Body Told) → Every (OnLine (Limits how)) (events_of how l)
  unfolding events_of
  events_limits (more b l) = body_limits b (events_of how l) (events_limits l)
  events_limits ends = tt
  events_limits (fails t) = tt

  settle_one_limits : (o : LineRecord) (l : Events) → Limits how o → Every (OnLine (Limits how)) l → Every (Limits how) (settle_one o l)
  unfolding settle_one
  settle_one_limits o (more (line r) l) h e = (close_limits how r.section r.offset o e.0.2 h, settle_one_limits r l e.0 e.1)
  settle_one_limits o (more (done d) l) h e =
      let x = d.offset + d.code in
      by_cases (Every (Limits how)) (ltb max_offset x) (λ f. tt)
      (λ f. settle_one_limits (closed_at d.section x o) l (close_limits how d.section x o (ltb-false max_offset x f) h) e.1)
  settle_one_limits o ends h e = (h, tt)
  settle_one_limits o (fails t) h e = tt

  pub settle_limits : (l : Events) → Every (OnLine (Limits how)) l → Every (Limits how) (settle l)
  unfolding settle
  settle_limits (more (line r) l) e = settle_one_limits r l e.0 e.1
  settle_limits (more (done d) l) e = settle_limits l e.1
  settle_limits ends e = tt
  settle_limits (fails t) e = tt

  pub walk_limits : (rule : ℕ → Sort) (s v : List ℕ) → Every (Limits how) (records_of how rule s v)
  walk_limits rule s v = settle_limits (events_of how (list_of rule s v)) (events_limits (list_of rule s v))
