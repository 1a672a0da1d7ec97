-- What does not depend on the reading of end lines, of one entry and of its record: everything but the end line. Whether it is a marker, its refusal, and what
-- an end does to its length are the same by every reading. It is said with any line `last` in the place of the end line, so that no number in it is free.
use Rattle.std.specs.Prelude.{ℕ, ◌+◌, ◌≡◌, List, Bool, cond, ltb, eqb}
use Rattle.std.proofs.Math.Path.{refl}
use Rattle.std.proofs.Math.Bool.{true, false}
use Rattle.walk.specs.Cases.{both_ways}
use Rattle.walk.specs.Listing.{Reply, gave, nothing, refused}
use Rattle.walk.specs.AlikeLaws.{through}
use Rattle.refusal.specs.Told.{Told, told}
use Rattle.refusal.specs.declared.Refusal.TheVariants as why
use Rattle.body.specs.Lines.{LineHead}
use Rattle.line_record.specs.declared.EndLines.{EndLines}
use Rattle.line_record.specs.declared.LineRecord.{LineRecord}
use Rattle.line_record.specs.Flags.{is_marker}
use Rattle.line_record.specs.Record.{max_offset, head_source, record_of, entry_of, closed_at}

-- a record with the end line `last`, and all else as it was
abbrev pub with_end : ℕ → LineRecord → LineRecord
with_end last r =
    record { section = r.section; offset = r.offset; length = r.length; file = r.file; start_line = r.start_line; end_line = last; column_start = r.column_start; column_end = r.column_end; kind = r.kind; body = r.body }

-- nothing else is changed: with its own end line it is itself. So two records that are the same with any line in the place of the end line are one another
-- with the end line exchanged
pub own_end : (r : LineRecord) → with_end r.end_line r ≡ r
own_end r = refl

pub end_exchanged : (r q : LineRecord) → ((last : ℕ) → with_end last r ≡ with_end last q) → r ≡ with_end r.end_line q
end_exchanged r q h = h r.end_line

module _ (last : ℕ) where
  module _ (how also : EndLines) (a : ℕ) (h : LineHead) (f offset flags : ℕ) (cs : List ℕ) where
    -- what an entry says, by the two tests
    abbrev said : Bool → Bool → EndLines → Reply LineRecord Told
    said marker large x =
        cond marker nothing (cond large (refused (told why.OffsetTooLarge)) (gave (record_of (head_source x a h f) (h.offset + offset) flags cs)))

    pub entry_readings : through (with_end last) (entry_of (head_source how a h f) offset flags cs)
        ≡ through (with_end last) (entry_of (head_source also a h f) offset flags cs)
    unfolding entry_of
    entry_readings = by (is_marker flags) (ltb max_offset (h.offset + offset))
      where
        by : (marker large : Bool) → through (with_end last) (said marker large how) ≡ through (with_end last) (said marker large also)
        by true large = refl
        by false true = refl
        by false false = refl

  -- the end line can be put in before an end sets the length, or behind it
  pub close_readings : (section end : ℕ) (r : LineRecord) → with_end last (closed_at section end r) ≡ closed_at section end (with_end last r)
  unfolding closed_at
  close_readings section end r =
      both_ways (with_end last) (eqb r.section section) (λ e. both_ways (with_end last) (ltb end r.offset) (λ g. refl) (λ g. refl)) (λ e. refl)
