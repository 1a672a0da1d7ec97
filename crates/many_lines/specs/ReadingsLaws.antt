-- What does not depend on the reading of end lines, of many lines at once: everything but the end lines. From walks that give the same records but for their
-- end lines, a call with the same room gives the same records but for their end lines, or none, or the same refusal; and the walks that it leaves are such
-- walks again, for the next call. Two new walks that differ in the reading are such walks (`walk_readings` of line_walk), and so are those of one symbol
-- (`symbol_walks_alike` of symbol_lines).
use Rattle.std.specs.Prelude.{ℕ, ◌/◌, ◌≡◌, refl, List, map, Bool, cond, ltb}
use Rattle.std.proofs.Math.Path.{sym, ap}
use Rattle.std.proofs.Common.{◌∙◌}
use Rattle.std.proofs.Math.Bool.{true, false}
use Rattle.walk.specs.Listing.{Answer, gives, none, refuses, Reply, gave, nothing, refused}
use Rattle.walk.specs.Many.{many_of}
use Rattle.walk.specs.AlikeLaws.{through, shown, left, Alike, one_alike, call_alike, left_alike}
use Rattle.refusal.specs.Told.{Told, told}
use Rattle.refusal.specs.declared.Refusal.TheVariants as why
use Rattle.kinds.specs.Kind.{Sort}
use Rattle.line_record.specs.declared.EndLines.{EndLines}
use Rattle.line_record.specs.declared.LineRecord.{LineRecord}
use Rattle.line_record.proofs.ReadingsLaws.{with_end}
use Rattle.line_state_words.specs.LineWords.{record_size}
use Rattle.line_step.specs.declared.LineWalk.{LineWalk}
use Rattle.line_step.specs.declared.LineWalk.TheVariants.{New}
use Rattle.line_walk.specs.Next.{next_of}
use Rattle.line_walk.proofs.ReadingsLaws.{walk_readings}
use Rattle.answer_words.specs.Fill.{no_room, fill_of}
use Rattle.many_lines.specs.Lines.{lines_of}

-- without room for a record the answer goes by what one step shows, and the walk stays
abbrev roomless : Reply LineRecord Told → Reply (List LineRecord) Told
roomless (gave r) = refused (told why.NoRoom)
roomless nothing = nothing
roomless (refused t) = refused t

no_room_shown : (last : ℕ) (a : Answer LineWalk LineRecord Told) → through (map (with_end last)) (shown (no_room a))
    ≡ roomless (through (with_end last) (shown a))
no_room_shown last (gives r t) = refl
no_room_shown last none = refl
no_room_shown last (refuses t) = refl

no_room_left : (w : LineWalk) (a : Answer LineWalk LineRecord Told) → left w (no_room a) ≡ w
no_room_left w (gives r t) = refl
no_room_left w none = refl
no_room_left w (refuses t) = refl

module _ (last : ℕ) (rule : ℕ → Sort) (s v : List ℕ) (w u : LineWalk) (h : Alike (with_end last) (next_of rule s v) w u) (n : ℕ) where
  abbrev next : LineWalk → Answer LineWalk LineRecord Told
  next = next_of rule s v

  -- THE THEOREM, for n words lent: what the call answers
  pub lines_readings : through (map (with_end last)) (shown (lines_of rule s v n w)) ≡ through (map (with_end last)) (shown (lines_of rule s v n u))
  unfolding fill_of
  lines_readings = by (ltb n record_size)
    where
      by : (c : Bool) → through (map (with_end last)) (shown (cond c (no_room (next w)) (many_of next (n / record_size) w)))
          ≡ through (map (with_end last)) (shown (cond c (no_room (next u)) (many_of next (n / record_size) u)))
      by true = no_room_shown last (next w) ∙ ap roomless (one_alike (with_end last) next w u h) ∙ sym (no_room_shown last (next u))
      by false = call_alike (with_end last) next w u h (n / record_size)

  -- and the walk that it leaves
  pub lines_left_alike : Alike (with_end last) (next_of rule s v) (left w (lines_of rule s v n w)) (left u (lines_of rule s v n u))
  unfolding fill_of
  lines_left_alike = by (ltb n record_size)
    where
      by : (c : Bool) → Alike (with_end last) next (left w (cond c (no_room (next w)) (many_of next (n / record_size) w)))
          (left u (cond c (no_room (next u)) (many_of next (n / record_size) u)))
      by true = rw (no_room_left w (next w), no_room_left u (next u)) h
      by false = left_alike (with_end last) next w u h (n / record_size)

-- so of the first call of two new walks that differ in the reading
pub new_lines_readings : (last : ℕ) (how also : EndLines) (rule : ℕ → Sort) (s v : List ℕ) (n : ℕ)
    → through (map (with_end last)) (shown (lines_of rule s v n (New how))) ≡ through (map (with_end last)) (shown (lines_of rule s v n (New also)))
new_lines_readings last how also rule s v = lines_readings last rule s v (New how) (New also) (walk_readings last how also rule s v)
