-- The turns of the line walk: what one turn does to its state, for every state, also one that no walk comes to. What a walk of turns means is in
-- crate `line_walk`. Source: document 01, "Line subsections": one record is held back until its end is known; the ends are the next non-marker
-- line's offset, then section offset plus code size when a subsection's blocks are done; a place past the lent bytes is 1; 11 comes first.
-- Definitions only; `walk_is` (line_walk WalkLaws) says what they mean.
use Rattle.std.specs.Prelude.{ℕ, ◌+◌, ◌-◌, ◌*◌, ◌%◌, ◌^◌, Bool, true, false, cond, List, length, take, ◌==◌, nat_lt, Option, None, Some}
use Rattle.word.specs.Word.{u32_at}
use Rattle.walk.specs.Listing.{Move, item, pass, over, fail, Answer, gives, none, refuses, Reply, gave, nothing, refused}
use Rattle.refusal.specs.Told.{Told, told, longest}
use Rattle.refusal.specs.declared.Refusal.TheVariants as why
use Rattle.kinds.specs.Kind.{Sort}
use Rattle.body.specs.Lines.{line_head_size, line_head, columned}
use Rattle.find.specs.Find.{Span, bytes_at}
use Rattle.line_record.specs.Record.{max_offset, column_if, head_source, entry_of, closed_at}
use Rattle.line_record.specs.declared.EndLines.{EndLines}
use Rattle.line_record.specs.declared.LineRecord.{LineRecord}
use Rattle.line_record.specs.declared.LineSource.{LineSource}
use Rattle.lines.specs.Lines.{count_lines}
use Rattle.lines.specs.Blocks.{LineBlock, block_at}
use Rattle.lines.specs.Slots.{slot_at}
use Rattle.lines.specs.Told.{told_header, untold_header}
use Rattle.lines.specs.declared.LineHeader.{LineHeader}
use Rattle.line_step.specs.declared.Rest.{Rest}
use Rattle.line_step.specs.declared.Place.{Place}
use Rattle.line_step.specs.declared.LineWalk.{LineWalk}
use Rattle.line_step.specs.declared.LineWalk.TheVariants.{New, Between, Inside}

abbrev pub LineMove : Type 0
LineMove = Move LineWalk LineRecord Told

-- ---- a line

-- what the lines at a place have in common; the start of their body as 32 bits hold it, for every place, also where no walk comes to it
abbrev pub source_of : Place → LineSource
source_of p = head_source p.how (p.body % 2 ^ 32) (told_header p.head) p.file

-- what the entry says whose words stand at the place
abbrev pub entry_in : List ℕ → Place → Reply LineRecord Told
entry_in b p = entry_of (source_of p) (u32_at b p.line) (u32_at b (p.line + 4)) (column_if (source_of p).columns (u32_at b p.column))

unfoldable pub line_entry_at : List ℕ → Place → Reply LineRecord Told
line_entry_at b p =
    cond (nat_lt (length b) (p.line + 8)) (refused (told why.Cut))
    (cond (nat_lt (length b) (p.column + 4)) (refused (told why.Cut)) (entry_in b p))

-- what comes behind a slot, of which nothing is searched yet, and no record is held
abbrev pub fresh_rest : ℕ → ℕ → Rest
fresh_rest slot left = record { slot = slot; left = left; scan = 0; held = None }

abbrev pub with_held : Rest → Option LineRecord → Rest
with_held t h = record { slot = t.slot; left = t.left; scan = t.scan; held = h }

-- the place n lines on: each line uses up its column entry
abbrev pub lines_on : Place → ℕ → Place
lines_on p n =
    record { head = p.head; how = p.how; body = p.body; end = p.end; next = p.next; file = p.file; lines = p.lines - n; line = p.line + 8 * n; column = p.column + 4 * n }

-- and as 64 bits hold it, for every place and n, also where a walk comes to none
abbrev pub past_lines : Place → ℕ → Place
past_lines p n =
    record { head = p.head; how = p.how; body = p.body; end = p.end; next = p.next; file = p.file; lines = p.lines - n; line = (p.line + 8 * n) % 2 ^ 64; column = (p.column + 4 * n) % 2 ^ 64 }

-- a new record r, with the walk w behind it: the record that was held is closed by it
abbrev pub hold_in : Option LineRecord → LineRecord → LineWalk → LineMove
hold_in None r w = pass w
hold_in (Some old) r w = item (closed_at r.section r.offset old) w

abbrev pub hold_of : Place → Rest → LineRecord → LineMove
hold_of p t r = hold_in t.held r (Inside p (with_held t (Some r)))

abbrev pub line_of : Place → Rest → Reply LineRecord Told → LineMove
line_of p t (gave r) = hold_of (lines_on p 1) t r
line_of p t nothing = pass (Inside (lines_on p 1) t)
line_of p t (refused e) = fail e

abbrev pub line_turn : List ℕ → Place → Rest → LineMove
line_turn b p t = line_of p t (line_entry_at b p)

-- ---- a block, or the end of the blocks

-- where the columns of n lines at a begin: behind the lines. Without columns nothing is read there
abbrev pub column_place : Bool → ℕ → ℕ → ℕ
column_place true a n = a + 8 * n
column_place false a n = a

abbrev pub in_block : Place → LineBlock → ℕ → Place
in_block p k x = record {
  head = p.head;
  how = p.how;
  body = p.body;
  end = p.end;
  next = x;
  file = k.file;
  lines = k.count;
  line = k.start;
  column = column_place (columned p.head.flags) k.start k.count;
}

abbrev pub block_place : Place → Answer ℕ LineBlock Told → Reply Place Told
block_place p (gives k x) = gave (in_block p k x)
block_place p none = nothing
block_place p (refuses e) = refused e

-- the place in the next block of the body b, or nothing where its blocks are done
abbrev pub next_block : List ℕ → Place → Reply Place Told
next_block b p = block_place p (block_at (columned p.head.flags) b p.next)

-- the end of a subsection closes the record that is held
unfoldable pub end_held : LineHeader → Option LineRecord → Reply (Option LineRecord) Told
end_held h None = gave None
end_held h (Some r) =
    cond (nat_lt max_offset (h.offset + h.code)) (refused (told why.OffsetTooLarge))
    (gave (Some (closed_at h.section (h.offset + h.code) r)))

abbrev pub end_move : EndLines → Rest → Reply (Option LineRecord) Told → LineMove
end_move how t (gave o) = pass (Between how (with_held t o))
end_move how t nothing = over
end_move how t (refused e) = fail e

abbrev pub end_of : Place → Rest → LineMove
end_of p t = end_move p.how t (end_held p.head t.held)

abbrev pub block_of : Place → Rest → Reply Place Told → LineMove
block_of p t (gave q) = pass (Inside q t)
block_of p t nothing = end_of p t
block_of p t (refused e) = fail e

abbrev pub block_turn : List ℕ → Place → Rest → LineMove
block_turn b p t = block_of p t (next_block b p)

unfoldable pub inside_turn : List ℕ → Place → Rest → LineMove
inside_turn s p t =
    cond (nat_lt (length s) p.end) (fail (told why.Cut))
    (cond (nat_lt p.end p.body) (fail (told why.Cut))
    (cond (p.lines == 0) (block_turn (take p.end s) p t) (line_turn (take p.end s) p t)))

-- ---- a subsection

abbrev pub place_at : EndLines → LineHeader → ℕ → ℕ → ℕ → Place
place_at how h body first end = record { head = h; how = how; body = body; end = end; next = first; file = 0; lines = 0; line = 0; column = 0 }

-- before the first block of the body of n bytes at a
abbrev pub body_place : EndLines → List ℕ → ℕ → ℕ → Place
body_place how s a n = place_at how (untold_header (line_head (bytes_at s (record { start = a; len = n })))) a (a + line_head_size) (a + n)

-- a body without room for a header is 1
unfoldable pub headed_place : EndLines → List ℕ → ℕ → ℕ → Reply Place Told
headed_place how s a n = cond (nat_lt n line_head_size) (refused (told why.Cut)) (gave (body_place how s a n))

-- and one that does not lie in s, for every part
unfoldable pub enter_place : EndLines → List ℕ → ℕ → ℕ → Reply Place Told
enter_place how s a n = cond (nat_lt (length s) (a + n)) (refused (told why.Cut)) (headed_place how s a n)

-- what comes behind the body that the next slot names and that ends at x
abbrev pub rest_at : Rest → ℕ → Rest
rest_at t x = record { slot = t.slot + 1; left = t.left - 1; scan = x; held = t.held }

-- and as 64 bits hold it, for every rest
abbrev pub behind_body : Rest → ℕ → Rest
behind_body t x = record { slot = (t.slot + 1) % 2 ^ 64; left = t.left - 1; scan = x; held = t.held }

abbrev pub enter_move : Rest → ℕ → Reply Place Told → LineMove
enter_move t x (gave p) = pass (Inside p (rest_at t x))
enter_move t x nothing = over
enter_move t x (refused e) = fail e

abbrev pub enter_at : List ℕ → EndLines → Rest → ℕ → ℕ → LineMove
enter_at s how t a n = enter_move t (a + n) (headed_place how s a n)

abbrev pub named_of : List ℕ → EndLines → Rest → Reply Span Told → LineMove
named_of s how t (gave a) = enter_at s how t a.start a.len
named_of s how t nothing = fail (told why.WrongSlot)
named_of s how t (refused e) = fail e

abbrev pub sub_turn : (ℕ → Sort) → List ℕ → List ℕ → EndLines → Rest → LineMove
sub_turn rule s v how t = named_of s how t (slot_at rule s v t.slot t.scan)

-- ---- the whole turn

abbrev pub finish_in : EndLines → Option LineRecord → Rest → LineMove
finish_in how None t = over
finish_in how (Some r) t = item r (Between how (with_held t None))

abbrev pub finish_of : EndLines → Rest → LineMove
finish_of how t = finish_in how t.held t

unfoldable pub between_turn : (ℕ → Sort) → List ℕ → List ℕ → EndLines → Rest → LineMove
between_turn rule s v how t = cond (t.left == 0) (finish_of how t) (sub_turn rule s v how t)

abbrev pub open_of : EndLines → Reply ℕ Told → LineMove
open_of how (gave n) = pass (Between how (fresh_rest 0 n))
open_of how nothing = over
open_of how (refused e) = fail e

abbrev pub turn_in : (ℕ → Sort) → List ℕ → List ℕ → LineWalk → LineMove
turn_in rule s v (New how) = open_of how (count_lines rule s)
turn_in rule s v (Between how t) = between_turn rule s v how t
turn_in rule s v (Inside p t) = inside_turn s p t

unfoldable pub turn_of : (ℕ → Sort) → List ℕ → List ℕ → LineWalk → LineMove
turn_of rule s v w = cond (nat_lt longest (length s)) (fail (told why.TooLong)) (turn_in rule s v w)
