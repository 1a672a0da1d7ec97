-- The first and the last subsection of a kind. Source: document 01, "Area and subsections": exports, imports and inlinees come from the first of
-- their kind, and nothing behind it is read; files come from the last of the whole area.
-- Definitions only; a reader must believe them.
use Rattle.std.specs.Prelude.{ℕ, List, Bool, eqb, take, drop}
use Rattle.std.specs.Borrow.{Bor}
use Rattle.word.specs.Word.{HandsBack}
use Rattle.walk.specs.Listing.{Reply, gave, nothing, refused}
use Rattle.walk.specs.Pick.{first_by, last_by, map_reply}
use Rattle.refusal.specs.Told.{Told}
use Rattle.kinds.specs.Kind.{Sort}
use Rattle.area.specs.Subs.{Sub, subs_from}

abbrev pub same : {A : Type 0} → A → A
same x = x

-- a place is told as two numbers
pub record Span : Type 0 where
  pub start : ℕ
  pub len : ℕ

abbrev pub is : ℕ → Sub → Bool
is w b = eqb b.kind w

abbrev pub span_of : Sub → Span
span_of b = record { start = b.start; len = b.len }

abbrev pub first_sub : (ℕ → Sort) → ℕ → List ℕ → Reply Span Told
first_sub rule w s = map_reply span_of same (first_by (is w) (subs_from rule s 0))

abbrev pub last_sub : (ℕ → Sort) → ℕ → List ℕ → Reply Span Told
last_sub rule w s = map_reply span_of same (last_by (is w) (subs_from rule s 0))

-- the bytes at a place, and the body that a call on a table reads
abbrev pub bytes_at : List ℕ → Span → List ℕ
bytes_at s a = take a.len (drop a.start s)

abbrev pub first_bytes : (ℕ → Sort) → ℕ → List ℕ → Reply (List ℕ) Told
first_bytes rule w s = map_reply (bytes_at s) same (first_sub rule w s)

abbrev pub last_bytes : (ℕ → Sort) → ℕ → List ℕ → Reply (List ℕ) Told
last_bytes rule w s = map_reply (bytes_at s) same (last_sub rule w s)

-- a part that a call hands back; where an answer has none it is the empty part at the start
abbrev pub held_span : Reply Span Told → Span
held_span (gave a) = a
held_span nothing = record { start = 0; len = 0 }
held_span (refused t) = record { start = 0; len = 0 }

abbrev pub HandsSpan : Bor (List ℕ) → Span → Bor (List ℕ) → Type 0
HandsSpan s a r = HandsBack s a.start a.len r
