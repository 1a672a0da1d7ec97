-- Names for the proofs: the first look of a search, the body that a slot names, where a call stands, and what many turns made at once do.
-- Definitions only; no public contract cites them.
use Rattle.std.specs.Prelude.{ℕ, ◌+◌, ◌*◌, ◌/◌, ◌<◌, ◌≤◌, ◌≡◌, List, Bool, true, false, length, Option, None, Some, Result}
use Rattle.word.specs.Word.{u32_at, store}
use Rattle.walk.specs.Listing.{pass, over, Answer, gives, none, refuses, gave}
use Rattle.refusal.specs.Told.{Told, told, longest}
use Rattle.refusal.specs.declared.Refusal.{Refusal}
use Rattle.refusal.specs.declared.Refusal.TheVariants as why
use Rattle.kinds.specs.Kind.{LINES, Sort}
use Rattle.find.specs.Find.{Span}
use Rattle.lines.specs.Slots.{slot_at}
use Rattle.lines.specs.Told.{told_named}
use Rattle.body_list.specs.Search.{Right}
use Rattle.body_list.specs.declared.Known.{Known}
use Rattle.body_list.specs.declared.Located.{Located}
use Rattle.line_record.specs.declared.EndLines.{EndLines}
use Rattle.line_record.specs.declared.LineRecord.{LineRecord}
use Rattle.line_state_words.specs.LineWords.{record_size, record_words}
use Rattle.line_step.specs.Turn.{with_held, turn_of}
use Rattle.line_step.specs.declared.Rest.{Rest}
use Rattle.line_step.specs.declared.Place.{Place}
use Rattle.line_step.specs.declared.LineWalk.{LineWalk}
use Rattle.line_step.specs.declared.LineWalk.TheVariants.{Between, Inside}
use Rattle.line_walk.specs.Next.{next_of}
use Rattle.body_lines.specs.declared.InBody.{InBody}
use Rattle.body_lines.specs.Turns.{Filled, UnderWay, TurnsPut}
use Rattle.many_lines.specs.Told.{told_lines}
use Rattle.many_lines.specs.declared.Stand.{Stand}
use Rattle.many_lines.specs.declared.Reached.{Reached}
use Rattle.many_lines.specs.declared.Stopped.{Stopped}

-- a line body of n bytes at v, whose header stands at p of the area s
pub record Look (s : List ℕ) (p v n : ℕ) : Type 0 where
  pub short : length s ≤ longest
  pub place : p + 8 ≡ v
  pub kind : u32_at s p ≡ LINES
  pub len : u32_at s (p + 4) ≡ n
  pub inside : v + n ≤ length s

abbrev pub LookedIs : List ℕ → ℕ → ℕ → Option ℕ → Type 0
LookedIs s p v (Some n) = Look s p v n
LookedIs s p v None = Unit {0}

-- what is known is so, of the list b and of the place p at which a search may begin
pub record Knows (rule : ℕ → Sort) (s b : List ℕ) (k : Known) (p : ℕ) : Type 0 where
  pub so : Right rule s b k p

-- the body that slot i of v names, searched for from p on, and what is known behind it, b being the list of bodies that was lent
pub record LocatedIs (rule : ℕ → Sort) (s v b : List ℕ) (i p : ℕ) (r : Located) : Type 0 where
  pub named : told_named r.named ≡ slot_at rule s v i p
  pub known : (a : Span) → gave a ≡ told_named r.named → Knows rule s b r.known (a.start + a.len)

-- inside the next body, a turn behind t
abbrev pub OnwardIs : (ℕ → Sort) → List ℕ → List ℕ → List ℕ → EndLines → Rest → Option (Place × Rest × Known) → Type 0
OnwardIs rule s v b how t (Some (q, u, k)) = (pass (Inside q u) ≡ turn_of rule s v (Between how t)) × Knows rule s b k u.scan × (u.left < t.left)
OnwardIs rule s v b how t None = Unit {0}

-- the last record is put where one is held
abbrev pub LastAs : Option LineRecord → ℕ → EndLines → Rest → List ℕ → Reached → List ℕ → Type 0
LastAs None n how t o r o' = (r ≡ record { n = n; walk = Between how t; over = false }) × (o' ≡ o)
LastAs (Some q) n how t o r o' = (r ≡ record { n = n + 1; walk = Between how (with_held t None); over = true }) × (o' ≡ store o (record_size * n) (record_words q))

pub record LastIs (n : ℕ) (how : EndLines) (t : Rest) (o : List ℕ) (r : Reached) (o' : List ℕ) : Type 0 where
  pub is : LastAs t.held n how t o r o'

-- the walk that stands inside a body, or between two; how it reads end lines its place says there too
abbrev pub walk_at : Bool → Place → Rest → LineWalk
walk_at true p t = Inside p t
walk_at false p t = Between p.how t

abbrev pub stands_at : Stand → LineWalk
stands_at x = walk_at x.inside x.place x.rest

-- from a place of a body, with a held record or none and n records put, over the body's end if the walk is not stuck, and then there is room for another record
pub record BodyPassed (rule : ℕ → Sort) (s : List ℕ) (p : Place) (held : Option LineRecord) (n : ℕ) (o : List ℕ) (r : InBody) (o' : List ℕ) : Type 0 where
  pub size : length o' ≡ length o
  pub turns : (v : List ℕ) (t : Rest)
      → TurnsPut rule s v (length o / record_size) n (Inside p (with_held t held)) o r.n (walk_at r.stuck r.place (with_held t r.held)) o'
  pub room : r.stuck ≡ false → r.n < length o / record_size

-- x is where the walk w stands, n records being put: it is w, or the turn from w leads there
pub record StandOf (rule : ℕ → Sort) (s v : List ℕ) (n : ℕ) (w : LineWalk) (x : Stand) : Type 0 where
  pub short : length s ≤ longest
  pub count : x.n ≡ n
  pub turns : (room : ℕ) (o : List ℕ) → n < room → TurnsPut rule s v room n w o x.n (stands_at x) o

abbrev pub StandingIs : (ℕ → Sort) → List ℕ → List ℕ → ℕ → LineWalk → Option Stand → Type 0
StandingIs rule s v n w (Some x) = StandOf rule s v n w x
StandingIs rule s v n w None = Unit {0}

-- over all slots
pub record StandsFor (rule : ℕ → Sort) (s : List ℕ) (n : ℕ) (w : LineWalk) (r : Option Stand) : Type 0 where
  pub each : (v : List ℕ) → StandingIs rule s v n w r

-- from n records and the walk w to r, the lent words o being o' then
pub record BodiesPut (rule : ℕ → Sort) (s v : List ℕ) (n : ℕ) (w : LineWalk) (o : List ℕ) (r : Reached) (o' : List ℕ) : Type 0 where
  pub size : length o' ≡ length o
  pub turns : TurnsPut rule s v (length o / record_size) n w o r.n r.walk o'
  pub ends : r.over ≡ true → (over ≡ turn_of rule s v r.walk) × (1 ≤ r.n)
  pub exactly : r.over ≡ true → (w₁ : LineWalk) (o₁ : List ℕ) (e : length o₁ / record_size ≡ length o / record_size) (g : UnderWay rule s v w₁ o₁ n w o)
      → (turns.under_way w₁ o₁ e g).last ≡ r.walk

-- why no record comes behind those that are put
abbrev pub told_end : Option Refusal → Answer LineWalk LineRecord Told
told_end None = none
told_end (Some r) = refuses (told r)

-- from n records and the walk w to where turns stopped; `exact` says that this is right behind the last record
pub record StopsAt (rule : ℕ → Sort) (s v : List ℕ) (n : ℕ) (w : LineWalk) (o : List ℕ) (r : Stopped) (o' : List ℕ) : Type 0 where
  pub size : length o' ≡ length o
  pub turns : TurnsPut rule s v (length o / record_size) n w o r.n r.walk o'
  pub exactly : r.exact ≡ true → r.n < length o / record_size → (w₁ : LineWalk) (o₁ : List ℕ) (e : length o₁ / record_size ≡ length o / record_size)
      (g : UnderWay rule s v w₁ o₁ n w o) → (turns.under_way w₁ o₁ e g).last ≡ r.walk
  pub stops : r.n < length o / record_size → told_end r.end ≡ next_of rule s v r.walk
  pub inexact : r.exact ≡ false → r.n < length o / record_size

-- a call from the walk w₀ over the words o₁ is answered by r, and leaves o
pub record FilledBy (rule : ℕ → Sort) (s v : List ℕ) (w₀ : LineWalk) (o₁ : List ℕ) (r : Result (Option (ℕ × LineWalk)) Refusal) (o : List ℕ) : Type 0 where
  pub is : Filled rule s v w₀ o₁ (told_lines r) o

-- every call from the walk w₀ that stands at n records and the walk w, with the words o, and has room, is answered by r, and has the words o' then
pub record Answers (rule : ℕ → Sort) (s v : List ℕ) (w₀ : LineWalk) (n : ℕ) (w : LineWalk) (o : List ℕ) (r : Result (Option (ℕ × LineWalk)) Refusal) (o' : List ℕ) : Type 0 where
  pub filled : (o₁ : List ℕ) → length o₁ ≡ length o → record_size ≤ length o₁ → UnderWay rule s v w₀ o₁ n w o → Filled rule s v w₀ o₁ (told_lines r) o'

-- the records from the walk w₀ on once more, over the words o, which are o' then: w is the walk behind the last where they fill the room
pub record Refilled (rule : ℕ → Sort) (s v : List ℕ) (w₀ : LineWalk) (o : List ℕ) (w : LineWalk) (o' : List ℕ) : Type 0 where
  pub answer : Answer LineWalk ℕ Told
  pub filled : Filled rule s v w₀ o answer o'
  pub full : (n : ℕ) (last : LineWalk) → answer ≡ gives n last → length o / record_size ≤ n → last ≡ w

-- what is told where no record fits, by what there is with room for one
abbrev pub without_room : Answer LineWalk ℕ Told → Answer LineWalk ℕ Told
without_room (gives n w) = refuses (told why.NoRoom)
without_room none = none
without_room (refuses t) = refuses t
