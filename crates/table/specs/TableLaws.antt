-- Laws of tables: where a spot lies, and that a walk's answers, taken until it ends, are the whole table.
use Rattle.std.specs.Prelude.{ℕ, ◌+◌, ◌≤◌, ◌<◌, ◌≡◌, refl, List, length, take, drop, ltb, ◌⊎◌}
use Rattle.std.proofs.Common.{sym, ap, ◌∙◌, ltb-false, ⊎_elim}
use Rattle.std.proofs.Math.Path.{subst⁻¹}
use Rattle.walk.specs.Cases.{tests, by_cases, le_or_gt}
use Rattle.walk.specs.Listing.{Listing, more, ends, fails, mapped, on_move, moved, Answer, gives, none, refuses, Reply, gave, nothing, refused, calls, replies}
use Rattle.walk.specs.ListingLaws.{calls_are}
use Rattle.walk.specs.Pick.{first_by, last_by, map_reply}
use Rattle.walk.specs.PickLaws.{Gives}
use Rattle.refusal.specs.Told.{Told, told, longest}
use Rattle.refusal.specs.declared.Refusal.TheVariants as why
use Rattle.kinds.specs.Kind.{Sort}
use Rattle.area.specs.Subs.{Sub, subs_from}
use Rattle.area.specs.SubsLaws.{subs_long}
use Rattle.find.specs.Find.{same, Span, is, span_of, first_sub, last_sub}
use Rattle.find.specs.FindLaws.{first_in_lem, last_in}
use Rattle.table.specs.Table.{Place, spot_new, spot_in, spot_of, shifted, read_at, table_step, table_of}
use Rattle.table.specs.declared.TableWalk.{TableWalk}
use Rattle.table.specs.declared.TableWalk.TheVariants as walk

-- ---- the tests of `spot_in`

module _ (s : List ℕ) (start len at : ℕ) where
  pub spot_long : longest < length s → refused (told why.TooLong) ≡ spot_in s start len at
  unfolding spot_in
  spot_long h = simp tests

  module _ (h₀ : length s ≤ longest) where
    pub spot_past : length s < start + len → refused (told why.Cut) ≡ spot_in s start len at
    unfolding spot_in
    spot_past h = simp tests

    pub spot_inside : start + len ≤ length s → gave (record { start = start; len = len; at = at }) ≡ spot_in s start len at
    unfolding spot_in
    spot_inside h = simp tests

-- ---- a finder f of an area s: what it gives lies in an area that is not too long

abbrev pub Finds : List ℕ → Reply Span Told → Type 0
Finds s f = Gives (λ (a : Span). (a.start + a.len ≤ length s) × (length s ≤ longest)) f

abbrev pub Inside : List ℕ → Reply Place Told → Type 0
Inside s = Gives (λ (q : Place). (q.start + q.len ≤ length s) × (length s ≤ longest))

new_inside : (s : List ℕ) (f : Reply Span Told) → Finds s f → Inside s (spot_new f)
new_inside s (gave a) h = h
new_inside s nothing h = tt
new_inside s (refused t) h = tt

pub in_inside : (s : List ℕ) (start len at : ℕ) → Inside s (spot_in s start len at)
unfolding spot_in
in_inside s start len at =
    by_cases (Inside s) (ltb longest (length s)) (λ d. tt)
    (λ d. by_cases (Inside s) (ltb (length s) (start + len)) (λ e. tt) (λ e. (ltb-false (length s) (start + len) e, ltb-false longest (length s) d)))

pub spot_lies : (s : List ℕ) (f : Reply Span Told) → Finds s f → (w : TableWalk) → Inside s (spot_of f s w)
spot_lies s f h walk.New = new_inside s f h
spot_lies s f h (walk.In start len at) = in_inside s start len at

-- ---- the walk is the table

module _ {B C : Type 0} (step : List ℕ → ℕ → Answer ℕ B Told) (show : ℕ → B → C) (list : List ℕ → ℕ → Listing B Told)
    (right : (b : List ℕ) (p : ℕ) → list b p ≡ on_move (list b) (moved (step b p))) (s : List ℕ) (f : Reply Span Told) (finds : Finds s f) where
  -- the records from a state on
  abbrev pub from_place : Reply Place Told → Listing C Told
  from_place (gave q) = mapped (show q.start) same (list (take q.len (drop q.start s)) q.at)
  from_place nothing = ends
  from_place (refused t) = fails t

  abbrev pub from : TableWalk → Listing C Told
  from w = from_place (spot_of f s w)

  onward : (q : Place) → (q.start + q.len ≤ length s) × (length s ≤ longest) → (l : Listing B Told) (a : Answer ℕ B Told)
      → l ≡ on_move (list (take q.len (drop q.start s))) (moved a)
      → mapped (show q.start) same l ≡ on_move from (moved (shifted show q.start q.len a))
  onward q h l (gives b x) e =
      let n : gave (record { start = q.start; len = q.len; at = x }) ≡ spot_in s q.start q.len x = spot_inside s q.start q.len x h.1 h.0 in
      ap (mapped (show q.start) same) e ∙ ap (more (show q.start b)) (ap from_place n)
  onward q h l none e = ap (mapped (show q.start) same) e
  onward q h l (refuses t) e = ap (mapped (show q.start) same) e

  from_step : (x : Reply Place Told) → Inside s x → from_place x ≡ on_move from (moved (read_at step show s x))
  from_step (gave q) h =
      onward q h (list (take q.len (drop q.start s)) q.at) (step (take q.len (drop q.start s)) q.at) (right (take q.len (drop q.start s)) q.at)
  from_step nothing h = refl
  from_step (refused t) h = refl

  -- n steps from a state on are answered as the records from there on ask: so none is lost, and an end or a refusal is answered again
  pub table_from : (n : ℕ) (w : TableWalk) → calls (table_step step show f s) n w ≡ replies n (from w)
  table_from = calls_are (table_step step show f s) from (λ w. from_step (spot_of f s w) (spot_lies s f finds w))

  whole : (x : Reply Span Told) → from_place (spot_new x) ≡ table_of (λ (b : List ℕ). list b 0) show s x
  whole (gave a) = refl
  whole nothing = refl
  whole (refused t) = refl

  -- THE THEOREM: a new walk's answers, taken until it ends, are the whole table
  pub table_walk_lem : (n : ℕ) → calls (table_step step show f s) n walk.New ≡ replies n (table_of (λ (b : List ℕ). list b 0) show s f)
  table_walk_lem n = table_from n walk.New ∙ ap (replies n) (whole f)

-- ---- the two ways of a spot, as the code comes to it: f is the finder's answer, g what the code was given of it

module _ (f : Reply Span Told) (s : List ℕ) (w : TableWalk) (x : Reply Place Told) where
  pub spot_new_is : (g : Reply Span Told) → w ≡ walk.New → g ≡ f → x ≡ spot_new g → x ≡ spot_of f s w
  spot_new_is g e q r = r ∙ ap spot_new q ∙ ap (spot_of f s) (sym e)

  pub spot_in_is : (start len at : ℕ) → w ≡ walk.In start len at → x ≡ spot_in s start len at → x ≡ spot_of f s w
  spot_in_is start len at e r = r ∙ ap (spot_of f s) (sym e)

-- ---- the finders of `find`

long_fails : (rule : ℕ → Sort) (s : List ℕ) → longest < length s → (g : Listing Sub Told → Reply Sub Told)
    → ((t : Told) → g (fails t) ≡ refused t) → Finds s (map_reply span_of same (g (subs_from rule s 0)))
long_fails rule s h g e =
    subst⁻¹ (λ (l : Listing Sub Told). Finds s (map_reply span_of same (g l))) (subs_long rule s 0 h)
    (subst⁻¹ (λ (x : Reply Sub Told). Finds s (map_reply span_of same x)) (e (told why.TooLong)) tt)

finds_from : (s : List ℕ) (f : Reply Span Told) → length s ≤ longest → ((a : Span) → gave a ≡ f → a.start + a.len ≤ length s) → Finds s f
finds_from s (gave a) m h = (h a refl, m)
finds_from s nothing m h = tt
finds_from s (refused t) m h = tt

pub first_finds : (rule : ℕ → Sort) (w : ℕ) (s : List ℕ) → Finds s (first_sub rule w s)
unfolding first_by
first_finds rule w s =
    ⊎_elim (λ (m : length s ≤ longest). finds_from s (first_sub rule w s) m (first_in_lem rule w s))
    (λ (m : longest < length s). long_fails rule s m (first_by (is w)) (λ t. refl)) (le_or_gt (length s) longest)

pub last_finds : (rule : ℕ → Sort) (w : ℕ) (s : List ℕ) → Finds s (last_sub rule w s)
unfolding last_by
last_finds rule w s =
    ⊎_elim (λ (m : length s ≤ longest). finds_from s (last_sub rule w s) m (last_in rule w s))
    (λ (m : longest < length s). long_fails rule s m (last_by (is w)) (λ t. refl)) (le_or_gt (length s) longest)
