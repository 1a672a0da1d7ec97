-- The walk by items: from each state on, the items that are left; n calls are answered as these ask.
use Prim.Native.Nat.{ℕ, ◌+◌, ◌%◌, ◌≤◌, ◌<◌}
use Rattle.std.specs.Prelude.{◌≡◌, length, drop, ltb, eqb}
use Rattle.std.proofs.Math.Path.{refl}
use Rattle.std.proofs.Common.{sym, ap, ◌∙◌, ⊎_elim, arith, length-drop, length-take-le}
use mathlib.Core.List.{List}
use Rattle.std.proofs.Math.ListN.{take}
use Rattle.walk.specs.Cases.{by_cases, le_or_gt}
use Rattle.walk.specs.Listing.{Listing, more, ends, fails, and_then, on_move, moved, Answer, gives, none, refuses, Reply, gave, nothing, refused, calls, replies}
use Rattle.walk.specs.ListingLaws.{calls_are}
use Rattle.walk.specs.Listing.{spread}
use Rattle.refusal.specs.Told.{Told, told, longest}
use Rattle.refusal.specs.declared.Refusal.TheVariants as why
use Rattle.kinds.specs.Kind.{LINES, FILE_CHECKSUMS, INLINEE_LINES, CROSS_SCOPE_IMPORTS, CROSS_SCOPE_EXPORTS, Sort}
use Rattle.area.specs.Subs.{Sub, subs_from, first_of}
use Rattle.area.specs.SubsLaws.{Chained, subs_chained, subs_long}
use Rattle.body.specs.Lines.{line_head_size}
use Rattle.table.specs.Table.{Place, spot_in}
use Rattle.table.specs.TableLaws.{spot_inside, Inside, in_inside}
use Rattle.reading_record.specs.Item.{ToldItem}
use Rattle.reading_record.specs.Record.{ItemAnswer, record_at}
use Rattle.reading_record.proofs.RecordsLaws.{records_from, records_step}
use Rattle.reading_record.specs.declared.ItemWalk.{ItemWalk}
use Rattle.reading_record.specs.declared.ItemWalk.TheVariants as walk
use Rattle.reading_record.specs.declared.TypedBody.{TypedBody}
use Rattle.reading_walk.specs.Step.{lines_opened, inlinees_opened, exports_opened, opened, open_sub, open_step, or_open, record_step, in_body, item_step}

-- a subsection's answer leads into its body, or behind it
abbrev Leads : ℕ → ℕ → ℕ → ItemWalk → Type 0
Leads start len end (walk.Between p) = p ≡ end
Leads start len end (walk.In k a n at) = (a ≡ start) × (n ≡ len)

abbrev Opens : ℕ → ℕ → ℕ → ItemAnswer → Type 0
Opens start len end (gives i w) = Leads start len end w
Opens start len end none = ⊥
Opens start len end (refuses t) = Unit {0}

lines_leads : (b : List ℕ) (start end : ℕ) → Opens start (length b) end (lines_opened b start)
unfolding lines_opened
lines_leads b start end = by_cases (Opens start (length b) end) (ltb (length b) line_head_size) (λ e. tt) (λ e. (refl, refl))

inlinees_leads : (b : List ℕ) (start end : ℕ) → Opens start (length b) end (inlinees_opened b start)
unfolding inlinees_opened
inlinees_leads b start end = by_cases (Opens start (length b) end) (ltb (length b) 4) (λ e. tt) (λ e. (refl, refl))

exports_leads : (b : List ℕ) (start end : ℕ) → Opens start (length b) end (exports_opened b start)
unfolding exports_opened
exports_leads b start end = by_cases (Opens start (length b) end) (eqb (length b % 8) 0) (λ e. (refl, refl)) (λ e. tt)

opened_leads : (b : List ℕ) (kind start end : ℕ) → Opens start (length b) end (opened b kind start end)
unfolding opened
opened_leads b kind start end =
    by_cases P (eqb kind LINES) (λ e. lines_leads b start end)
    (λ e. by_cases P (eqb kind FILE_CHECKSUMS) (λ e. (refl, refl))
    (λ e. by_cases P (eqb kind INLINEE_LINES) (λ e. inlinees_leads b start end)
    (λ e. by_cases P (eqb kind CROSS_SCOPE_IMPORTS) (λ e. (refl, refl))
    (λ e. by_cases P (eqb kind CROSS_SCOPE_EXPORTS) (λ e. exports_leads b start end) (λ e. refl)))))
  where
    P : ItemAnswer → Type 0
    P = Opens start (length b) end

module _ (rule : ℕ → Sort) (s : List ℕ) where
  -- the records that are left of the body that a state is in
  abbrev pub behind : ItemWalk → Listing ToldItem Told
  behind (walk.Between p) = ends
  behind (walk.In k start len at) = records_from k (take len (drop start s)) start at

  -- an answer that opens a subsection, and the records behind it
  abbrev pub opened_items : ItemAnswer → Listing ToldItem Told
  opened_items (gives i w) = more i (behind w)
  opened_items none = ends
  opened_items (refuses t) = fails t

  -- all items of a subsection, and of all subsections from a place on
  abbrev pub items_at : Sub → Listing ToldItem Told
  items_at b = opened_items (opened (take b.len (drop b.start s)) b.kind b.start (b.start + b.len))

  abbrev pub from_subs : ℕ → Listing ToldItem Told
  from_subs p = spread items_at (subs_from rule s p)

  -- the rest of a body, and what is behind it
  abbrev pub from_place : TypedBody → Reply Place Told → Listing ToldItem Told
  from_place k (gave q) = and_then (records_from k (take q.len (drop q.start s)) q.start q.at) (from_subs (q.start + q.len))
  from_place k nothing = ends
  from_place k (refused t) = fails t

  -- the items that are left at a state
  abbrev pub from : ItemWalk → Listing ToldItem Told
  from (walk.Between p) = from_subs p
  from (walk.In k start len at) = from_place k (spot_in s start len at)

  -- ---- a step from a state is its first item, and the items that are left behind it

  leads_from : (start len : ℕ) → start + len ≤ length s → length s ≤ longest → (w : ItemWalk) → Leads start len (start + len) w
      → and_then (behind w) (from_subs (start + len)) ≡ from w
  leads_from start len h m (walk.Between p) e = ap from_subs (sym e)
  leads_from start len h m (walk.In k a n at) e =
      let q : a + n ≡ start + len = omega arith in
      ap (λ (x : ℕ). and_then (records_from k (take n (drop a s)) a at) (from_subs x)) (sym q)
      ∙ ap (from_place k) (spot_inside s a n at m (omega arith))

  opens_from : (start len : ℕ) → start + len ≤ length s → length s ≤ longest → (a : ItemAnswer) → Opens start len (start + len) a
      → and_then (opened_items a) (from_subs (start + len)) ≡ on_move from (moved a)
  opens_from start len h m (gives i w) e = ap (more i) (leads_from start len h m w e)
  opens_from start len h m none e = absurd e
  opens_from start len h m (refuses t) e = refl

  -- an area in which a subsection was found is not too long
  short : (p : ℕ) (b : Sub) (l : Listing Sub Told) → subs_from rule s p ≡ more b l → length s ≤ longest
  short p b l e =
      ⊎_elim (λ (m : length s ≤ longest). m)
      (λ (m : longest < length s). let q : fails (told why.TooLong) ≡ more b l = sym (subs_long rule s p m) ∙ e in let z : ◌≡◌ {A = ℕ} 0 1 = cc in absurd (omega arith))
      (le_or_gt (length s) longest)

  subs_right : (p : ℕ) (l : Listing Sub Told) → subs_from rule s p ≡ l → Chained rule s p l → spread items_at l ≡ on_move from (moved (open_sub s (first_of l)))
  subs_right p (more b l) e w =
      let body : List ℕ = take b.len (drop b.start s) in
      let n : length body ≡ b.len = length-take-le b.len (drop b.start s) (omega (arith, length-drop b.start s)) in
      let o : Opens b.start b.len (b.start + b.len) (opened body b.kind b.start (b.start + b.len))
      = rw n at (opened_leads body b.kind b.start (b.start + b.len)) in
      ap (λ (x : Listing Sub Told). and_then (items_at b) (spread items_at x)) w.0
      ∙ opens_from b.start b.len w.2 (short p b l e) (opened body b.kind b.start (b.start + b.len)) o
  subs_right p ends e w = refl
  subs_right p (fails t) e w = refl

  between_right : (p : ℕ) → from_subs p ≡ on_move from (moved (open_step rule s p))
  between_right p = subs_right p (subs_from rule s p) refl (subs_chained rule s p)

  records_right : (k : TypedBody) (start len : ℕ) → start + len ≤ length s → length s ≤ longest → (l : Listing ToldItem Told) (a : Answer ℕ ToldItem Told)
      → l ≡ on_move (records_from k (take len (drop start s)) start) (moved a)
      → and_then l (from_subs (start + len)) ≡ on_move from (moved (or_open rule s k start len a))
  records_right k start len h m l (gives i x) e =
      ap (λ (y : Listing ToldItem Told). and_then y (from_subs (start + len))) e
      ∙ ap (more i) (ap (from_place k) (spot_inside s start len x m h))
  records_right k start len h m l none e = ap (λ (y : Listing ToldItem Told). and_then y (from_subs (start + len))) e ∙ between_right (start + len)
  records_right k start len h m l (refuses t) e = ap (λ (y : Listing ToldItem Told). and_then y (from_subs (start + len))) e

  place_right : (k : TypedBody) (x : Reply Place Told) → Inside s x → from_place k x ≡ on_move from (moved (in_body rule s k x))
  unfolding record_step
  place_right k (gave q) h =
      let b : List ℕ = take q.len (drop q.start s) in
      records_right k q.start q.len h.0 h.1 (records_from k b q.start q.at) (record_at k b q.start q.at) (records_step k b q.start q.at)
  place_right k nothing h = refl
  place_right k (refused t) h = refl

  pub from_right : (w : ItemWalk) → from w ≡ on_move from (moved (item_step rule s w))
  from_right (walk.Between p) = between_right p
  from_right (walk.In k start len at) = place_right k (spot_in s start len at) (in_inside s start len at)

  -- THE WALK from every state on, also from one that no step handed on: n steps answer the items that are left in order, and then the end, or the
  -- same refusal, again and again
  pub items_are : (n : ℕ) (w : ItemWalk) → calls (item_step rule s) n w ≡ replies n (from w)
  items_are = calls_are (item_step rule s) from from_right
