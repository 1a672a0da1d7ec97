-- Where a reading refuses nothing, its subsections are those of the area, in order; and so are the first, the last and all of a kind.
use Rattle.std.specs.Prelude.{ℕ, ◌%◌, List, true, false, length, drop, ltb, eqb}
use Rattle.std.proofs.Math.Path.{◌≡◌, refl, ap}
use Rattle.std.proofs.Common.{◌∙◌, arith, eqb-true}
use Rattle.word.specs.Word.{u32_at}
use Rattle.walk.specs.Cases.{by_cases}
use Rattle.walk.specs.Listing.{Listing, more, ends, fails, mapped, and_then, nothing, spread}
use Rattle.walk.specs.ListingLaws.{Every}
use Rattle.walk.specs.Pick.{failure, first_by, last_by, only, map_reply}
use Rattle.walk.specs.PickMapLaws.{SaysSame, first_of_map, last_of_map, only_of_map}
use Rattle.refusal.specs.Told.{Told}
use Rattle.kinds.specs.Kind.{LINES, FILE_CHECKSUMS, INLINEE_LINES, CROSS_SCOPE_IMPORTS, CROSS_SCOPE_EXPORTS, Sort}
use Rattle.area.specs.Parts.{Raw}
use Rattle.area.specs.Subs.{Sub, subs_from}
use Rattle.area.specs.SubsLaws.{bodied}
use Rattle.find.specs.Find.{same, is}
use Rattle.body.specs.Lines.{line_head_size, line_head, columned, blocks}
use Rattle.body.specs.Checksums.{checksums}
use Rattle.body.specs.Inlinees.{extended, inlinees}
use Rattle.body.specs.Imports.{modules}
use Rattle.body.specs.Exports.{pairs}
use Rattle.reading.specs.Reading.{Item, block, checksum, inlinee, imports, exports, Items, each, lines_items, checksums_items, inlinees_items, imports_items, exports_items, items_of, sub_items, reading, opens}
use Rattle.reading_agrees.specs.Chapters.{opens_as, up_to, chapters, begins}

-- a reading that refuses nothing
abbrev pub Whole : Items → Type 0
Whole l = failure l ≡ nothing

-- an item that opens nothing
abbrev Record : Item → Type 0
Record i = opens i ≡ false

-- ---- what a body is read as: an item that opens a subsection of its kind, and records

abbrev Opened : ℕ → Items → Type 0
Opened k (more i l) = (opens i ≡ true) × ((w : ℕ) → opens_as w i ≡ eqb k w) × Every Record l
Opened k ends = ⊥
Opened k (fails t) = Unit {0}

all_records : {B : Type 0} (f : B → Item) → ((b : B) → Record (f b)) → (l : Listing B Told) → Every Record (each f l)
all_records f h (more b l) = (h b, all_records f h l)
all_records f h ends = tt
all_records f h (fails t) = tt

lines_opened_lem : (b : List ℕ) → Opened LINES (lines_items b)
unfolding lines_items
lines_opened_lem b = by_cases (Opened LINES) (ltb (length b) line_head_size) (λ e. tt)
    (λ e. (refl, (λ w. refl), all_records block (λ x. refl) (blocks (columned (line_head b).flags) (drop line_head_size b))))

inlinees_opened_lem : (b : List ℕ) → Opened INLINEE_LINES (inlinees_items b)
unfolding inlinees_items
inlinees_opened_lem b = by_cases (Opened INLINEE_LINES) (ltb (length b) 4) (λ e. tt)
    (λ e. (refl, (λ w. refl), all_records inlinee (λ x. refl) (inlinees (extended (u32_at b 0)) (drop 4 b))))

exports_opened_lem : (b : List ℕ) → Opened CROSS_SCOPE_EXPORTS (exports_items b)
unfolding exports_items
exports_opened_lem b = by_cases (Opened CROSS_SCOPE_EXPORTS) (eqb (length b % 8) 0) (λ e. (refl, (λ w. refl), all_records exports (λ x. refl) (pairs b)))
    (λ e. tt)

-- of the kind k that the test found
of_kind_lem : (k j : ℕ) (l : Items) → eqb k j ≡ true → Opened j l → Opened k l
of_kind_lem k j l e h = rw (eqb-true k j e) h

opened_items_lem : (r : Raw) → Opened r.kind (items_of r)
unfolding items_of checksums_items imports_items
opened_items_lem r =
    by_cases P (eqb k LINES) (λ e. of_kind_lem k LINES (lines_items b) e (lines_opened_lem b))
    (λ e. by_cases P (eqb k FILE_CHECKSUMS) (λ e. of_kind_lem k FILE_CHECKSUMS (checksums_items b) e
    (refl, (λ w. refl), all_records checksum (λ x. refl) (checksums b)))
    (λ e. by_cases P (eqb k INLINEE_LINES) (λ e. of_kind_lem k INLINEE_LINES (inlinees_items b) e (inlinees_opened_lem b))
    (λ e. by_cases P (eqb k CROSS_SCOPE_IMPORTS) (λ e. of_kind_lem k CROSS_SCOPE_IMPORTS (imports_items b) e
    (refl, (λ w. refl), all_records imports (λ x. refl) (modules b)))
    (λ e. by_cases P (eqb k CROSS_SCOPE_EXPORTS) (λ e. of_kind_lem k CROSS_SCOPE_EXPORTS (exports_items b) e (exports_opened_lem b))
    (λ e. (refl, (λ w. refl), tt))))))
  where
    k : ℕ
    k = r.kind

    b : List ℕ
    b = r.body

    P : Items → Type 0
    P = Opened k

-- ---- the subsections of a reading, one behind the other

-- a listing that is whole is so in both parts
pub whole_left : (k l : Items) → Whole (and_then k l) → Whole k
unfolding failure
whole_left (more i k) l h = whole_left k l h
whole_left ends l h = refl
whole_left (fails t) l h = h

pub whole_right : (k l : Items) → Whole (and_then k l) → Whole l
unfolding failure
whole_right (more i k) l h = whole_right k l h
whole_right ends l h = h
whole_right (fails t) l h = let z : ◌≡◌ {A = ℕ} 0 1 = cc in absurd (omega arith)

-- records before l belong to the item before them, and open nothing
past_records : (k l : Items) → Every Record k → Whole k → chapters (and_then k l) ≡ chapters l
unfolding chapters failure
past_records (more i k) l r h = rw r.0 (past_records k l r.1 h)
past_records ends l r h = refl
past_records (fails t) l r h = let z : ◌≡◌ {A = ℕ} 0 1 = cc in absurd (omega arith)

up_to_records : (k l : Items) → Every Record k → Whole k → up_to l ≡ ends → up_to (and_then k l) ≡ k
unfolding up_to failure
up_to_records (more i k) l r h e = rw r.0 (ap (more i) (up_to_records k l r.1 h e))
up_to_records ends l r h e = e
up_to_records (fails t) l r h e = let z : ◌≡◌ {A = ℕ} 0 1 = cc in absurd (omega arith)

one_more : (k : ℕ) (m l : Items) → Opened k m → Whole m → up_to l ≡ ends → chapters (and_then m l) ≡ more m (chapters l)
unfolding chapters failure
one_more k (more i m) l o h e = rw o.0 (λ j. more (more i (up_to_records m l o.2 h e j)) (past_records m l o.2 h j))
one_more k ends l o h e = absurd o
one_more k (fails t) l o h e = let z : ◌≡◌ {A = ℕ} 0 1 = cc in absurd (omega arith)

starts : (k : ℕ) (m l : Items) → Opened k m → Whole m → up_to (and_then m l) ≡ ends
unfolding up_to failure
starts k (more i m) l o h = rw o.0
starts k ends l o h = absurd o
starts k (fails t) l o h = let z : ◌≡◌ {A = ℕ} 0 1 = cc in absurd (omega arith)

module _ (s : List ℕ) where
  abbrev items : Sub → Items
  items = sub_items s

  begin : (l : Listing Sub Told) → Whole (spread items l) → up_to (spread items l) ≡ ends
  unfolding up_to failure
  begin (more b l) h =
      starts b.kind (items b) (spread items l) (opened_items_lem (bodied s b)) (whole_left (items b) (spread items l) h)
  begin ends h = refl
  begin (fails t) h = let z : ◌≡◌ {A = ℕ} 0 1 = cc in absurd (omega arith)

  each_chapter : (l : Listing Sub Told) → Whole (spread items l) → chapters (spread items l) ≡ mapped items same l
  unfolding chapters failure
  each_chapter (more b l) h =
      let r = whole_right (items b) (spread items l) h in
      one_more b.kind (items b) (spread items l) (opened_items_lem (bodied s b)) (whole_left (items b) (spread items l) h) (begin l r)
      ∙ ap (more (items b)) (each_chapter l r)
  each_chapter ends h = refl
  each_chapter (fails t) h = refl

  -- what each subsection begins with
  begins_kind : (w k : ℕ) (m : Items) → Opened k m → Whole m → begins w m ≡ eqb k w
  unfolding failure
  begins_kind w k (more i m) o h = o.1 w
  begins_kind w k ends o h = absurd o
  begins_kind w k (fails t) o h = let z : ◌≡◌ {A = ℕ} 0 1 = cc in absurd (omega arith)

  each_kind : (w : ℕ) (l : Listing Sub Told) → Whole (spread items l) → Every (SaysSame items (begins w) (is w)) l
  unfolding failure
  each_kind w (more b l) h = (
    begins_kind w b.kind (items b) (opened_items_lem (bodied s b)) (whole_left (items b) (spread items l) h),
    each_kind w l (whole_right (items b) (spread items l) h),
  )
  each_kind w ends h = tt
  each_kind w (fails t) h = tt

-- THE THEOREMS, where the reading refuses nothing
module _ (rule : ℕ → Sort) (s : List ℕ) (h : Whole (reading rule s)) where
  abbrev subs : Listing Sub Told
  subs = subs_from rule s 0

  pub spreads : Whole (spread (items s) subs)
  unfolding reading
  spreads = h

  -- the subsections of the reading are those of the area
  pub chapters_are : chapters (reading rule s) ≡ mapped (items s) same subs
  unfolding reading
  chapters_are = each_chapter s subs spreads

  -- so are the first, the last and all of a kind
  pub first_chapter : (w : ℕ) → first_by (begins w) (chapters (reading rule s)) ≡ map_reply (items s) same (first_by (is w) subs)
  first_chapter w = ap (first_by (begins w)) chapters_are ∙ first_of_map (items s) (begins w) (is w) subs (each_kind s w subs spreads)

  pub last_chapter : (w : ℕ) → last_by (begins w) (chapters (reading rule s)) ≡ map_reply (items s) same (last_by (is w) subs)
  last_chapter w = ap (last_by (begins w)) chapters_are ∙ last_of_map (items s) (begins w) (is w) subs (each_kind s w subs spreads)

  pub only_chapters : (w : ℕ) → only (begins w) (chapters (reading rule s)) ≡ mapped (items s) same (only (is w) subs)
  only_chapters w = ap (only (begins w)) chapters_are ∙ only_of_map (items s) (begins w) (is w) subs (each_kind s w subs spreads)
