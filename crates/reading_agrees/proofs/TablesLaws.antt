-- The full reading and the calls on a whole area: where the reading refuses nothing, the records that such a call lists are those of the
-- subsection in the reading that it is about.
use Prim.Native.Nat.{ℕ, ◌%◌, ◌≤◌}
use Rattle.std.proofs.Math.Path.{◌≡◌, refl, ap}
use Rattle.std.proofs.Common.{sym, ◌∙◌, arith, length-drop, length-take-le}
use Rattle.std.specs.Prelude.{List, map, Bool, take, drop, ltb, eqb}
use Rattle.std.proofs.Math.Bool.{true, false, cond}
use Rattle.std.proofs.Math.ListN.{length}
use borrow.Author.Tests.{eqb-true, ltb-false, le-ltb}
use Rattle.walk.specs.Cases.{by_cases, both_ways}
use Rattle.walk.specs.Listing.{Listing, more, ends, fails, mapped, before, Reply, gave, nothing, refused, spread}
use Rattle.walk.specs.ListingLaws.{Every}
use Rattle.walk.specs.Pick.{failure, first_by, last_by, only, or_else, map_reply, on_gave}
use Rattle.walk.specs.PickLaws.{Gives, failure_only}
use Rattle.refusal.specs.Told.{Told}
use Rattle.kinds.specs.Kind.{LINES, FILE_CHECKSUMS, INLINEE_LINES, CROSS_SCOPE_IMPORTS, CROSS_SCOPE_EXPORTS, Sort}
use Rattle.area.specs.Subs.{Sub, subs_from}
use Rattle.area.specs.SubsLaws.{Inside, subs_inside}
use Rattle.find.specs.Find.{same, Span, is, span_of, first_sub, last_sub, bytes_at, first_bytes, last_bytes}
use Rattle.table.specs.Table.{table_of, of_body}
use Rattle.table.specs.CollectLaws.{mapped_same, mapped_mapped}
use Rattle.body.specs.Lines.{line_head_size, line_head, columned, blocks}
use Rattle.body.specs.Checksums.{checksums}
use Rattle.body.specs.Imports.{modules}
use Rattle.body.specs.Exports.{pairs}
use Rattle.exports.specs.Exports.{pairs_of}
use Rattle.imports.specs.Imports.{module_of, imports_of}
use Rattle.imports.specs.ImportsLaws.{imports_words}
use Rattle.inlinees.specs.Inlinees.{inlinee_spelt, inlinees_in, inlinees_of}
use Rattle.inlinees.specs.InlineesLaws.{inlinees_mean}
use Rattle.checksums.specs.Entry.{shown}
use Rattle.files.specs.Files.{files_sub, files_in}
use Rattle.files.specs.Files as file
use Rattle.files.proofs.FilesLaws.{files_mean}
use Rattle.lines.specs.Lines.{Body, headed, lines_from, plus, count_of}
use Rattle.body_list.specs.BodyList.{listed}
use Rattle.order.specs.Order.{body_of, line_bodies}
use Rattle.order.specs.BuiltLaws.{map_map}
use Rattle.reading.specs.Reading.{Item, open_lines, block, checksum, inlinee, imports, exports, Items, each, lines_items, checksums_items, inlinees_items, imports_items, exports_items, items_of, sub_items, reading}
use Rattle.reading_agrees.specs.Chapters.{chapters, begins, records, records_in, dropped}
use Rattle.reading_agrees.proofs.ChaptersLaws.{Whole, first_chapter, last_chapter, only_chapters, whole_left, whole_right, spreads}

-- ---- what is picked passes the test

abbrev pub Passes : {B : Type 0} → (B → Bool) → B → Type 0
Passes f b = f b ≡ true

module _ {B R : Type 0} (f : B → Bool) where
  pub first_passes : (l : Listing B R) → Gives (Passes f) (first_by f l)
  unfolding first_by
  first_passes (more b l) = by_cases (Gives (Passes f)) (f b) (λ e. e) (λ e. first_passes l)
  first_passes ends = tt
  first_passes (fails r) = tt

  or_passes : (x y : Reply B R) → Gives (Passes f) x → Gives (Passes f) y → Gives (Passes f) (or_else x y)
  or_passes (gave b) y p q = p
  or_passes nothing y p q = q
  or_passes (refused r) y p q = tt

  last_passes : (l : Listing B R) → Gives (Passes f) (last_by f l)
  unfolding last_by
  last_passes (more b l) = or_passes (last_by f l) (cond (f b) (gave b) nothing) (last_passes l) (by_cases (Gives (Passes f)) (f b) (λ e. e) (λ e. tt))
  last_passes ends = tt
  last_passes (fails r) = tt

-- ---- the records of a body of kind w, as g has them

module _ (rule : ℕ → Sort) (s : List ℕ) (w : ℕ) (g : List ℕ → Items) (right : (b : List ℕ) → records (items_of (record { kind = w; body = b })) ≡ g b) where
  picked : (x : Reply Sub Told) → Gives (Passes (is w)) x
      → records_in (map_reply (sub_items s) same x) ≡ of_body g (map_reply (bytes_at s) same (map_reply span_of same x))
  picked (gave b) e =
      let body : List ℕ = take b.len (drop b.start s) in
      ap (λ (k : ℕ). records (items_of (record { kind = k; body = body }))) (eqb-true b.kind w e) ∙ right body
  picked nothing e = refl
  picked (refused t) e = refl

  module _ (h : Whole (reading rule s)) where
    first_records : records_in (first_by (begins w) (chapters (reading rule s))) ≡ of_body g (first_bytes rule w s)
    first_records = ap records_in (first_chapter rule s h w) ∙ picked (first_by (is w) (subs_from rule s 0)) (first_passes (is w) (subs_from rule s 0))

    last_records : records_in (last_by (begins w) (chapters (reading rule s))) ≡ of_body g (last_bytes rule w s)
    last_records = ap records_in (last_chapter rule s h w) ∙ picked (last_by (is w) (subs_from rule s 0)) (last_passes (is w) (subs_from rule s 0))

exports_right : (b : List ℕ) → records (items_of (record { kind = CROSS_SCOPE_EXPORTS; body = b })) ≡ each exports (pairs b)
unfolding items_of exports_items pairs
exports_right b =
    both_ways records (eqb (length b % 8) 0) (λ e. rw e) (λ e. refl) ∙ sym (both_ways (each exports) (eqb (length b % 8) 0) (λ e. refl) (λ e. refl))

imports_right : (b : List ℕ) → records (items_of (record { kind = CROSS_SCOPE_IMPORTS; body = b })) ≡ each imports (modules b)
unfolding items_of imports_items
imports_right b = refl

inlinees_right : (b : List ℕ) → records (items_of (record { kind = INLINEE_LINES; body = b })) ≡ each inlinee (inlinees_of b)
unfolding items_of inlinees_items inlinees_of
inlinees_right b =
    both_ways records (ltb (length b) 4) (λ e. refl) (λ e. refl) ∙ sym (both_ways (each inlinee) (ltb (length b) 4) (λ e. refl) (λ e. refl))

checksums_right : (b : List ℕ) → records (items_of (record { kind = FILE_CHECKSUMS; body = b })) ≡ each checksum (checksums b)
unfolding items_of checksums_items
checksums_right b = refl

-- a table of a body's records as they are
as_items : {B : Type 0} (f : B → Item) (list : List ℕ → Listing B Told) (s : List ℕ) (x : Reply Span Told)
    → of_body (λ (b : List ℕ). each f (list b)) (map_reply (bytes_at s) same x) ≡ each f (table_of list (λ (_ : ℕ) (b : B). b) s x)
as_items f list s (gave a) = ap (each f) (sym (mapped_same (list (bytes_at s a))))
as_items f list s nothing = refl
as_items f list s (refused t) = refl

of_body_lem : {B C : Type 0} (f : B → C) (list : List ℕ → Listing B Told) (x : Reply (List ℕ) Told)
    → of_body (λ (b : List ℕ). mapped f same (list b)) x ≡ mapped f same (of_body list x)
of_body_lem f list (gave b) = refl
of_body_lem f list nothing = refl
of_body_lem f list (refused t) = refl

-- ---- THE THEOREMS

-- what a line body that has its header is read as
abbrev pub line_items : List ℕ → Items
line_items b = more (open_lines (line_head b)) (each block (blocks (columned (line_head b).flags) (drop line_head_size b)))

module _ (rule : ℕ → Sort) (s : List ℕ) (h : Whole (reading rule s)) where
  -- the pairs that exports are made of are the records of the first export subsection
  pub exports_agree : records_in (first_by (begins CROSS_SCOPE_EXPORTS) (chapters (reading rule s))) ≡ each exports (pairs_of rule s)
  exports_agree = first_records rule s CROSS_SCOPE_EXPORTS (λ (b : List ℕ). each exports (pairs b)) exports_right h
      ∙ as_items exports pairs s (first_sub rule CROSS_SCOPE_EXPORTS s)

  -- the imports, with their words, are those of the first import subsection
  pub imports_agree : records_in (first_by (begins CROSS_SCOPE_IMPORTS) (chapters (reading rule s)))
      ≡ each imports (mapped (module_of s) same (imports_of rule s))
  imports_agree =
      first_records rule s CROSS_SCOPE_IMPORTS (λ (b : List ℕ). each imports (modules b)) imports_right h
      ∙ as_items imports modules s (first_sub rule CROSS_SCOPE_IMPORTS s)
      ∙ ap (each imports) (sym (imports_words rule s))

  -- the inlinees, with their extra files, are those of the first inlinee subsection
  pub inlinees_agree : records_in (first_by (begins INLINEE_LINES) (chapters (reading rule s)))
      ≡ each inlinee (mapped (inlinee_spelt s) same (inlinees_in rule s))
  inlinees_agree =
      first_records rule s INLINEE_LINES (λ (b : List ℕ). each inlinee (inlinees_of b)) inlinees_right h
      ∙ of_body_lem inlinee inlinees_of (first_bytes rule INLINEE_LINES s)
      ∙ ap (each inlinee) (sym (inlinees_mean rule s))

  -- ---- line subsections: none has a short header

  abbrev items : Sub → Items
  items = sub_items s

  abbrev Headed : Sub → Type 0
  Headed b = is LINES b ≡ true → line_head_size ≤ b.len

  whole_head : (b : List ℕ) → Whole (lines_items b) → line_head_size ≤ length b
  unfolding lines_items failure
  whole_head b =
      by_cases (λ (l : Items). Whole l → line_head_size ≤ length b) (ltb (length b) line_head_size)
      (λ e q. let z : ◌≡◌ {A = ℕ} 0 1 = cc in absurd (omega arith)) (λ e q. ltb-false (length b) line_head_size e)

  lines_right : (k : ℕ) (b : List ℕ) → eqb k LINES ≡ true → items_of (record { kind = k; body = b }) ≡ lines_items b
  unfolding items_of
  lines_right k b e = rw e

  sub_headed : (b : Sub) → Inside (length s) b → Whole (items b) → Headed b
  sub_headed b i q e =
      let body : List ℕ = take b.len (drop b.start s) in
      let n : length body ≡ b.len = length-take-le b.len (drop b.start s) (omega (arith, length-drop b.start s)) in
      omega (arith, whole_head body (ap failure (sym (lines_right b.kind body e)) ∙ q))

  each_headed : (l : Listing Sub Told) → Every (Inside (length s)) l → Whole (spread items l) → Every Headed l
  each_headed (more b l) i q =
      (sub_headed b i.0 (whole_left (items b) (spread items l) q), each_headed l i.1 (whole_right (items b) (spread items l) q))
  each_headed ends i q = tt
  each_headed (fails t) i q = tt

  all_headed : (l : Listing Sub Told) → Every Headed l → headed (only (is LINES) l) ≡ only (is LINES) l
  unfolding headed only
  all_headed (more b l) q = go (is LINES b) q.0 (all_headed l q.1)
    where
      go : (t : Bool) → (t ≡ true → line_head_size ≤ b.len) → headed (only (is LINES) l) ≡ only (is LINES) l
          → headed (cond t (more b (only (is LINES) l)) (only (is LINES) l)) ≡ cond t (more b (only (is LINES) l)) (only (is LINES) l)
      go true f e = rw (le-ltb b.len line_head_size (f refl)) (ap (more b) e)
      go false f e = e
  all_headed ends q = refl
  all_headed (fails t) q = refl

  lines_are : lines_from rule s 0 ≡ only (is LINES) (subs_from rule s 0)
  lines_are = all_headed (subs_from rule s 0) (each_headed (subs_from rule s 0) (subs_inside rule s 0) (spreads rule s h))

  -- ---- so a line subsection has its header and its blocks

  body_items : (b : List ℕ) → line_head_size ≤ length b → lines_items b ≡ line_items b
  unfolding lines_items
  body_items b l = rw (le-ltb (length b) line_head_size l)

  line_items_lem : (b : Sub) → Whole (items b) → is LINES b ≡ true → items b ≡ line_items (bytes_at s (span_of b))
  line_items_lem b q e =
      let body = bytes_at s (span_of b) in
      let r = lines_right b.kind body e in
      r ∙ body_items body (whole_head body (ap failure (sym r) ∙ q))

  abbrev line_items_at : Sub → Items
  line_items_at b = line_items (bytes_at s (span_of b))

  each_line : (l : Listing Sub Told) → Whole (spread items l) → mapped items same (only (is LINES) l) ≡ mapped line_items_at same (only (is LINES) l)
  unfolding only
  each_line (more b l) q =
      go (is LINES b) (line_items_lem b (whole_left (items b) (spread items l) q)) (each_line l (whole_right (items b) (spread items l) q))
    where
      go : (t : Bool) → (t ≡ true → items b ≡ line_items_at b) → mapped items same (only (is LINES) l) ≡ mapped line_items_at same (only (is LINES) l)
          → mapped items same (cond t (more b (only (is LINES) l)) (only (is LINES) l))
          ≡ mapped line_items_at same (cond t (more b (only (is LINES) l)) (only (is LINES) l))
      go true f e = λ i. more (f refl i) (e i)
      go false f e = e
  each_line ends q = refl
  each_line (fails t) q = refl

  subs_whole : (l : Listing Sub Told) → Whole (spread items l) → failure l ≡ nothing
  unfolding failure
  subs_whole (more b l) q = subs_whole l (whole_right (items b) (spread items l) q)
  subs_whole ends q = refl
  subs_whole (fails t) q = let z : ◌≡◌ {A = ℕ} 0 1 = cc in absurd (omega arith)

  -- a listing that does not fail is its records, and the end
  all_listed : {B C : Type 0} (f : B → C) (l : Listing B Told) → failure l ≡ nothing → mapped f same l ≡ before (map f (listed l)) ends
  unfolding failure listed
  all_listed f (more b l) q = ap (more (f b)) (all_listed f l q)
  all_listed f ends q = refl
  all_listed f (fails t) q = let z : ◌≡◌ {A = ℕ} 0 1 = cc in absurd (omega arith)

  lines_whole : failure (only (is LINES) (subs_from rule s 0)) ≡ nothing
  lines_whole = failure_only (is LINES) (subs_from rule s 0) ∙ subs_whole (subs_from rule s 0) (spreads rule s h)

  -- the line bodies of the area, each with its header and its blocks, are the line subsections of the reading
  pub lines_agree : only (begins LINES) (chapters (reading rule s)) ≡ before (map (λ (b : Body). line_items b.bytes) (line_bodies rule s)) ends
  lines_agree =
      let subs = subs_from rule s 0 in
      only_chapters rule s h LINES
      ∙ each_line subs (spreads rule s h)
      ∙ all_listed line_items_at (only (is LINES) subs) lines_whole
      ∙ ap (λ (ls : List Items). before ls ends)
      (map_map (body_of s) (λ (b : Body). line_items b.bytes) (listed (only (is LINES) subs)))

  -- ---- and the tests before the files pass

  pub lines_pass : failure (lines_from rule s 0) ≡ nothing
  lines_pass = ap failure lines_are ∙ lines_whole

  passes : {B : Type 0} (l : Listing B Told) (f : Reply Span Told) → failure l ≡ nothing → on_gave (λ (n : ℕ). f) (count_of l) ≡ f
  unfolding failure count_of
  passes (more b l) f q = one (count_of l) ∙ passes l f q
    where
      one : (x : Reply ℕ Told) → on_gave (λ (n : ℕ). f) (plus 1 x) ≡ on_gave (λ (n : ℕ). f) x
      one (gave n) = refl
      one nothing = refl
      one (refused t) = refl
  passes ends f q = refl
  passes (fails t) f q = let z : ◌≡◌ {A = ℕ} 0 1 = cc in absurd (omega arith)

  files_sub_lem : files_sub rule s ≡ last_sub rule FILE_CHECKSUMS s
  unfolding files_sub
  files_sub_lem =
      passes (lines_from rule s 0) (last_sub rule FILE_CHECKSUMS s) lines_pass

  -- the files, with their checksums, are the records of the last checksum subsection, but for the bytes of kind 0
  pub files_agree : mapped dropped same (records_in (last_by (begins FILE_CHECKSUMS) (chapters (reading rule s))))
      ≡ each checksum (mapped (file.file_spelt s) same (files_in rule s))
  files_agree =
      let x = last_bytes rule FILE_CHECKSUMS s in
      ap (mapped dropped same) (last_records rule s FILE_CHECKSUMS (λ (b : List ℕ). each checksum (checksums b)) checksums_right h
      ∙ of_body_lem checksum checksums x)
      ∙ mapped_mapped dropped checksum (of_body checksums x)
      ∙ sym (mapped_mapped checksum shown (of_body checksums x))
      ∙ ap (each checksum)
      (sym (of_body_lem shown checksums x)
      ∙ ap (λ (y : Reply Span Told). of_body (λ (b : List ℕ). mapped shown same (checksums b)) (map_reply (bytes_at s) same y)) (sym files_sub_lem)
      ∙ sym (files_mean rule s))
