-- A plain area is answered by every call on the whole area.
use Prim.Native.Nat.{ℕ, ◌+◌}
use Rattle.std.proofs.Math.Path.{◌≡◌, subst⁻¹}
use Rattle.std.specs.Prelude.{refl, List, [], ◌∷◌, Bool, true, cond, ◌&&◌, length, take, drop, ltb, eqb}
use Rattle.std.proofs.Common.{sym, ap, ◌∙◌, subst, arith, eqb-true, lt-ltb}
use Rattle.std.proofs.Math.Option.{some}
use Rattle.word.specs.Word.{Bytes}
use Rattle.walk.specs.Cases.{by_cases}
use Rattle.walk.specs.Listing.{Listing, more, ends, fails, mapped, before, Reply, gave, nothing, refused}
use Rattle.walk.specs.ListingLaws.{Every}
use Rattle.walk.specs.Pick.{failure, first_by, last_by, or_else, map_reply, on_gave}
use Rattle.walk.specs.PickLaws.{Gives, first_holds}
use Rattle.refusal.specs.Told.{Told, told, longest, number_of}
use Rattle.refusal.specs.declared.Refusal.TheVariants as why
use Rattle.area.specs.Parts.{Raw, Parts}
use Rattle.kinds.specs.Kind.{FILE_CHECKSUMS, INLINEE_LINES, CROSS_SCOPE_IMPORTS, CROSS_SCOPE_EXPORTS, Sort, on_sort, known, skipped, unknown}
use Rattle.area.specs.Subs.{Sub, subs_from, bodies_in, bodies}
use Rattle.area.specs.SubsLaws.{bodied, area_bodies}
use Rattle.find.specs.Find.{same, is, span_of}
use Rattle.table.specs.Table.{table_of}
use Rattle.body.specs.Exports.{Pair, pairs}
use Rattle.body.specs.RunLaws.{Each}
use Rattle.table.specs.Collect.{collected}
use Rattle.table.specs.CollectLaws.{mapped_same}
use Rattle.lines.specs.Lines.{count_of, plus, lines_from, count_lines}
use Rattle.files.specs.Files as file
use Rattle.files.specs.Files.{files_in}
use Rattle.inlinees.specs.Inlinees.{inlinee_spelt, inlinees_in}
use Rattle.imports.specs.Imports.{module_of, imports_of}
use Rattle.exports.specs.Exports.{unplaced, pairs_of, above, ascends, global_of, lookup, resolve_export}
use Rattle.reading.specs.Reading.{checksum, inlinee, imports, exports, Items, each, reading, opens}
use Rattle.plain.specs.Plain.{Last, mark_of, plain_of, Plain, KnowsPlain}
use Rattle.plain.specs.Plain as plain
use Rattle.round_trip.specs.Secs.{Ascend}
use Rattle.round_trip.proofs.BackLaws.{Marked, plain_marked, ascends_list}
use Rattle.round_trip.proofs.DemandHolds.{again}
use Rattle.reading_agrees.specs.Chapters.{up_to, chapters, begins, records, records_in, dropped}
use Rattle.reading_agrees.proofs.ChaptersLaws.{Whole}
use Rattle.reading_agrees.proofs.TablesLaws.{Passes, first_passes, exports_agree, imports_agree, inlinees_agree, files_agree, lines_pass}
use Rattle.plain_answered.specs.PlainAgree.{NotRefused, Answered}

-- ---- a listing that does not fail, and what is picked from it

before_whole : {B : Type 0} (bs : List B) → ◌≡◌ {A = Reply B Told} (failure (before bs ends)) nothing
unfolding failure
before_whole [] = refl
before_whole (b ∷ bs) = before_whole bs

mapped_whole : {B C : Type 0} (f : B → C) (l : Listing B Told) → failure (mapped f same l) ≡ nothing → failure l ≡ nothing
unfolding failure
mapped_whole f (more b l) h = mapped_whole f l h
mapped_whole f ends h = refl
mapped_whole f (fails t) h = let z : ◌≡◌ {A = ℕ} 0 1 = cc in absurd (omega arith)

whole_mapped : {B C : Type 0} (f : B → C) (l : Listing B Told) → failure l ≡ nothing → failure (mapped f same l) ≡ nothing
unfolding failure
whole_mapped f (more b l) h = whole_mapped f l h
whole_mapped f ends h = refl
whole_mapped f (fails t) h = let z : ◌≡◌ {A = ℕ} 0 1 = cc in absurd (omega arith)

-- ---- the subsections of a whole reading are whole

up_to_whole : (l : Items) → Whole l → Whole (up_to l)
unfolding up_to failure
up_to_whole (more i l) h = by_cases Whole (opens i) (λ e. refl) (λ e. up_to_whole l h)
up_to_whole ends h = refl
up_to_whole (fails t) h = h

chapters_end : (l : Items) → Whole l → failure (chapters l) ≡ nothing
unfolding chapters failure
chapters_end (more i l) h =
    by_cases (λ (k : Listing Items Told). failure k ≡ nothing) (opens i) (λ e. chapters_end l h) (λ e. chapters_end l h)
chapters_end ends h = refl
chapters_end (fails t) h = let z : ◌≡◌ {A = ℕ} 0 1 = cc in absurd (omega arith)

chapters_whole : (l : Items) → Whole l → Every Whole (chapters l)
unfolding chapters failure
chapters_whole (more i l) h = by_cases (Every Whole) (opens i) (λ e. (up_to_whole l h, chapters_whole l h)) (λ e. chapters_whole l h)
chapters_whole ends h = tt
chapters_whole (fails t) h = tt

-- a subsection that was picked, if any
abbrev Picked : Reply Items Told → Type 0
Picked (gave l) = Whole l
Picked nothing = Unit {0}
Picked (refused t) = ⊥

first_picked : (f : Items → Bool) (l : Listing Items Told) → failure l ≡ nothing → Every Whole l → Picked (first_by f l)
unfolding first_by failure
first_picked f (more b l) h w = by_cases Picked (f b) (λ e. w.0) (λ e. first_picked f l h w.1)
first_picked f ends h w = tt
first_picked f (fails t) h w = let z : ◌≡◌ {A = ℕ} 0 1 = cc in absurd (omega arith)

or_picked : (x y : Reply Items Told) → Picked x → Picked y → Picked (or_else x y)
or_picked (gave l) y p q = p
or_picked nothing y p q = q
or_picked (refused t) y p q = p

last_picked : (f : Items → Bool) (l : Listing Items Told) → failure l ≡ nothing → Every Whole l → Picked (last_by f l)
unfolding last_by failure
last_picked f (more b l) h w =
    or_picked (last_by f l) (cond (f b) (gave b) nothing) (last_picked f l h w.1) (by_cases Picked (f b) (λ e. w.0) (λ e. tt))
last_picked f ends h w = tt
last_picked f (fails t) h w = let z : ◌≡◌ {A = ℕ} 0 1 = cc in absurd (omega arith)

records_whole : (l : Items) → Whole l → Whole (records l)
unfolding failure
records_whole (more i l) h = h
records_whole ends h = refl
records_whole (fails t) h = h

picked_whole : (x : Reply Items Told) → Picked x → Whole (records_in x)
unfolding failure
picked_whole (gave l) h = records_whole l h
picked_whole nothing h = refl
picked_whole (refused t) h = absurd h

-- ---- so the tables are whole

module _ (rule : ℕ → Sort) (s : List ℕ) (h : Whole (reading rule s)) where
  first_whole : (w : ℕ) → Whole (records_in (first_by (begins w) (chapters (reading rule s))))
  first_whole w =
      let l = reading rule s in
      picked_whole (first_by (begins w) (chapters l)) (first_picked (begins w) (chapters l) (chapters_end l h) (chapters_whole l h))

  last_whole : (w : ℕ) → Whole (records_in (last_by (begins w) (chapters (reading rule s))))
  last_whole w =
      let l = reading rule s in
      picked_whole (last_by (begins w) (chapters l)) (last_picked (begins w) (chapters l) (chapters_end l h) (chapters_whole l h))

  exports_whole : failure (pairs_of rule s) ≡ nothing
  exports_whole = mapped_whole exports (pairs_of rule s) (ap failure (sym (exports_agree rule s h)) ∙ first_whole CROSS_SCOPE_EXPORTS)

  imports_whole : failure (imports_of rule s) ≡ nothing
  imports_whole =
      mapped_whole (module_of s) (imports_of rule s)
      (mapped_whole imports (mapped (module_of s) same (imports_of rule s)) (ap failure (sym (imports_agree rule s h)) ∙ first_whole CROSS_SCOPE_IMPORTS))

  inlinees_whole : failure (inlinees_in rule s) ≡ nothing
  inlinees_whole =
      mapped_whole (inlinee_spelt s) (inlinees_in rule s)
      (mapped_whole inlinee (mapped (inlinee_spelt s) same (inlinees_in rule s)) (ap failure (sym (inlinees_agree rule s h)) ∙ first_whole INLINEE_LINES))

  files_whole : failure (files_in rule s) ≡ nothing
  files_whole =
      mapped_whole (file.file_spelt s) (files_in rule s)
      (mapped_whole checksum (mapped (file.file_spelt s) same (files_in rule s))
      (ap failure (sym (files_agree rule s h)) ∙ whole_mapped dropped (records_in (last_by (begins FILE_CHECKSUMS) (chapters (reading rule s))))
      (last_whole FILE_CHECKSUMS)))

  counted : {B : Type 0} (l : Listing B Told) → failure l ≡ nothing → NotRefused (count_of l)
  unfolding failure count_of
  counted (more b l) q = one (count_of l) (counted l q)
    where
      one : (x : Reply ℕ Told) → NotRefused x → NotRefused (plus 1 x)
      one (gave n) p = tt
      one nothing p = tt
      one (refused t) p = p
  counted ends q = tt
  counted (fails t) q = let z : ◌≡◌ {A = ℕ} 0 1 = cc in absurd (omega arith)

  lines_counted : NotRefused (count_lines rule s)
  lines_counted = counted (lines_from rule s 0) (lines_pass rule s h)

-- ---- each export body of a plain area ascends

bodies_marked : (rule : ℕ → Sort) (rs : List Raw) → Each Marked rs → Every Marked (bodies_in rule (before rs ends))
unfolding bodies_in
bodies_marked rule [] m = tt
bodies_marked rule (r ∷ rs) m = by (rule r.kind) (bodies_marked rule rs m.1)
  where
    by : (k : Sort) → Every Marked (bodies_in rule (before rs ends))
        → Every Marked (on_sort k (more r (bodies_in rule (before rs ends))) (bodies_in rule (before rs ends)) (fails 2))
    by known q = (m.0, q)
    by skipped q = q
    by unknown q = tt

of_mapped : (s : List ℕ) {R Q : Type 0} (h : R → Q) (l : Listing Sub R) → Every Marked (mapped (bodied s) h l) → Every (λ (b : Sub). Marked (bodied s b)) l
of_mapped s h (more b l) m = (m.0, of_mapped s h l m.1)
of_mapped s h ends m = tt
of_mapped s h (fails t) m = tt

ascend_is : (f : ℕ) (ps : List Pair) → Ascend f ps → ascends ps ≡ true
unfolding ascends
ascend_is f [] a = refl
ascend_is f (p ∷ ps) a = both ps a.1 (ascend_is (p.local + 1) ps a.1)
  where
    both : (qs : List Pair) → Ascend (p.local + 1) qs → ascends qs ≡ true → (above p.local qs && ascends qs) ≡ true
    both [] b e = refl
    both (q ∷ qs) b e = rw (lt-ltb p.local q.local (omega arith)) e

collected_all : {B : Type 0} (bs : List B) → ◌≡◌ {A = Reply (List B) Told} (collected (before bs ends)) (gave bs)
unfolding collected
collected_all [] = refl
collected_all (b ∷ bs) = ap (on_gave (λ xs. gave (b ∷ xs))) (collected_all bs)

global_found : (n : ℕ) (ps : List Pair) → NotRefused (global_of n ps)
unfolding global_of
global_found n [] = tt
global_found n (p ∷ ps) = by_cases NotRefused (eqb p.local n) (λ e. tt) (λ e. global_found n ps)

looked_up : (n : ℕ) (l : Listing Pair Told) (m : ℕ) → plain.ascends_from 0 l ≡ some m → NotRefused (on_gave (lookup n) (collected l))
unfolding lookup
looked_up n l m e =
    let A = ascends_list l 0 m e in
    let c : collected l ≡ gave A.0 = ap collected A.1 ∙ collected_all A.0 in
    subst⁻¹ (λ (x : Reply (List Pair) Told). NotRefused (on_gave (lookup n) x)) c
    (subst⁻¹ (λ (t : Bool). NotRefused (cond t (global_of n A.0) (refused (told why.UnsortedExports)))) (ascend_is 0 A.0 A.2) (global_found n A.0))

none_found : (n : ℕ) → NotRefused (lookup n [])
unfolding lookup global_of ascends
none_found n = tt

not_whole : {A : Type 0} (t : Told) → ◌≡◌ {A = Reply Pair Told} (failure (fails t)) nothing → A
unfolding failure
not_whole t e = let z : ◌≡◌ {A = ℕ} 0 1 = cc in absurd (omega arith)

pairs_marked : (b : List ℕ) (m : ℕ) → mark_of CROSS_SCOPE_EXPORTS b ≡ some m → plain.ascends_from 0 (pairs b) ≡ some m
unfolding mark_of
pairs_marked b m e = e

module _ (rule : ℕ → Sort) (s : List ℕ) (l : Last) (p : plain_of s ≡ some l) where
  subs_marked : Every (λ (b : Sub). Marked (bodied s b)) (subs_from rule s 0)
  unfolding bodies
  subs_marked =
      let M = plain_marked s l p in
      of_mapped s number_of (subs_from rule s 0)
      (subst⁻¹ (Every Marked) (area_bodies rule s)
      (by_cases (Every Marked) (ltb longest (length s)) (λ e. tt)
      (λ e. subst⁻¹ (λ (x : Parts). Every Marked (bodies_in rule x)) M.1 (bodies_marked rule M.0 M.2))))

  exports_looked : failure (pairs_of rule s) ≡ nothing → (n : ℕ) → NotRefused (resolve_export rule s n)
  exports_looked w n =
      found (first_by (is CROSS_SCOPE_EXPORTS) (subs_from rule s 0))
      (first_holds (λ (b : Sub). Marked (bodied s b)) (is CROSS_SCOPE_EXPORTS) (subs_from rule s 0) subs_marked)
      (first_passes (is CROSS_SCOPE_EXPORTS) (subs_from rule s 0)) w
    where
      table : Reply Sub Told → Listing Pair Told
      table x = table_of pairs unplaced s (map_reply span_of same x)

      found : (x : Reply Sub Told) → Gives (λ (b : Sub). Marked (bodied s b)) x → Gives (Passes (is CROSS_SCOPE_EXPORTS)) x → failure (table x) ≡ nothing
          → NotRefused (on_gave (lookup n) (collected (table x)))
      found (gave b) m q w =
          let body : List ℕ = take b.len (drop b.start s) in
          let k : b.kind ≡ CROSS_SCOPE_EXPORTS = eqb-true b.kind CROSS_SCOPE_EXPORTS q in
          let e : mark_of CROSS_SCOPE_EXPORTS body ≡ some m.0 = ap (λ (x : ℕ). mark_of x body) (sym k) ∙ m.1 in
          subst⁻¹ (λ (x : Listing Pair Told). NotRefused (on_gave (lookup n) (collected x))) (mapped_same (pairs body))
          (looked_up n (pairs body) m.0 (pairs_marked body m.0 e))
      found nothing m q w = subst⁻¹ (λ (x : Reply (List Pair) Told). NotRefused (on_gave (lookup n) x)) (collected_all []) (none_found n)
      found (refused t) m q w = not_whole t w

-- ---- THE THEOREM

pub plain_answered_lem : (rule : ℕ → Sort) → KnowsPlain rule → (s : List ℕ) → Bytes s → Plain s → Answered rule s
plain_answered_lem rule knows s b p =
    let A = again rule knows s s b p (omega arith) in
    let h : Whole (reading rule s) = ap failure A.1 ∙ before_whole A.0 in
    record {
      items = h;
      lines = lines_counted rule s h;
      files = files_whole rule s h;
      inlinees = inlinees_whole rule s h;
      imports = imports_whole rule s h;
      exports = exports_whole rule s h;
      lookup = exports_looked rule s p.0 p.1 (exports_whole rule s h);
    }
