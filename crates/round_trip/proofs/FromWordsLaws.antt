-- An area that is plain in the words of document 01 is plain.
use Rattle.std.specs.Prelude.{ℕ, ◌+◌, ◌*◌, ◌%◌, ◌≡◌, refl, List, [], ◌∷◌, ◌++◌, map, Bool, true, false, cond, ◌&&◌, length, drop, get_or, ltb, eqb}
use Rattle.std.proofs.Common.{sym, ap, ◌∙◌, subst, inl, inr, arith, eqb-true, eq-eqb, le-ltb}
use Rattle.std.proofs.Math.Option.{none, some}
use Rattle.std.proofs.lemmas.Bool.{eqb-false}
use Rattle.word.specs.Word.{u16_at, u32_at}
use Rattle.walk.specs.Listing.{Move, item, Listing, more, ends, fails, before, and_then, all, nothing, spread}
use Rattle.walk.specs.ListingLaws.{Holds}
use Rattle.walk.specs.Pick.{failure}
use Rattle.refusal.specs.Told.{Told, told, longest}
use Rattle.refusal.specs.declared.Refusal.TheVariants as why
use Rattle.area.specs.Parts.{Raw, Parts, parts}
use Rattle.kinds.specs.Kind.{LINES, FILE_CHECKSUMS, INLINEE_LINES, CROSS_SCOPE_IMPORTS, CROSS_SCOPE_EXPORTS, IGNORE, known_kinds, among, Sort, known, skipped, unknown, on_sort, crate_rule}
use Rattle.area.specs.Subs.{bodies_in, bodies}
use Rattle.body.specs.Lines.{line_head_size, line_head, line_bytes, block_head_size, block_bite, blocks}
use Rattle.body.specs.Checksums.{Checksum, up4, checksum_bite, checksums}
use Rattle.body.specs.Inlinees.{extended, inlinee_bite, inlinees}
use Rattle.body.specs.Imports.{module_bite, modules}
use Rattle.body.specs.Exports.{pairs}
use Rattle.body.specs.LinesLaws.{block_sound}
use Rattle.body.specs.ChecksumsLaws.{Facts, checksum_sound}
use Rattle.body.specs.RunLaws.{Each}
use Rattle.reading.specs.Reading.{Item, Items, each, open_lines, block, open_checksums, checksum, open_inlinees, inlinee, open_imports, imports, open_exports, exports, opaque, items_of, lines_items, checksums_items, inlinees_items, imports_items, exports_items, reading}
use Rattle.reading.specs.BodiesLaws.{numbered, reading_bodies}
use Rattle.plain.specs.Plain.{block_filled, plain_block, size_of, tidy, plain_checksum, ends_whole, wholly, ascends_from, marked, lines_mark, inlinees_mark, is_opaque, mark_of, Last, nothing_yet, on_mark, plain_from, plain_of, Plain}
use Rattle.plain.specs.RecordLaws.{padding_two, known_opaque}
use Rattle.round_trip.specs.Secs.{Ascend, floor_after}
use Rattle.round_trip.proofs.SecLaws.{numbered_before, before_numbered, ascends_forth}
use Rattle.round_trip.proofs.BackLaws.{Marked}
use Rattle.round_trip.proofs.ListedLaws.{checksum_holds, not_before}
use Rattle.round_trip.specs.InWords.{Lists, ListsNext, records_at, have_columns, PaddingZero, ExactlyFilled, PlainInWords}
use Rattle.round_trip.proofs.SpotsLaws.{pass_all}
use Rattle.round_trip.proofs.ItemLaws.{GoodItem, each_split, items_good, Rises, rises_left, rises_right, rise_ascends}

-- ---- listings that end whole

whole_items : (l : Items) → failure l ≡ nothing → (xs : List Item) × (l ≡ before xs ends)
unfolding failure
whole_items (more i l) e = let r = whole_items l e in (i ∷ r.0, ap (more i) r.1)
whole_items ends e = ([], refl)
whole_items (fails t) e = let z : ◌≡◌ {A = ℕ} 0 1 = cc in absurd (omega arith)

fails_not : {A : Type 0} (n : ℕ) (xs : List Item) → ◌≡◌ {A = Listing Item ℕ} (fails n) (before xs ends) → A
fails_not n [] e = let z : ◌≡◌ {A = ℕ} 0 1 = cc in absurd (omega arith)
fails_not n (x ∷ xs) e = let z : ◌≡◌ {A = ℕ} 0 1 = cc in absurd (omega arith)

-- two listings, one behind the other, that end whole
record Split (k l : Listing Item ℕ) (xs : List Item) : Type 0 where
  front : List Item
  rest : List Item
  is : xs ≡ front ++ rest
  left : k ≡ before front ends
  right : l ≡ before rest ends

split : (k l : Listing Item ℕ) (xs : List Item) → and_then k l ≡ before xs ends → Split k l xs
split (more b k) l [] e = let z : ◌≡◌ {A = ℕ} 0 1 = cc in absurd (omega arith)
split (more b k) l (x ∷ xs) e =
    let eb : b ≡ x = cc in
    let S = split k l xs (cc) in
    let el = S.left in
    let ei = S.is in
    record {
      front = x ∷ S.front;
      rest = S.rest;
      is = λ i. x ∷ ei i;
      left = λ i. more (eb i) (el i);
      right = S.right;
    }
split ends l xs e = record { front = []; rest = xs; is = refl; left = refl; right = e }
split (fails n) l xs e = fails_not n xs e

-- the records of a body, of which the items are a list
record Records {B : Type 0} (f : B → Item) (l : Listing B Told) (xs : List Item) : Type 0 where
  list : List B
  is : l ≡ before list ends
  items : xs ≡ map f list

records : {B : Type 0} (f : B → Item) (l : Listing B Told) (xs : List Item) → each f l ≡ before xs ends → Records f l xs
records f (more b l) [] e = let z : ◌≡◌ {A = ℕ} 0 1 = cc in absurd (omega arith)
records f (more b l) (x ∷ xs) e =
    let ex : f b ≡ x = cc in
    let R = records f l xs (cc) in
    let ei = R.items in
    record { list = b ∷ R.list; is = ap (more b) R.is; items = λ i. sym ex i ∷ ei i }
records f ends [] e = record { list = []; is = refl; items = refl }
records f ends (x ∷ xs) e = let z : ◌≡◌ {A = ℕ} 0 1 = cc in absurd (omega arith)
records f (fails t) xs e = not_before t xs e

ends_whole_lem : {B : Type 0} (l : Listing B Told) (bs : List B) → l ≡ before bs ends → ends_whole l ≡ true
ends_whole_lem l bs e = ap ends_whole e ∙ go bs
  where
    go : {B : Type 0} (bs : List B) → ends_whole (before {R = Told} bs ends) ≡ true
    go [] = refl
    go (b ∷ bs) = go bs

-- a record of the body is an item of it
lists_map : {B : Type 0} (f : B → Item) (bs : List B) (b : B) (P : Item → Type 0) → Each P (map f bs) → Lists (before {R = Told} bs ends) b → P (f b)
lists_map f [] b P g w = absurd w
lists_map f (x ∷ bs) b P g (inl e) = subst (λ y. P (f y)) e g.0
lists_map f (x ∷ bs) b P g (inr w) = lists_map f bs b P g.1 w

-- the first item, and those behind it
record Head (i : Item) (l : Items) (xs : List Item) : Type 0 where
  rest : List Item
  is : xs ≡ i ∷ rest
  right : l ≡ before rest ends

head : (i : Item) (l : Items) (xs : List Item) → more i l ≡ before xs ends → Head i l xs
head i l [] e = let z : ◌≡◌ {A = ℕ} 0 1 = cc in absurd (omega arith)
head i l (x ∷ xs) e = let ex : i ≡ x = cc in record { rest = xs; is = ap (λ (y : Item). y ∷ xs) (sym ex); right = cc }

-- ---- the bodies of each kind

lines_mark_lem : (b : List ℕ) (xs : List Item) → lines_items b ≡ before xs ends
    → ((t : List ℕ) → Lists (records_at (block_bite (have_columns b)) (drop line_head_size b)) t → ExactlyFilled (have_columns b) t)
    → (m : ℕ) × (lines_mark b ≡ some m)
unfolding lines_items lines_mark blocks wholly
lines_mark_lem b xs e f = go (ltb (length b) line_head_size) e
  where
    c : Bool
    c = have_columns b

    D : List ℕ
    D = drop line_head_size b

    go : (t : Bool) → cond t (fails (told why.Cut)) (more (open_lines (line_head b)) (each block (all (block_bite c) length D))) ≡ before xs ends
        → (m : ℕ) × (cond t none (marked (ends_whole (all (plain_block c) length D)) ((line_head b).flags % 2)) ≡ some m)
    go true q = not_before (told why.Cut) xs q
    go false q =
        let H = head (open_lines (line_head b)) (each block (all (block_bite c) length D)) xs q in
        let R = records block (all (block_bite c) length D) H.rest H.right in
        let w = pass_all (block_bite c) (block_filled c) (block_sound c) D (ends_whole_lem (all (block_bite c) length D) R.list R.is)
        (λ u r t v g z. eq-eqb (u32_at u 8) (block_head_size + line_bytes c (u32_at u 4)) (f u v)) in
        ((line_head b).flags % 2, ap (λ (t : Bool). marked t ((line_head b).flags % 2)) w)

tidy_of : (u : List ℕ) (c : Checksum) (t : List ℕ) → checksum_bite u ≡ item c t → length c.bytes ≡ size_of c.kind → PaddingZero u → tidy u ≡ true
unfolding u16_at
tidy_of u c t e h p =
    let n = get_or u 4 0 in
    let k = get_or u 5 0 in
    let f : Facts u c = subst (λ (x : Move (List ℕ) Checksum Told). Holds (Facts u) x) e (checksum_holds u) in
    let es : n ≡ size_of k = sym f.size ∙ h ∙ ap size_of f.kind in
    let up : up4 (6 + n) ≡ n + 8 = ap (λ (x : ℕ). up4 (6 + x)) es ∙ padding_two k ∙ ap (λ (x : ℕ). x + 8) (sym es) in
    let z₀ : get_or u (6 + n) 0 ≡ 0 = p (6 + n) (omega arith) (omega arith) in
    let z₁ : get_or u (6 + n + 1) 0 ≡ 0 = p (6 + n + 1) (omega arith) (omega arith) in
    let z : get_or u (6 + n) 0 + 256 * get_or u (6 + n + 1) 0 ≡ 0 = omega arith in
    rw (eq-eqb n (size_of k) es, eq-eqb (get_or u (6 + n) 0 + 256 * get_or u (6 + n + 1) 0) 0 z)

sums_whole : (b : List ℕ) (xs : List Item) → checksums_items b ≡ before xs ends → Each GoodItem xs
    → ((t : List ℕ) → Lists (records_at checksum_bite b) t → PaddingZero t) → wholly plain_checksum b ≡ true
unfolding checksums_items checksums wholly
sums_whole b xs e g f =
    let l = all checksum_bite length b in
    let H = head open_checksums (each checksum l) xs e in
    let R = records checksum l H.rest H.right in
    let gs : Each GoodItem (open_checksums ∷ map checksum R.list) = rw (H.is, R.items) at g in
    pass_all checksum_bite tidy checksum_sound b (ends_whole_lem l R.list R.is)
    (λ u c t v q z. tidy_of u c t q (lists_map checksum R.list c GoodItem gs.1 (subst (λ (x : Listing Checksum Told). Lists x c) R.is z)) (f u v))

inlinees_mark_lem : (b : List ℕ) (xs : List Item) → inlinees_items b ≡ before xs ends → Each GoodItem xs → (m : ℕ) × (inlinees_mark b ≡ some m)
unfolding inlinees_items inlinees_mark inlinees wholly
inlinees_mark_lem b xs e g = go (ltb (length b) 4) e
  where
    n : ℕ
    n = u32_at b 0

    x : Bool
    x = extended (u32_at b 0)

    go : (t : Bool) → cond t (fails (told why.Cut)) (more (open_inlinees n) (each inlinee (all (inlinee_bite x) length (drop 4 b)))) ≡ before xs ends
        → (m : ℕ) × (cond t none (cond (ltb 1 n) none (marked (ends_whole (all (inlinee_bite x) length (drop 4 b))) n)) ≡ some m)
    go true q = not_before (told why.Cut) xs q
    go false q =
        let l = all (inlinee_bite x) length (drop 4 b) in
        let H = head (open_inlinees n) (each inlinee l) xs q in
        let R = records inlinee l H.rest H.right in
        let gs : Each GoodItem (open_inlinees n ∷ H.rest) = rw H.is at g in
        (n, rw (le-ltb 1 n gs.0, ends_whole_lem l R.list R.is))

modules_whole : (b : List ℕ) (xs : List Item) → imports_items b ≡ before xs ends → wholly module_bite b ≡ true
unfolding imports_items modules wholly
modules_whole b xs e =
    let l = all module_bite length b in
    let H = head open_imports (each imports l) xs e in
    let R = records imports l H.rest H.right in
    ends_whole_lem l R.list R.is

pairs_mark : (b : List ℕ) (xs : List Item) → exports_items b ≡ before xs ends → Rises xs → (m : ℕ) × (ascends_from 0 (pairs b) ≡ some m)
unfolding exports_items
pairs_mark b xs e r = go (eqb (length b % 8) 0) e
  where
    go : (t : Bool) → cond t (more open_exports (each exports (pairs b))) (fails (told why.ExportLength)) ≡ before xs ends
        → (m : ℕ) × (ascends_from 0 (pairs b) ≡ some m)
    go true q =
        let H = head open_exports (each exports (pairs b)) xs q in
        let R = records exports (pairs b) H.rest H.right in
        let rs : Rises (open_exports ∷ map exports R.list) = rw (H.is, R.items) at r in
        let a : Ascend 0 R.list = rise_ascends 0 R.list (λ p w. omega arith) (λ p q w. rs p q (inr w)) in
        (floor_after 0 R.list, ap (ascends_from 0) R.is ∙ ascends_forth 0 R.list a)
    go false q = not_before (told why.ExportLength) xs q

-- what the rules say of one subsection
record Body (r : Raw) (xs : List Item) : Type 0 where
  kind : among r.kind known_kinds ≡ true
  read : items_of r ≡ before xs ends
  good : Each GoodItem xs
  rises : Rises xs
  padding : r.kind ≡ FILE_CHECKSUMS → (t : List ℕ) → Lists (records_at checksum_bite r.body) t → PaddingZero t
  filled : r.kind ≡ LINES → (t : List ℕ) → Lists (records_at (block_bite (have_columns r.body)) (drop line_head_size r.body)) t
      → ExactlyFilled (have_columns r.body) t

body_marked : (r : Raw) (xs : List Item) → Body r xs → Marked r
unfolding mark_of items_of
body_marked r xs B = go (eqb k LINES) refl (eqb k FILE_CHECKSUMS) refl (eqb k INLINEE_LINES) refl (eqb k CROSS_SCOPE_IMPORTS) refl
    (eqb k CROSS_SCOPE_EXPORTS) refl B.read
  where
    k : ℕ
    k = r.kind

    b : List ℕ
    b = r.body

    go : (t₂ : Bool) → eqb k LINES ≡ t₂ → (t₄ : Bool) → eqb k FILE_CHECKSUMS ≡ t₄ → (t₆ : Bool) → eqb k INLINEE_LINES ≡ t₆ → (t₇ : Bool)
        → eqb k CROSS_SCOPE_IMPORTS ≡ t₇ → (t₈ : Bool) → eqb k CROSS_SCOPE_EXPORTS ≡ t₈
        → cond t₂ (lines_items b) (cond t₄ (checksums_items b) (cond t₆ (inlinees_items b) (cond t₇ (imports_items b)
        (cond t₈ (exports_items b) (more (opaque k b) ends))))) ≡ before xs ends
        → (m : ℕ) × (cond t₂ (lines_mark b) (cond t₄ (marked (wholly plain_checksum b) 0) (cond t₆ (inlinees_mark b) (cond t₇ (marked (wholly module_bite b) 0)
        (cond t₈ (ascends_from 0 (pairs b)) (marked (is_opaque k && eqb (length b % 4) 0) 0))))) ≡ some m)
    go true e₂ t₄ e₄ t₆ e₆ t₇ e₇ t₈ e₈ q = lines_mark_lem b xs q (B.filled (eqb-true k LINES e₂))
    go false e₂ true e₄ t₆ e₆ t₇ e₇ t₈ e₈ q = (0, ap (λ (t : Bool). marked t 0) (sums_whole b xs q B.good (B.padding (eqb-true k FILE_CHECKSUMS e₄))))
    go false e₂ false e₄ true e₆ t₇ e₇ t₈ e₈ q = inlinees_mark_lem b xs q B.good
    go false e₂ false e₄ false e₆ true e₇ t₈ e₈ q = (0, ap (λ (t : Bool). marked t 0) (modules_whole b xs q))
    go false e₂ false e₄ false e₆ false e₇ true e₈ q = pairs_mark b xs q B.rises
    go false e₂ false e₄ false e₆ false e₇ false e₈ q =
        let H = head (opaque k b) ends xs q in
        let gs : Each GoodItem (opaque k b ∷ H.rest) = rw H.is at B.good in
        let o =
        known_opaque k (eqb-false k LINES e₂) (eqb-false k FILE_CHECKSUMS e₄) (eqb-false k INLINEE_LINES e₆) (eqb-false k CROSS_SCOPE_IMPORTS e₇)
        (eqb-false k CROSS_SCOPE_EXPORTS e₈) in
        (0, rw (sym o ∙ B.kind, eq-eqb (length b % 4) 0 gs.0))

-- ---- the crate's rule for kinds

abbrev Says : ℕ → Sort → Type 0
Says k known = among k known_kinds ≡ true
Says k skipped = k ≡ IGNORE
Says k unknown = Unit {0}

sort_of : (k : ℕ) (o : Sort) → crate_rule k ≡ o → Says k o
unfolding crate_rule
sort_of k o e = subst (Says k) e (go (among k known_kinds) refl (eqb k IGNORE) refl)
  where
    go : (t : Bool) → among k known_kinds ≡ t → (u : Bool) → eqb k IGNORE ≡ u → Says k (cond t known (cond u skipped unknown))
    go true et u eu = et
    go false et true eu = eqb-true k IGNORE eu
    go false et false eu = tt

-- ---- an area, subsection by subsection

-- the rules on the bytes of parts
record OnBytes (l : Parts) : Type 0 where
  kinds : (r : Raw) → Lists l r → r.kind ≡ IGNORE → ⊥
  padding : (r : Raw) → Lists l r → r.kind ≡ FILE_CHECKSUMS → (t : List ℕ) → Lists (records_at checksum_bite r.body) t → PaddingZero t
  filled : (r : Raw) → Lists l r → r.kind ≡ LINES
      → (t : List ℕ) → Lists (records_at (block_bite (have_columns r.body)) (drop line_head_size r.body)) t → ExactlyFilled (have_columns r.body) t

behind : (r : Raw) (l : Parts) → OnBytes (more r l) → OnBytes l
behind r l W = record { kinds = λ q w. W.kinds q (inr w); padding = λ q w. W.padding q (inr w); filled = λ q w. W.filled q (inr w) }

abbrev items_by : Parts → Listing Item ℕ
items_by l = spread (λ (r : Raw). numbered (items_of r)) (bodies_in crate_rule l)

from_parts : (l : Parts) (xs : List Item) → items_by l ≡ before xs ends → OnBytes l → Each GoodItem xs → Rises xs → (p : ℕ) (last : Last)
    → (x : Last) × (plain_from p last l ≡ some x)
unfolding bodies_in plain_from
from_parts (more r l) xs e W g h p last =
    go (crate_rule r.kind) refl e (λ ys d a b n y. from_parts l ys d (behind r l W) a b n y)
  where
    go : (o : Sort) → crate_rule r.kind ≡ o
        → spread (λ (q : Raw). numbered (items_of q)) (on_sort o (more r (bodies_in crate_rule l)) (bodies_in crate_rule l) (fails 2)) ≡ before xs ends
        → ((ys : List Item) → items_by l ≡ before ys ends → Each GoodItem ys → Rises ys → (n : ℕ) (y : Last) → (x : Last) × (plain_from n y l ≡ some x))
        → (x : Last)
        × (on_mark (mark_of r.kind r.body) none (λ m. plain_from (p + 8 + length r.body) (record { header = p; kind = r.kind; mark = m }) l) ≡ some x)
    go known ek q ih =
        let S = split (numbered (items_of r)) (items_by l) xs q in
        let gs = each_split GoodItem S.front S.rest (rw S.is at g) in
        let hs : Rises (S.front ++ S.rest) = rw S.is at h in
        let M = body_marked r S.front
        (record {
          kind = sort_of r.kind known ek;
          read = before_numbered (items_of r) S.front S.left;
          good = gs.0;
          rises = rises_left S.front S.rest hs;
          padding = W.padding r (inl refl);
          filled = W.filled r (inl refl);
        }) in
        rw M.1
        (ih S.rest S.right gs.1 (rises_right S.front S.rest hs) (p + 8 + length r.body) (record { header = p; kind = r.kind; mark = M.0 }))
    go skipped ek q ih = absurd (W.kinds r (inl refl) (sort_of r.kind skipped ek))
    go unknown ek q ih = fails_not 2 xs q
from_parts ends xs e W g h p last = (last, refl)
from_parts (fails c) xs e W g h p last = fails_not 1 xs e

pub from_words : (s : List ℕ) → PlainInWords s → Plain s
unfolding bodies plain_of
from_words s W =
    let F = whole_items (reading crate_rule s) W.read in
    let xs = F.0 in
    let e = F.1 in
    let g = items_good xs (λ k b w. W.opaques k b (subst (λ (l : Items). Lists l (opaque k b)) (sym e) w))
    (λ c w. W.sizes c (subst (λ (l : Items). Lists l (checksum c)) (sym e) w))
    (λ n w. W.signatures n (subst (λ (l : Items). Lists l (open_inlinees n)) (sym e) w)) in
    let h : Rises xs = λ p q w. W.ascending p q (subst (λ (l : Items). ListsNext l (exports p) (exports q)) (sym e) w) in
    go xs (ltb longest (length s)) (sym (reading_bodies crate_rule s) ∙ ap numbered e ∙ numbered_before xs)
    (λ d. from_parts (parts s) xs d (record { kinds = W.kinds; padding = W.padding; filled = W.filled }) g h 0 nothing_yet)
  where
    go : (xs : List Item) (t : Bool) → spread (λ (r : Raw). numbered (items_of r)) (cond t (fails 11) (bodies_in crate_rule (parts s))) ≡ before xs ends
        → (items_by (parts s) ≡ before xs ends → (x : Last) × (plain_from 0 nothing_yet (parts s) ≡ some x))
        → (x : Last) × (cond t none (plain_from 0 nothing_yet (parts s)) ≡ some x)
    go xs true q f = fails_not 11 xs q
    go xs false q f = f q
