-- A plain area is plain in the words of document 01.
use Rattle.std.specs.Prelude.{ℕ, ◌+◌, ◌*◌, ◌%◌, ◌<◌, ◌≤◌, ◌≡◌, refl, List, [], ◌∷◌, Bool, true, false, cond, length, drop, get_or, ltb, eqb}
use Rattle.std.proofs.Common.{sym, ◌∙◌, subst, arith, eqb-true}
use Rattle.std.proofs.Math.Path.{ap}
use Rattle.std.proofs.Math.Option.{none, some}
use Rattle.std.proofs.lemmas.Bool.{eqb-false}
use Rattle.word.specs.Word.{u16_at, u32_at}
use Rattle.walk.specs.Cases.{and_true}
use Rattle.walk.specs.Listing.{ends, before, Reply, nothing}
use Rattle.walk.specs.Pick.{failure}
use Rattle.refusal.specs.Told.{Told, longest}
use Rattle.area.specs.Parts.{Raw, Lack, Parts, parts}
use Rattle.kinds.specs.Kind.{LINES, FILE_CHECKSUMS, crate_rule}
use Rattle.kinds.proofs.KindLaws.{known_not_ignored}
use Rattle.body.specs.Lines.{line_head_size, line_head, line_bytes, block_head_size, block_bite}
use Rattle.body.specs.Checksums.{up4, checksum_bite}
use Rattle.body.specs.LinesLaws.{block_sound}
use Rattle.body.specs.ChecksumsLaws.{checksum_sound}
use Rattle.body.specs.RunLaws.{Each}
use Rattle.reading.specs.Reading.{Item, Items, checksum, open_inlinees, exports, opaque, reading}
use Rattle.plain.specs.Plain.{block_filled, plain_block, size_of, tidy, plain_checksum, wholly, marked, lines_mark, mark_of, Plain}
use Rattle.plain.specs.RecordLaws.{padding_two}
use Rattle.plain.specs.LastLaws.{not_long}
use Rattle.round_trip.specs.Secs.{calls_of}
use Rattle.round_trip.proofs.BackLaws.{no_some, marked_some, Marked}
use Rattle.round_trip.proofs.ListedLaws.{KnownKind, Area, area_of, area_reads}
use Rattle.round_trip.proofs.DemandHolds.{crate_knows, plain_short}
use Rattle.round_trip.specs.InWords.{Lists, ListsNext, records_at, have_columns, PaddingZero, ExactlyFilled, PlainInWords}
use Rattle.round_trip.proofs.SpotsLaws.{all_pass}
use Rattle.round_trip.proofs.ItemLaws.{each_lists, GoodItem, secs_items, secs_rise}

before_whole : {B : Type 0} (xs : List B) → ◌≡◌ {A = Reply B Told} (failure (before xs ends)) nothing
unfolding failure
before_whole [] = refl
before_whole (x ∷ xs) = before_whole xs

-- ---- the rules on the bytes

lines_passed : (b : List ℕ) (m : ℕ) → mark_of LINES b ≡ some m → (t : List ℕ) → Lists (records_at (block_bite (have_columns b)) (drop line_head_size b)) t
    → ExactlyFilled (have_columns b) t
unfolding mark_of lines_mark
lines_passed b m q t w = go (ltb (length b) line_head_size) q
  where
    c : Bool
    c = have_columns b

    go : (s : Bool) → cond s none (marked (wholly (plain_block c) (drop line_head_size b)) ((line_head b).flags % 2)) ≡ some m → ExactlyFilled c t
    go true q = no_some q
    go false q =
        let D : List ℕ = drop line_head_size b in
        let h : wholly (plain_block c) D ≡ true = marked_some (wholly (plain_block c) D) ((line_head b).flags % 2) m q in
        eqb-true (u32_at t 8) (block_head_size + line_bytes c (u32_at t 4)) (all_pass (block_bite c) (block_filled c) (block_sound c) D h t w)

tidy_zero : (t : List ℕ) → tidy t ≡ true → PaddingZero t
unfolding u16_at
tidy_zero t e i l h =
    let n = get_or t 4 0 in
    let k = get_or t 5 0 in
    let a = and_true (eqb n (size_of k)) (eqb (u16_at t (6 + n)) 0) e in
    let es : n ≡ size_of k = eqb-true n (size_of k) a.0 in
    let ez : get_or t (6 + n) 0 + 256 * get_or t (6 + n + 1) 0 ≡ 0 = eqb-true (u16_at t (6 + n)) 0 a.1 in
    let up : up4 (6 + n) ≡ n + 8 = ap (λ (x : ℕ). up4 (6 + x)) es ∙ padding_two k ∙ ap (λ (x : ℕ). x + 8) (sym es) in
    one (eqb i (6 + n)) refl (omega arith) (omega arith) (omega arith)
  where
    n : ℕ
    n = get_or t 4 0

    one : (c : Bool) → eqb i (6 + n) ≡ c → i < n + 8 → get_or t (6 + n) 0 ≡ 0 → get_or t (6 + n + 1) 0 ≡ 0 → get_or t i 0 ≡ 0
    one true e u x y = ap (λ (j : ℕ). get_or t j 0) (eqb-true i (6 + n) e) ∙ x
    one false e u x y = let z : i ≡ 6 + n + 1 = omega (arith, l, eqb-false i (6 + n) e) in ap (λ (j : ℕ). get_or t j 0) z ∙ y

sums_passed : (b : List ℕ) (m : ℕ) → mark_of FILE_CHECKSUMS b ≡ some m → (t : List ℕ) → Lists (records_at checksum_bite b) t → PaddingZero t
unfolding mark_of
sums_passed b m q t w = tidy_zero t (all_pass checksum_bite tidy checksum_sound b (marked_some (wholly plain_checksum b) 0 m q) t w)

-- ---- the theorem

module _ (s : List ℕ) (A : Area s) (l : length s ≤ longest) where
  items : List Item
  items = calls_of A.secs.secs

  is_read : reading crate_rule s ≡ before items ends
  unfolding items
  is_read = area_reads crate_rule crate_knows s A l

  item_good : (i : Item) → Lists (reading crate_rule s) i → GoodItem i
  unfolding items
  item_good i w = each_lists Told GoodItem items (secs_items A.secs.secs A.secs.good) i (subst (λ (x : Items). Lists x i) is_read w)

  raw_of : (P : Raw → Type 0) → Each P A.raws → (r : Raw) → Lists (parts s) r → P r
  raw_of P g r w = each_lists Lack P A.raws g r (subst (λ (x : Parts). Lists x r) A.parts w)

  area_in_words : PlainInWords s
  unfolding items
  area_in_words =
      record {
        read = ap failure is_read ∙ before_whole items;
        kinds = λ r w e. known_not_ignored r.kind (raw_of KnownKind A.secs.kinds r w) e;
        opaques = λ k b w. item_good (opaque k b) w;
        sizes = λ c w. item_good (checksum c) w;
        padding = λ r w e t v. let m = raw_of Marked A.marked r w in sums_passed r.body m.0 (ap (λ (k : ℕ). mark_of k r.body) (sym e) ∙ m.1) t v;
        signatures = λ g w. item_good (open_inlinees g) w;
        filled = λ r w e t v. let m = raw_of Marked A.marked r w in lines_passed r.body m.0 (ap (λ (k : ℕ). mark_of k r.body) (sym e) ∙ m.1) t v;
        ascending = λ p q w. secs_rise A.secs.secs A.secs.good p q (subst (λ (x : Items). ListsNext x (exports p) (exports q)) is_read w);
      }

pub to_words : (s : List ℕ) → Plain s → PlainInWords s
to_words s p = area_in_words s (area_of s (p.0, not_long s p.0 p.1)) (plain_short s p.0 p.1)
