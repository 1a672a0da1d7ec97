-- What a full reading refuses: the numbers 1, 2, 3, 4, 7 and 11 alone. So never 8, 9 or 19, which belong to the calls on lines and exports.
use Rattle.std.specs.Prelude.{ℕ, ◌+◌, ◌-◌, ◌*◌, ◌%◌, ◌≡◌, List, Bool, true, false, ◌||◌, length, drop, get_or, ltb, eqb}
use Rattle.std.proofs.Math.Path.{refl, subst⁻¹}
use Rattle.word.specs.Word.{u32_at}
use Rattle.walk.specs.Cases.{by_cases}
use Rattle.walk.specs.Listing.{Move, item, pass, over, fail, Listing, all}
use Rattle.walk.specs.FailsLaws.{StepFailsBy, FailsBy, all_by, mapped_by, spread_by}
use Rattle.refusal.specs.Told.{Told, longest}
use Rattle.area.specs.Parts.{Raw, Lack, bite}
use Rattle.kinds.specs.Kind.{LINES, FILE_CHECKSUMS, INLINEE_LINES, CROSS_SCOPE_IMPORTS, CROSS_SCOPE_EXPORTS, Sort, known, skipped, unknown, on_sort}
use Rattle.area.specs.Subs.{subs_from}
use Rattle.area.specs.SubsLaws.{whole_as, judged, head_at, left, subs_all, bodied}
use Rattle.body.specs.Lines.{line_head_size, line_head, columned, blocks}
use Rattle.body.specs.LinesLaws.{blocks_by}
use Rattle.body.specs.Checksums.{up4, checksum_bite, checksums}
use Rattle.body.specs.Inlinees.{extended, extra_bite, inlinee_bite, inlinees}
use Rattle.body.specs.Imports.{module_bite, modules}
use Rattle.body.specs.Exports.{pair_bite, pairs}
use Rattle.reading.specs.Reading.{Item, each, block, checksum, inlinee, imports, exports, lines_items, checksums_items, inlinees_items, imports_items, exports_items, items_of, sub_items, reading}

-- the numbers that a reading may refuse with
abbrev pub among : ℕ → Bool
among n = eqb n 1 || eqb n 2 || eqb n 3 || eqb n 4 || eqb n 7 || eqb n 11

abbrev pub Among : Told → Type 0
Among t = among t.number ≡ true

-- a listing refuses with one of them, if it does; and so does a bite
abbrev pub Refuses : {B : Type 0} → Listing B Told → Type 0
Refuses = FailsBy Among

abbrev Bites : {S B : Type 0} → Move S B Told → Type 0
Bites = StepFailsBy Among

-- ---- the records of a body

checksum_refuses : (s : List ℕ) → Bites (checksum_bite s)
unfolding checksum_bite
checksum_refuses s =
    by_cases Bites (eqb (length s) 0) (λ e. tt)
    (λ e. by_cases Bites (ltb (length s) 6) (λ e. refl)
    (λ e. by_cases Bites (ltb (length s - 6) (get_or s 4 0)) (λ e. refl)
    (λ e. by_cases Bites (ltb 3 (get_or s 5 0)) (λ e. refl)
    (λ e. by_cases Bites (ltb (length s) (up4 (6 + get_or s 4 0))) (λ e. refl) (λ e. tt)))))

extra_refuses : (x : Bool) (s : List ℕ) → Bites (extra_bite x s)
extra_refuses false s = tt
extra_refuses true s =
    by_cases Bites (ltb (length s) 16) (λ e. refl) (λ e. by_cases Bites (ltb (length s - 16) (4 * u32_at s 12)) (λ e. refl) (λ e. tt))

inlinee_refuses : (x : Bool) (s : List ℕ) → Bites (inlinee_bite x s)
unfolding inlinee_bite
inlinee_refuses x s =
    by_cases Bites (eqb (length s) 0) (λ e. tt) (λ e. by_cases Bites (ltb (length s) 12) (λ e. refl) (λ e. extra_refuses x s))

module_refuses : (s : List ℕ) → Bites (module_bite s)
unfolding module_bite
module_refuses s =
    by_cases Bites (eqb (length s) 0) (λ e. tt)
    (λ e. by_cases Bites (ltb (length s) 8) (λ e. refl) (λ e. by_cases Bites (ltb (length s - 8) (4 * u32_at s 4)) (λ e. refl) (λ e. tt)))

pair_refuses : (s : List ℕ) → Bites (pair_bite s)
unfolding pair_bite
pair_refuses s = by_cases Bites (eqb (length s) 0) (λ e. tt) (λ e. by_cases Bites (ltb (length s) 8) (λ e. refl) (λ e. tt))

-- ---- a subsection

each_refuses : {B : Type 0} (f : B → Item) (l : Listing B Told) → Refuses l → Refuses (each f l)
each_refuses = mapped_by Among

-- the records of a body, where each bite does
bites_refuse : {B : Type 0} (f : B → Item) (bite : List ℕ → Move (List ℕ) B Told) → ((s : List ℕ) → Bites (bite s)) → (s : List ℕ)
    → Refuses (each f (all bite length s))
bites_refuse f bite h s = each_refuses f (all bite length s) (all_by Among bite h length s)

items_refuse : (r : Raw) → Refuses (items_of r)
unfolding items_of lines_items checksums_items inlinees_items imports_items exports_items checksums inlinees modules pairs
items_refuse r =
    by_cases Refuses (eqb r.kind LINES)
    (λ e. by_cases Refuses (ltb (length b) line_head_size) (λ e. refl)
    (λ e. each_refuses block (blocks c (drop line_head_size b)) (blocks_by Among refl refl c (drop line_head_size b))))
    (λ e. by_cases Refuses (eqb r.kind FILE_CHECKSUMS) (λ e. bites_refuse checksum checksum_bite checksum_refuses b)
    (λ e. by_cases Refuses (eqb r.kind INLINEE_LINES)
    (λ e. by_cases Refuses (ltb (length b) 4) (λ e. refl)
    (λ e. bites_refuse inlinee (inlinee_bite x) (inlinee_refuses x) (drop 4 b)))
    (λ e. by_cases Refuses (eqb r.kind CROSS_SCOPE_IMPORTS) (λ e. bites_refuse imports module_bite module_refuses b)
    (λ e. by_cases Refuses (eqb r.kind CROSS_SCOPE_EXPORTS)
    (λ e. by_cases Refuses (eqb (length b % 8) 0)
    (λ e. each_refuses exports (pairs b) (by_cases Refuses (eqb (length b % 8) 0) (λ e. all_by Among pair_bite pair_refuses length b) (λ e. refl))) (λ e. refl))
    (λ e. tt)))))
  where
    b : List ℕ
    b = r.body

    c : Bool
    c = columned (line_head r.body).flags

    x : Bool
    x = extended (u32_at r.body 0)

-- ---- the subsections of an area

by_sort : {A : Type 0} (P : A → Type 0) (o : Sort) {x y z : A} → P x → P y → P z → P (on_sort o x y z)
by_sort P known a b c = a
by_sort P skipped a b c = b
by_sort P unknown a b c = c

module _ (rule : ℕ → Sort) (s : List ℕ) where
  whole_refuses : (k p n : ℕ) → Bites (whole_as rule k p n)
  unfolding whole_as
  whole_refuses k p n = by_sort Bites (rule k) tt tt refl

  judged_refuses : (p : ℕ) (u : Move (List ℕ) Raw Lack) → Bites (judged rule p u)
  judged_refuses p (item r t) = whole_refuses r.kind p (length r.body)
  judged_refuses p (pass t) = tt
  judged_refuses p over = tt
  judged_refuses p (fail c) = refl

  head_refuses : (p : ℕ) → Bites (head_at rule s p)
  unfolding head_at
  head_refuses p =
      by_cases Bites (ltb longest (length s)) (λ e. refl) (λ e. by_cases Bites (ltb (length s) p) (λ e. refl) (λ e. judged_refuses p (bite (drop p s))))

  subs_refuse : (p : ℕ) → Refuses (subs_from rule s p)
  subs_refuse p = subst⁻¹ Refuses (subs_all rule s p) (all_by Among (head_at rule s) head_refuses (left s) p)

-- THE THEOREM
pub reading_refuses : (rule : ℕ → Sort) (s : List ℕ) → Refuses (reading rule s)
unfolding reading
reading_refuses rule s = spread_by Among (sub_items s) (λ b. items_refuse (bodied s b)) (subs_from rule s 0) (subs_refuse rule s 0)
