-- A list left as it was built: its slots name the line bodies of the area, each once, in ascending (section, offset) and equal keys in area order;
-- slots behind those are not read.
use Rattle.std.specs.Prelude.{ℕ, ◌+◌, ◌*◌, ◌<◌, ◌≤◌, ◌≡◌, Bool, drop, ltb, eqb}
use Rattle.std.proofs.Math.Path.{refl, sym, ap, subst⁻¹}
use Rattle.std.proofs.Common.{◌∙◌, ltb-false, eq-eqb, add-zero}
use mathlib.Core.List.{List, [], ◌∷◌, ◌++◌, map}
use Rattle.std.proofs.Math.Bool.{true, false, cond}
use native.Mathlib.Omega.{arith}
use Rattle.std.proofs.Math.ListN.{length}
use Rattle.std.proofs.lemmas.List.{length-map}
use Rattle.word.specs.Word.{u16_at, u32_at}
use Rattle.word.specs.WordLaws.{u16_drop, u32_drop, u16_take, u32_take}
use Rattle.walk.specs.Cases.{by_cases}
use Rattle.walk.specs.Listing.{Listing, more, ends, fails, mapped, before, gave}
use Rattle.walk.specs.Pick.{only, first_by, map_reply}
use Rattle.refusal.specs.Told.{Told, longest, number_of}
use Rattle.kinds.specs.Kind.{LINES, Sort}
use Rattle.area.specs.Parts.{Raw}
use Rattle.area.specs.Subs.{Sub, subs_from, bodies}
use Rattle.area.specs.SubsLaws.{Chained, subs_chained, bodied, area_bodies}
use Rattle.find.specs.Find.{same, is, span_of}
use Rattle.lines.specs.Lines.{headed, count_of, count_lines, Body, body_on}
use Rattle.lines.specs.Slots.{body_in, body_from, body_at, name_then, named, list_in, list_of}
use Rattle.lines.specs.SlotsLaws.{body_passed}
use Rattle.lines.specs.LinesLaws.{counted_short}
use Rattle.body_list.specs.BodyList.{listed, sub_start, starts_from, slots_holding}
use Rattle.body_list.specs.BodyListLaws.{plus_one, counted_starts, listed_counted}
use Rattle.slot_key.specs.Sort.{sort_by}
use Rattle.slot_key.specs.SortLaws.{Each, each_map, each_sort, Pairs, pairs_sort, map_sort, length_sort}
use Rattle.slot_key.specs.Rank.{key_at}
use Rattle.slot_key.specs.RankLaws.{After, Ascends, stable}
use Rattle.order.specs.Order.{order_of, ordered, slots_after, body_of, line_bodies, key_of, in_order}

abbrev lines : Listing Sub Told → List Sub
lines l = listed (only (is LINES) l)

-- ---- each line subsection of an area is the one that its body's start names

abbrev Found : Listing Sub Told → ℕ → ℕ → Sub → Type 0
Found l m p b = (p + 8 ≤ b.start) × (b.start + b.len ≤ m) × (body_in b.start l ≡ gave (span_of b))

first_found : (b : Sub) (l : Listing Sub Told) → eqb b.kind LINES ≡ true → body_in b.start (more b l) ≡ gave (span_of b)
unfolding first_by
first_found b l e = rw (eq-eqb b.start b.start refl, e)

module _ (rule : ℕ → Sort) (s : List ℕ) where
  found : (l : Listing Sub Told) (p : ℕ) → Chained rule s p l → Each (Found l (length s) p) (lines l)
  unfolding only listed
  found (more b l) p w =
      let x = b.start + b.len in
      let rest = each_map (Found l (length s) x) (Found (more b l) (length s) p)
      (λ d f. (omega arith, f.1, sym (body_passed b l d.start (λ g. omega arith)) ∙ f.2))
      (lines l) (found l x (subst⁻¹ (Chained rule s x) w.0 (subs_chained rule s x))) in
      by_cases (λ (k : Listing Sub Told). Each (Found (more b l) (length s) p) (listed k)) (eqb b.kind LINES)
      (λ e. ((w.1, w.2, first_found b l e), rest)) (λ e. rest)
  found ends p w = tt
  found (fails t) p w = tt

-- ---- the starts ascend

each_after : (x m p : ℕ) (l : Listing Sub Told) (bs : List Sub) → x < p + 8 → m ≤ longest → Each (Found l m p) bs → After x (map sub_start bs)
each_after x m p l [] h k e = tt
each_after x m p l (b ∷ bs) h k e = (omega arith, omega (arith, e.0.1), each_after x m p l bs h k e.1)

module _ (rule : ℕ → Sort) (s : List ℕ) (short : length s ≤ longest) where
  pub ascends : (l : Listing Sub Told) (p : ℕ) → Chained rule s p l → Ascends (map sub_start (lines l))
  unfolding only listed
  ascends (more b l) p w =
      let x = b.start + b.len in
      let c = subst⁻¹ (Chained rule s x) w.0 (subs_chained rule s x) in
      by_cases (λ (k : Listing Sub Told). Ascends (map sub_start (listed k))) (eqb b.kind LINES)
      (λ e. (omega arith, each_after b.start (length s) x l (lines l) (omega arith) short (found rule s l x c), ascends l x c))
      (λ e. ascends l x c)
  ascends ends p w = tt
  ascends (fails t) p w = tt

-- so no two line bodies of an area start at the same place
abbrev pub StartsApart : Body → Body → Type 0
StartsApart b c = b.start ≡ c.start → ⊥

apart_after : (s : List ℕ) (b : Sub) (ds : List Sub) → After b.start (map sub_start ds) → Each (StartsApart (body_of s b)) (map (body_of s) ds)
apart_after s b [] h = tt
apart_after s b (d ∷ ds) h = (λ e. omega arith, apart_after s b ds h.2)

apart_ascending : (s : List ℕ) (ds : List Sub) → Ascends (map sub_start ds) → Pairs StartsApart (map (body_of s) ds)
apart_ascending s [] h = tt
apart_ascending s (d ∷ ds) h = (apart_after s d ds h.1, apart_ascending s ds h.2)

pub bodies_apart : (rule : ℕ → Sort) (s : List ℕ) → length s ≤ longest → Pairs StartsApart (in_order rule s)
bodies_apart rule s h =
    pairs_sort key_of StartsApart (λ b c f e. f (sym e)) (line_bodies rule s)
    (apart_ascending s (lines (subs_from rule s 0)) (ascends rule s h (subs_from rule s 0) 0 (subs_chained rule s 0)))

-- to sort by rank is to sort by the key alone: equal keys stay in the order of the area
pub order_stable : (rule : ℕ → Sort) (s : List ℕ) → length s ≤ longest → sort_by (key_at s) (starts_from rule s 0) ≡ order_of rule s
order_stable rule s h = stable s (starts_from rule s 0) (ascends rule s h (subs_from rule s 0) 0 (subs_chained rule s 0))

-- ---- the key of a body is that of its place

abbrev weight_of : List ℕ → Sub → ℕ
weight_of s b = key_at s b.start

same_key : (s : List ℕ) (b : Sub) → 12 ≤ b.len → key_of (body_of s b) ≡ weight_of s b
unfolding key_of key_at
same_key s b h =
    let a = b.start in
    let e₁ : u16_at (body_of s b).bytes 4 ≡ u16_at s (a + 4) = u16_take (drop a s) b.len 4 (omega arith) ∙ u16_drop s a 4 in
    let e₂ : u32_at (body_of s b).bytes 0 ≡ u32_at s a = u32_take (drop a s) b.len 0 (omega arith) ∙ u32_drop s a 0 ∙ ap (u32_at s) (add-zero a) in
    λ i. e₁ i * 0x1_0000_0000 + e₂ i

-- ---- the tests were passed

whole : (l : Listing Sub Told) (n : ℕ) → gave n ≡ count_of (headed l) → Each (λ b. 12 ≤ b.len) (listed l)
unfolding headed count_of listed
whole (more b l) n =
    by_cases (λ (k : Listing Sub Told). gave n ≡ count_of k → Each (λ (d : Sub). 12 ≤ d.len) (b ∷ listed l)) (ltb b.len 12)
    (λ e q. let z : ◌≡◌ {A = ℕ} 0 1 = cc in absurd (omega arith))
    (λ e q. let m = plus_one (count_of (headed l)) n q in (ltb-false b.len 12 e, whole l m.0 m.1))
whole ends n = λ q. tt
whole (fails t) n = λ q. tt

-- ---- the bodies without their starts

module _ {B C R Q : Type 0} (g : B → C) (h : R → Q) (f : C → Bool) where
  only_mapped : (l : Listing B R) → mapped g h (only (λ (b : B). f (g b)) l) ≡ only f (mapped g h l)
  unfolding only
  only_mapped (more b l) = both (f (g b)) (only_mapped l)
    where
      both : (t : Bool) → mapped g h (only (λ (x : B). f (g x)) l) ≡ only f (mapped g h l)
          → mapped g h (cond t (more b (only (λ (x : B). f (g x)) l)) (only (λ (x : B). f (g x)) l)) ≡ cond t (more (g b) (only f (mapped g h l))) (only f (mapped g h l))
      both true e = ap (more (g b)) e
      both false e = e
  only_mapped ends = refl
  only_mapped (fails r) = refl

listed_mapped : {B C R Q : Type 0} (g : B → C) (h : R → Q) (l : Listing B R) → map g (listed l) ≡ listed (mapped g h l)
unfolding listed
listed_mapped g h (more b l) = ap (λ k. g b ∷ k) (listed_mapped g h l)
listed_mapped g h ends = refl
listed_mapped g h (fails r) = refl

abbrev is_lines : Raw → Bool
is_lines r = eqb r.kind LINES

abbrev raw_body : Raw → List ℕ
raw_body r = r.body

abbrev bytes_in : Body → List ℕ
bytes_in b = b.bytes

pub map_map : {A B C : Type 0} (g : A → B) (f : B → C) (xs : List A) → map (λ (x : A). f (g x)) xs ≡ map f (map g xs)
map_map g f [] = refl
map_map g f (x ∷ xs) = ap (λ l. f (g x) ∷ l) (map_map g f xs)

-- their bytes are the line bodies of the area's description, in which there is no place
pub line_bytes_lem : (rule : ℕ → Sort) (s : List ℕ) → map bytes_in (line_bodies rule s) ≡ map raw_body (listed (only is_lines (bodies rule s)))
line_bytes_lem rule s =
    sym (map_map (body_of s) bytes_in (lines (subs_from rule s 0))) ∙ map_map (bodied s) raw_body (lines (subs_from rule s 0))
    ∙ ap (map raw_body) (listed_mapped (bodied s) number_of (only (is LINES) (subs_from rule s 0))
    ∙ ap listed (only_mapped (bodied s) number_of is_lines (subs_from rule s 0) ∙ ap (only is_lines) (area_bodies rule s)))

-- ---- what the slots name

name_all : (rule : ℕ → Sort) (s : List ℕ) (bs : List Sub) (vs : List ℕ) (n : ℕ) → length bs ≡ n
    → Each (λ b. body_from rule s 0 b.start ≡ gave (span_of b)) bs
    → named (body_at rule s) n (map sub_start bs ++ vs) ≡ before (map (body_of s) bs) ends
unfolding named
name_all rule s [] vs n h e = ap (λ k. named (body_at rule s) k vs) (sym h)
name_all rule s (b ∷ bs) vs n h e =
    ap (λ k. named (body_at rule s) k (b.start ∷ (map sub_start bs ++ vs))) (sym h)
    ∙ ap (λ x. name_then (map_reply (body_on s) same x) (named (body_at rule s) (length bs) (map sub_start bs ++ vs))) e.0
    ∙ ap (more (body_of s b)) (name_all rule s bs vs (length bs) refl e.1)

abbrev pub body_start : Body → ℕ
body_start b = b.start

module _ (rule : ℕ → Sort) (s : List ℕ) (n : ℕ) (e : gave n ≡ count_lines rule s) where
  bs : List Sub
  bs = lines (subs_from rule s 0)

  sorted : List Sub
  sorted = sort_by (weight_of s) bs

  order_is : map sub_start sorted ≡ order_of rule s
  unfolding sorted bs
  order_is = map_sort (weight_of s) (key_at s) sub_start bs (each_all bs) ∙ order_stable rule s (counted_short rule s n e)
    where
      each_all : (ds : List Sub) → Each (λ d. weight_of s d ≡ weight_of s d) ds
      each_all [] = tt
      each_all (d ∷ ds) = (refl, each_all ds)

  bodies_are : map (body_of s) sorted ≡ in_order rule s
  unfolding sorted bs
  bodies_are =
      map_sort (weight_of s) key_of (body_of s) bs (each_map (λ b. 12 ≤ b.len) (λ b. key_of (body_of s b) ≡ weight_of s b) (same_key s) bs
      (whole (only (is LINES) (subs_from rule s 0)) n e))

  -- THE THEOREM for the slots: they hold where the line bodies start, in walk order
  pub order_starts : map body_start (in_order rule s) ≡ order_of rule s
  unfolding sorted bs
  order_starts = ap (map body_start) (sym bodies_are) ∙ sym (map_map (body_of s) body_start sorted) ∙ order_is

  -- THE THEOREM for the list: behind the first n slots nothing is read, and those name the area's line bodies in walk order
  pub built_list : (vs : List ℕ) → list_of rule s (order_of rule s ++ vs) ≡ before (in_order rule s) ends
  unfolding sorted bs
  built_list vs =
      ap (list_in rule s (order_of rule s ++ vs)) (sym e)
      ∙ ap (λ o. named (body_at rule s) n (o ++ vs)) (sym order_is)
      ∙ name_all rule s sorted vs n (length_sort (weight_of s) bs ∙ number) (each_sort (weight_of s) (λ b. body_from rule s 0 b.start ≡ gave (span_of b)) bs
      (each_map (Found (subs_from rule s 0) (length s) 0) (λ b. body_from rule s 0 b.start ≡ gave (span_of b)) (λ b f. f.2) bs (found rule s (subs_from rule s 0) 0 (subs_chained rule s 0))))
      ∙ ap (λ k. before k ends) bodies_are
    where
      number : length bs ≡ n
      number = sym (length-map bs sub_start) ∙ counted_starts rule s n e

-- as `order_list` leaves it
pub built : (rule : ℕ → Sort) (s xs : List ℕ) (n : ℕ) → gave n ≡ ordered rule s (length xs) → list_of rule s (slots_after rule s xs) ≡ before (in_order rule s) ends
built rule s xs n e =
    ap (λ x. list_of rule s (slots_holding (order_of rule s) xs x)) (sym e) ∙ built_list rule s n (listed_counted (length xs) (count_lines rule s) n e) (drop n xs)

-- THE THEOREM for the list of bodies: it holds where the line bodies start, in the order of the area
pub body_starts : (rule : ℕ → Sort) (s : List ℕ) → map body_start (line_bodies rule s) ≡ starts_from rule s 0
body_starts rule s = sym (map_map (body_of s) body_start (listed (only (is LINES) (subs_from rule s 0))))
