-- Laws of the bodies that slots name: the search for a body, where it lies, that a search need not begin at the area's start, and one slot after
-- the other.
use Prim.Native.Nat.{ℕ, zero, suc, ◌+◌, ◌-◌, ◌<◌, ◌≤◌}
use Rattle.std.specs.Prelude.{◌≡◌, refl, true, false, cond, length, drop, ltb, leb, eqb}
use Rattle.std.proofs.Math.Path.{sym, ap, subst⁻¹}
use Rattle.std.proofs.Common.{◌∙◌, add-one, drop_of_length-le, drop-cons, ltb-true, leb-true, leb-false, eqb-true, eq-eqb, ne_eqb}
use mathlib.Core.List.{List, [], ◌∷◌}
use native.Mathlib.Omega.{arith}
use Rattle.std.proofs.Math.ListN.{get_or}
use Rattle.walk.specs.Cases.{tests, by_cases, and_true}
use Rattle.word.specs.Word.{u32_at}
use Rattle.walk.specs.Listing.{Listing, more, ends, fails, Reply, gave, nothing, refused, gives}
use Rattle.walk.specs.ListingLaws.{Every, Has, every_both, every_has}
use Rattle.walk.specs.Pick.{first_by, map_reply}
use Rattle.walk.specs.PickLaws.{Gives}
use Rattle.refusal.specs.Told.{Told, told}
use Rattle.refusal.specs.declared.Refusal.TheVariants as why
use Rattle.kinds.specs.Kind.{LINES, Sort}
use Rattle.area.specs.Subs.{Sub, subs_from, step_at}
use Rattle.area.specs.SubsLaws.{Inside, subs_inside, SubHead, subs_headed, Chained, subs_chained}
use Rattle.find.specs.Find.{same, Span, span_of}
use Rattle.find.specs.FindLaws.{first_hit, first_miss}
use Rattle.lines.specs.Lines.{count_lines, Body, body_on}
use Rattle.lines.specs.Slots.{starts_at, body_in, body_from, body_at, name_then, named, list_in, list_of, scan_from, name_of, slot_at, Scans}

-- ---- the loop of `seek`: the laws of `find` for a first one, at this test

starts_not : (v : ℕ) (b : Sub) → (b.start ≡ v → ⊥) → starts_at v b ≡ false
starts_not v b h = simp tests

module _ (rule : ℕ → Sort) (s : List ℕ) (p v : ℕ) (b : Sub) (x : ℕ) (q : gives b x ≡ step_at rule s p) where
  pub seek_miss : (b.start ≡ v → ⊥) → body_from rule s x v ≡ body_from rule s p v
  seek_miss h = first_miss rule s p (starts_at v) b x q (starts_not v b h)

  pub seek_other : b.start ≡ v → (b.kind ≡ LINES → ⊥) → body_from rule s x v ≡ body_from rule s p v
  seek_other h₁ h = first_miss rule s p (starts_at v) b x q (rw (eq-eqb b.start v h₁, ne_eqb b.kind LINES h))

  pub seek_hit : b.start ≡ v → b.kind ≡ LINES → gave (span_of b) ≡ body_from rule s p v
  seek_hit h₁ h = first_hit rule s p (starts_at v) b x q (rw (eq-eqb b.start v h₁, eq-eqb b.kind LINES h))

-- ---- where a body lies

abbrev Lies : ℕ → ℕ → Span → Type 0
Lies m v a = (a.start ≡ v) × (a.start + a.len ≤ m)

starts_start : (v : ℕ) (b : Sub) → starts_at v b ≡ true → b.start ≡ v
starts_start v b e = eqb-true b.start v (and_true (eqb b.start v) (eqb b.kind LINES) e).0

lies_in : (m v : ℕ) (l : Listing Sub Told) → Every (Inside m) l → Gives (Lies m v) (body_in v l)
unfolding first_by
lies_in m v (more b l) q =
    by_cases (λ (x : Reply Sub Told). Gives (Lies m v) (map_reply span_of same x)) (starts_at v b) (λ e. (starts_start v b e, q.0)) (λ e. lies_in m v l q.1)
lies_in m v ends q = tt
lies_in m v (fails t) q = tt

body_lies : (rule : ℕ → Sort) (s : List ℕ) (p v : ℕ) → Gives (Lies (length s) v) (body_from rule s p v)
body_lies rule s p v = lies_in (length s) v (subs_from rule s p) (subs_inside rule s p)

-- ---- a search from p finds each body behind p that a search from the area's start finds

pub scans_start : (rule : ℕ → Sort) (s : List ℕ) → Scans rule s 0
scans_start rule s v h = refl

pub scan_on : (p v : ℕ) → p < v → p ≡ scan_from p v
unfolding scan_from
scan_on p v h = simp tests

pub scan_anew : (p v : ℕ) → v ≤ p → 0 ≡ scan_from p v
unfolding scan_from
scan_anew p v h = simp tests

scan_right : (rule : ℕ → Sort) (s : List ℕ) (p v : ℕ) → Scans rule s p → body_from rule s (scan_from p v) v ≡ body_from rule s 0 v
unfolding scan_from
scan_right rule s p v g = by_cases (λ q. body_from rule s q v ≡ body_from rule s 0 v) (ltb p v) (λ e. g v (ltb-true p v e)) (λ e. refl)

pub body_passed : (b : Sub) (l : Listing Sub Told) (v : ℕ) → (b.start ≡ v → ⊥) → body_in v l ≡ body_in v (more b l)
unfolding first_by
body_passed b l v h = sym (simp (starts_not v b h))

module _ (rule : ℕ → Sort) (s : List ℕ) where
  -- behind a body that is found
  behind : (l : Listing Sub Told) (p : ℕ) → Chained rule s p l → (v : ℕ) (a : Span) → gave a ≡ body_in v l
      → (p ≤ a.start + a.len) × ((u : ℕ) → a.start + a.len < u → body_from rule s (a.start + a.len) u ≡ body_in u l)
  unfolding first_by
  behind (more b l) p w v a =
      let x = b.start + b.len in
      let ih = behind l x (subst⁻¹ (Chained rule s x) w.0 (subs_chained rule s x)) v a in
      by_cases (λ (o : Reply Sub Told). gave a ≡ map_reply span_of same o → Goal) (starts_at v b) (λ e q. here q) (λ e q. later (ih q))
    where
      Goal : Type 0
      Goal = (p ≤ a.start + a.len) × ((u : ℕ) → a.start + a.len < u → body_from rule s (a.start + a.len) u ≡ body_in u (more b l))

      here : ◌≡◌ {A = Reply Span Told} (gave a) (gave (span_of b)) → Goal
      here q =
          let es : a.start ≡ b.start = cc in
          let en : a.len ≡ b.len = cc in
          let ex : a.start + a.len ≡ b.start + b.len = omega arith in
          (omega arith, λ u h. ap (λ y. body_from rule s y u) ex ∙ ap (body_in u) (sym w.0) ∙ body_passed b l u (λ g. omega arith))

      later : (b.start + b.len ≤ a.start + a.len) × ((u : ℕ) → a.start + a.len < u → body_from rule s (a.start + a.len) u ≡ body_in u l) → Goal
      later r = (omega arith, λ u h. r.1 u h ∙ body_passed b l u (λ g. omega arith))
  behind ends p w v a = λ q. let z : ◌≡◌ {A = ℕ} 0 1 = cc in absurd (omega arith)
  behind (fails t) p w v a = λ q. let z : ◌≡◌ {A = ℕ} 0 1 = cc in absurd (omega arith)

  scans_found : (v : ℕ) (a : Span) → gave a ≡ body_from rule s 0 v → Scans rule s (a.start + a.len)
  scans_found v a q = (behind (subs_from rule s 0) 0 (subs_chained rule s 0) v a q).1

-- ---- one slot

-- where the search begins does not matter
pub slot_same : (rule : ℕ → Sort) (s v : List ℕ) (i p q : ℕ) → Scans rule s p → Scans rule s q → slot_at rule s v i p ≡ slot_at rule s v i q
unfolding slot_at
slot_same rule s v i p q f g =
    ap (λ x. cond (leb (length v) i) (refused (told why.WrongSlot)) (name_of x)) (scan_right rule s p (get_or v i 0) f ∙ sym (scan_right rule s q (get_or v i 0) g))

module _ (rule : ℕ → Sort) (s v : List ℕ) (i p : ℕ) where
  pub slot_missing : length v ≤ i → refused (told why.WrongSlot) ≡ slot_at rule s v i p
  unfolding slot_at
  slot_missing h = simp tests

  -- x as code has it: what the search from q answers
  pub slot_is : i < length v → (q : ℕ) (x : Reply Span Told) → q ≡ scan_from p (get_or v i 0) → x ≡ body_from rule s q (get_or v i 0)
      → name_of x ≡ slot_at rule s v i p
  unfolding slot_at
  slot_is h q x eq ex =
      ap name_of (ex ∙ ap (λ k. body_from rule s k (get_or v i 0)) eq) ∙ sym (simp tests)

  abbrev pub SlotIn : Span → Type 0
  SlotIn a = (i < length v) × (a.start + a.len ≤ length s)

  name_in : (x : Reply Span Told) → i < length v → Gives (Lies (length s) (get_or v i 0)) x → Gives SlotIn (name_of x)
  name_in (gave a) h l = (h, l.1)
  name_in nothing h l = tt
  name_in (refused t) h l = tt

  pub slot_lies : Gives SlotIn (slot_at rule s v i p)
  unfolding slot_at
  slot_lies =
      by_cases (Gives SlotIn) (leb (length v) i) (λ e. tt)
      (λ e. name_in (body_from rule s (scan_from p (get_or v i 0)) (get_or v i 0)) (leb-false (length v) i e) (body_lies rule s (scan_from p (get_or v i 0)) (get_or v i 0)))

  -- the slot is there, and the body lies in the area
  pub slot_inside : (a : Span) → gave a ≡ slot_at rule s v i p → SlotIn a
  slot_inside a e = subst⁻¹ (Gives SlotIn) e slot_lies

  module _ (g : Scans rule s p) where
    name_scans : (x : Reply Span Told) → x ≡ body_from rule s 0 (get_or v i 0) → Gives (λ a. Scans rule s (a.start + a.len)) (name_of x)
    name_scans (gave a) e = scans_found rule s (get_or v i 0) a e
    name_scans nothing e = tt
    name_scans (refused t) e = tt

    pub slot_scanned : Gives (λ a. Scans rule s (a.start + a.len)) (slot_at rule s v i p)
    unfolding slot_at
    slot_scanned =
        by_cases (Gives (λ (a : Span). Scans rule s (a.start + a.len))) (leb (length v) i) (λ e. tt)
        (λ e. name_scans (body_from rule s (scan_from p (get_or v i 0)) (get_or v i 0)) (scan_right rule s p (get_or v i 0) g))

    -- and the next search may begin behind it
    pub slot_scans : (a : Span) → gave a ≡ slot_at rule s v i p → Scans rule s (a.start + a.len)
    slot_scans a e = subst⁻¹ (Gives (λ (x : Span). Scans rule s (x.start + x.len))) e slot_scanned

    name_then_lem : {B : Type 0} (f : Span → B) (x : Reply Span Told) (l : Listing B Told) → name_then (map_reply f same x) l ≡ name_then (map_reply f same (name_of x)) l
    name_then_lem f (gave a) l = refl
    name_then_lem f nothing l = refl
    name_then_lem f (refused t) l = refl

    -- what n slots from the i-th on name: this one, and those behind it
    pub named_slot : (n : ℕ) → 1 ≤ n
        → named (body_at rule s) n (drop i v) ≡ name_then (map_reply (body_on s) same (slot_at rule s v i p)) (named (body_at rule s) (n - 1) (drop (i + 1) v))
    unfolding slot_at named
    named_slot n h =
        let e : n ≡ suc (n - 1) = omega arith in
        let k = get_or v i 0 in
        let scan = sym (scan_right rule s p k g) in
        let next : suc i ≡ i + 1 = sym (add-one i) in
        by_cases (λ x. named (body_at rule s) n (drop i v) ≡ name_then (map_reply (body_on s) same x) (named (body_at rule s) (n - 1) (drop (i + 1) v)))
        (leb (length v) i) (λ l j. named (body_at rule s) (e j) (drop_of_length-le v (leb-true (length v) i l) j))
        (λ l.
        (λ j. named (body_at rule s) (e j) (drop-cons v i 0 (leb-false (length v) i l) j))
        ∙ name_then_lem (body_on s) (body_from rule s 0 k) (named (body_at rule s) (n - 1) (drop (suc i) v))
        ∙ (λ j. name_then (map_reply (body_on s) same (name_of (scan j))) (named (body_at rule s) (n - 1) (drop (next j) v))))

-- ---- each body of a list is that of a line subsection of the area, whose header stands before it

-- the line subsection whose body starts at a, of the length that stands before it
abbrev pub sub_by : List ℕ → ℕ → Sub
sub_by s a = record { kind = LINES; start = a; len = u32_at s (a - 4) }

abbrev pub body_by : List ℕ → ℕ → Body
body_by s a = body_on s (span_of (sub_by s a))

-- it is one of the area's, and the bytes before a are its header
pub record LineSubAt (rule : ℕ → Sort) (s : List ℕ) (a : ℕ) : Type 0 where
  pub header : SubHead s (sub_by s a)
  pub among : Has (sub_by s a) (subs_from rule s 0)

pub record IsLineBody (rule : ℕ → Sort) (s : List ℕ) (b : Body) : Type 0 where
  pub at : LineSubAt rule s b.start
  pub is : b ≡ body_by s b.start

module _ (rule : ℕ → Sort) (s : List ℕ) where
  abbrev Among : Sub → Type 0
  Among b = SubHead s b × Has b (subs_from rule s 0)

  line_body : (v : ℕ) (b : Sub) → Among b → starts_at v b ≡ true → IsLineBody rule s (body_on s (span_of b))
  line_body v b h e =
      let k = eqb-true b.kind LINES (and_true (eqb b.start v) (eqb b.kind LINES) e).1 in
      let n = h.0.len in
      let is : sub_by s b.start ≡ b = λ i. record { kind = sym k i; start = b.start; len = n i } in record {
        at = record { header = subst⁻¹ (SubHead s) is h.0; among = subst⁻¹ (λ (x : Sub). Has x (subs_from rule s 0)) is h.1 };
        is = ap (λ (x : Sub). body_on s (span_of x)) (sym is);
      }

  line_body_in : (v : ℕ) (l : Listing Sub Told) → Every Among l → Gives (IsLineBody rule s) (map_reply (body_on s) same (body_in v l))
  unfolding first_by
  line_body_in v (more b l) q =
      by_cases (λ (x : Reply Sub Told). Gives (IsLineBody rule s) (map_reply (body_on s) same (map_reply span_of same x))) (starts_at v b)
      (λ e. line_body v b q.0 e) (λ e. line_body_in v l q.1)
  line_body_in v ends q = tt
  line_body_in v (fails t) q = tt

  line_body_at : (v : ℕ) → Gives (IsLineBody rule s) (body_at rule s v)
  line_body_at v =
      let l = subs_from rule s 0 in
      line_body_in v l (every_both (SubHead s) (λ b. Has b l) Among (λ b p q. (p, q)) l (subs_headed rule s 0) (every_has l))

  name_line_body : (x : Reply Body Told) (l : Listing Body Told) → Gives (IsLineBody rule s) x → Every (IsLineBody rule s) l
      → Every (IsLineBody rule s) (name_then x l)
  name_line_body (gave b) l h e = (h, e)
  name_line_body nothing l h e = tt
  name_line_body (refused t) l h e = tt

  named_line_bodies : (n : ℕ) (vs : List ℕ) → Every (IsLineBody rule s) (named (body_at rule s) n vs)
  unfolding named
  named_line_bodies zero vs = tt
  named_line_bodies (suc n) [] = tt
  named_line_bodies (suc n) (v ∷ vs) = name_line_body (body_at rule s v) (named (body_at rule s) n vs) (line_body_at v) (named_line_bodies n vs)

  pub list_line_bodies : (v : List ℕ) → Every (IsLineBody rule s) (list_of rule s v)
  list_line_bodies v = by (count_lines rule s)
    where
      by : (x : Reply ℕ Told) → Every (IsLineBody rule s) (list_in rule s v x)
      by (gave n) = named_line_bodies n v
      by nothing = tt
      by (refused t) = tt
