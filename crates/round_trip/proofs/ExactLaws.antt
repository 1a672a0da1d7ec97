-- The rules of a call, by the list of the calls before it: in what subsections of good form list, each call obeys them. So a call that is refused with 16 or
-- 17 is in no such list behind the calls before it, and every other is.
use Rattle.std.specs.Prelude.{ℕ, ◌+◌, ◌%◌, ◌≡◌, refl, ◌⊎◌, List, [], ◌∷◌, ◌++◌, map, Bool, cond, length, leb, eqb}
use Rattle.std.proofs.Common.{sym, ap, ◌∙◌, inl, inr, ⊎_elim, append_assoc, arith, length-append, le-leb, eq-eqb, eqb-true}
use Rattle.std.proofs.Math.Bool.{true, false}
use Rattle.std.proofs.Math.Option.{Option, none, some}
use Rattle.walk.specs.Listing.{Reply, gave, refused, ends, before, and_then, spread}
use Rattle.refusal.specs.Told.{Told, told}
use Rattle.refusal.specs.declared.Refusal.TheVariants as why
use Rattle.kinds.specs.Kind.{LINES, FILE_CHECKSUMS, INLINEE_LINES, CROSS_SCOPE_IMPORTS, CROSS_SCOPE_EXPORTS}
use Rattle.area.specs.Join.{join}
use Rattle.area.specs.JoinLaws.{parts_whole}
use Rattle.body.specs.Lines.{columned}
use Rattle.body.specs.Inlinees.{extended}
use Rattle.body.specs.Exports.{Pair}
use Rattle.body.specs.RunLaws.{Each, each_snoc}
use Rattle.body.specs.LinesLaws.{Filled}
use Rattle.body.specs.InlineesLaws.{Fits}
use Rattle.reading.specs.Reading.{Item, block, checksum, inlinee, imports, exports, opens, items_of}
use Rattle.plain.specs.Plain.{Last, nothing_yet, plain_from}
use Rattle.writer_decides.specs.Calls.{item_kind, bytes_for, obeys, Act, goes, stops, limit, place, of_kind, room, else_not_plain, needs, on_last, wrote, answered}
use Rattle.writer_decides.specs.CallLaws.{needs_is, kind_some}
use Rattle.round_trip.specs.Secs.{Sec, lines_of, checksums_of, inlinees_of, imports_of, exports_of, opaque_of, kind_sec, body_sec, calls_sec, Sized, Ascend, floor_after, GoodSec, mark_sec, raws_of, calls_of, last_of}
use Rattle.round_trip.proofs.SecLaws.{before_append, then_before, good_reads, plain_from_lem}
use Rattle.round_trip.proofs.HoldLaws.{calls_snoc, join_length, last_snoc, Snoc, snoc_view, each_init, bigger, fresh}
use Rattle.round_trip.proofs.RoundLaws.{before_one}
use Rattle.round_trip.proofs.AgainLaws.{block_obeys, checksum_obeys, extra_obeys}
use Rattle.round_trip.specs.Listed.{PlainAtAnyLength, items_in, kind_after, mark_next, mark_after}
use Rattle.round_trip.proofs.ListedLaws.{area_of, area_lists, listed_before}

-- a call obeys the rules behind a subsection of a kind and a mark
pub record Fitting (k m : ℕ) (i : Item) : Type 0 where
  pub kind : (opens i ≡ true) ⊎ (k ≡ item_kind i)
  pub rule : obeys m i ≡ true

abbrev Obeyed : ℕ → ℕ → List Item → Type 0
Obeyed k m [] = Unit {0}
Obeyed k m (i ∷ is) = Fitting k m i × Obeyed (item_kind i) (mark_next m i) is

last_fits : (xs : List Item) (it : Item) (k m : ℕ) → Obeyed k m (xs ++ (it ∷ [])) → Fitting (kind_after k xs) (mark_after m xs) it
last_fits [] it k m o = o.0
last_fits (x ∷ xs) it k m o = last_fits xs it (item_kind x) (mark_next m x) o.1

-- ---- the calls of a subsection of good form

module _ (is : List Item) where
  -- records that leave kind and mark as they are
  same_obeyed : {B : Type 0} (f : B → Item) (P : B → Type 0) (k m : ℕ) → ((b : B) → item_kind (f b) ≡ k) → ((b : B) → mark_next m (f b) ≡ m) → ((b : B)
      → P b → obeys m (f b) ≡ true)
      → (bs : List B) → Each P bs → Obeyed k m is → Obeyed k m (map f bs ++ is)
  same_obeyed f P k m ek em eo [] g o = o
  same_obeyed f P k m ek em eo (b ∷ bs) g o =
      (record { kind = inr (sym (ek b)); rule = eo b g.0 }, rw (ek b, em b) (same_obeyed f P k m ek em eo bs g.1 o))

  pairs_obeyed : (f : ℕ) (ps : List Pair) → Ascend f ps → Obeyed CROSS_SCOPE_EXPORTS (floor_after f ps) is
      → Obeyed CROSS_SCOPE_EXPORTS f (map exports ps ++ is)
  pairs_obeyed f [] g o = o
  pairs_obeyed f (p ∷ ps) g o = (record { kind = inr refl; rule = le-leb f p.local g.0 }, pairs_obeyed (p.local + 1) ps g.1 o)

  sec_obeyed : (s : Sec) → GoodSec s → (k m : ℕ) → Obeyed (kind_sec s) (mark_sec s) is → Obeyed k m (calls_sec s ++ is)
  sec_obeyed (lines_of h bs) g k m o =
      let r = same_obeyed block (Filled (columned h.flags)) LINES (h.flags % 2) (λ b. refl) (λ b. refl) (λ b w. block_obeys h.flags b w) bs g o in
      (record { kind = inl refl; rule = refl }, r)
  sec_obeyed (checksums_of cs) g k m o =
      (record { kind = inl refl; rule = refl }, same_obeyed checksum Sized FILE_CHECKSUMS 0 (λ b. refl) (λ b. refl) (λ b w. checksum_obeys b w) cs g o)
  sec_obeyed (inlinees_of n es) g k m o =
      let r = same_obeyed inlinee (Fits (extended n)) INLINEE_LINES n (λ b. refl) (λ b. refl) (λ b w. extra_obeys (extended n) b w) es g.1 o in
      (record { kind = inl refl; rule = le-leb n 1 g.0 }, r)
  sec_obeyed (imports_of ms) g k m o =
      (record { kind = inl refl; rule = refl }, same_obeyed imports (λ x. Unit {0}) CROSS_SCOPE_IMPORTS 0 (λ b. refl) (λ b. refl) (λ b w. refl) ms g o)
  sec_obeyed (exports_of ps) g k m o = (record { kind = inl refl; rule = refl }, pairs_obeyed 0 ps g o)
  sec_obeyed (opaque_of j b) g k m o = (record { kind = inl refl; rule = rw (g.0, eq-eqb (length b % 4) 0 g.1) }, o)

  -- and where they lead
  same_after : {B : Type 0} (f : B → Item) (k m : ℕ) → ((b : B) → item_kind (f b) ≡ k) → ((b : B) → mark_next m (f b) ≡ m)
      → (bs : List B) → (kind_after k (map f bs ++ is) ≡ kind_after k is) × (mark_after m (map f bs ++ is) ≡ mark_after m is)
  same_after f k m ek em [] = (refl, refl)
  same_after f k m ek em (b ∷ bs) = let r = same_after f k m ek em bs in (
    ap (λ (x : ℕ). kind_after x (map f bs ++ is)) (ek b) ∙ r.0,
    ap (λ (x : ℕ). mark_after x (map f bs ++ is)) (em b) ∙ r.1,
  )

  pairs_after : (f : ℕ) (ps : List Pair)
      → (kind_after CROSS_SCOPE_EXPORTS (map exports ps ++ is) ≡ kind_after CROSS_SCOPE_EXPORTS is)
      × (mark_after f (map exports ps ++ is) ≡ mark_after (floor_after f ps) is)
  pairs_after f [] = (refl, refl)
  pairs_after f (p ∷ ps) = pairs_after (p.local + 1) ps

  sec_after : (s : Sec) (k m : ℕ) → (kind_after k (calls_sec s ++ is) ≡ kind_after (kind_sec s) is) × (mark_after m (calls_sec s ++ is) ≡ mark_after (mark_sec s) is)
  sec_after (lines_of h bs) k m = same_after block LINES (h.flags % 2) (λ b. refl) (λ b. refl) bs
  sec_after (checksums_of cs) k m = same_after checksum FILE_CHECKSUMS 0 (λ b. refl) (λ b. refl) cs
  sec_after (inlinees_of n es) k m = same_after inlinee INLINEE_LINES n (λ b. refl) (λ b. refl) es
  sec_after (imports_of ms) k m = same_after imports CROSS_SCOPE_IMPORTS 0 (λ b. refl) (λ b. refl) ms
  sec_after (exports_of ps) k m = pairs_after 0 ps
  sec_after (opaque_of j b) k m = (refl, refl)

secs_obeyed : (ss : List Sec) → Each GoodSec ss → (k m : ℕ) → Obeyed k m (calls_of ss)
secs_obeyed [] g k m = tt
secs_obeyed (s ∷ ss) g k m = sec_obeyed (calls_of ss) s g.0 k m (secs_obeyed ss g.1 (kind_sec s) (mark_sec s))

pub last_after : (ss : List Sec) (p : ℕ) (l : Last)
    → ((last_of p l ss).kind ≡ kind_after l.kind (calls_of ss)) × ((last_of p l ss).mark ≡ mark_after l.mark (calls_of ss))
last_after [] p l = (refl, refl)
last_after (s ∷ ss) p l =
    let r = last_after ss (p + 8 + length (body_sec s)) (record { header = p; kind = kind_sec s; mark = mark_sec s }) in
    let a = sec_after (calls_of ss) s l.kind l.mark in
    (r.0 ∙ sym a.0, r.1 ∙ sym a.1)

-- ---- an area that lists the calls so far and one more

abbrev pub Longer : List Item → Item → Type 0
Longer xs it = (s : List ℕ) × PlainAtAnyLength s × (items_in s ≡ before (xs ++ (it ∷ [])) ends)

-- such a call fits
pub longer_fits : (ss : List Sec) (it : Item) → Longer (calls_of ss) it → Fitting (last_of 0 nothing_yet ss).kind (last_of 0 nothing_yet ss).mark it
longer_fits ss it (s, p, e) =
    let A = area_of s p in
    let ts = A.secs.secs in
    let c : calls_of ts ≡ calls_of ss ++ (it ∷ []) = before_one (calls_of ts) (calls_of ss ++ (it ∷ [])) (sym (area_lists s A) ∙ e) in
    let o : Obeyed 0 0 (calls_of ss ++ (it ∷ [])) = rw c at (secs_obeyed ts A.secs.good 0 0) in
    let f = last_fits (calls_of ss) it 0 0 o in
    let l = last_after ss 0 nothing_yet in
    record { kind = rw l.0 f.kind; rule = ap (λ (m : ℕ). obeys m it) l.1 ∙ f.rule }

-- and a call that fits is such a call
secs_list : (ss : List Sec) → Each GoodSec ss → spread items_of (before (raws_of ss) ends) ≡ before (calls_of ss) ends
secs_list [] g = refl
secs_list (s ∷ ss) g =
    let a = good_reads s g.0 in
    let b = secs_list ss g.1 in
    (λ i. and_then (a i) (b i)) ∙ then_before (calls_sec s) (before (calls_of ss) ends) ∙ sym (before_append (calls_sec s) (calls_of ss) ends)

pub secs_plain : (ss : List Sec) → Each GoodSec ss → PlainAtAnyLength (join (raws_of ss))
secs_plain ss g = (last_of 0 nothing_yet ss, ap (plain_from 0 nothing_yet) (parts_whole (raws_of ss)) ∙ plain_from_lem ss 0 nothing_yet g)

pub secs_lists : (ss : List Sec) → Each GoodSec ss → items_in (join (raws_of ss)) ≡ before (calls_of ss) ends
secs_lists ss g = listed_before (join (raws_of ss)) (raws_of ss) (parts_whole (raws_of ss)) ∙ secs_list ss g

secs_longer : (ss : List Sec) → Each GoodSec ss → (xs : List Item) (it : Item) → calls_of ss ≡ xs ++ (it ∷ []) → Longer xs it
secs_longer ss g xs it e = (join (raws_of ss), secs_plain ss g, secs_lists ss g ∙ ap (λ (x : List Item). before x ends) e)

-- one call more, that fits: the subsections that it leads to, whose bytes are longer by what the call needs
pub record OneMore (ss : List Sec) (it : Item) : Type 0 where
  pub secs : List Sec
  pub good : Each GoodSec secs
  pub calls : calls_of secs ≡ calls_of ss ++ (it ∷ [])
  pub len : length (join (raws_of secs)) ≡ length (join (raws_of ss)) + needs (last_of 0 nothing_yet ss).mark it

pub fits_more : (ss : List Sec) → Each GoodSec ss → (it : Item) → Fitting (last_of 0 nothing_yet ss).kind (last_of 0 nothing_yet ss).mark it → OneMore ss it
fits_more ss g it f = by (opens it) refl f.kind
  where
    m : ℕ
    m = (last_of 0 nothing_yet ss).mark

    at_none : opens it ≡ false → (last_of 0 nothing_yet ss).kind ≡ item_kind it → ss ≡ [] → OneMore ss it
    at_none e k z = absurd (kind_some it e (sym k ∙ ap (λ (x : List Sec). (last_of 0 nothing_yet x).kind) z))

    at_last : opens it ≡ false → (last_of 0 nothing_yet ss).kind ≡ item_kind it → Snoc ss → OneMore ss it
    at_last e k v =
        let l : last_of 0 nothing_yet ss ≡ record { header = 0 + length (join (raws_of v.init)); kind = kind_sec v.last; mark = mark_sec v.last } =
        ap (last_of 0 nothing_yet) v.is ∙ last_snoc v.init v.last 0 nothing_yet in
        let gv : Each GoodSec (v.init ++ (v.last ∷ [])) = rw v.is at g in
        let gi = each_init GoodSec v.init v.last gv in
        let ek : kind_sec v.last ≡ item_kind it = sym (ap (λ (x : Last). x.kind) l) ∙ k in
        let em : m ≡ mark_sec v.last = ap (λ (x : Last). x.mark) l in
        let o : obeys (mark_sec v.last) it ≡ true = ap (λ (x : Last). obeys x.mark it) (sym l) ∙ f.rule in
        let F = bigger it v.last e gi.1 ek o in
        let n : needs m it ≡ length (bytes_for (mark_sec v.last) it) = ap (λ (x : ℕ). needs x it) em ∙ needs_is it e (mark_sec v.last) in
        let body : length (body_sec F.sec) ≡ length (body_sec v.last) + length (bytes_for (mark_sec v.last) it) =
        ap length F.body ∙ length-append (body_sec v.last) (bytes_for (mark_sec v.last) it) in
        let old : length (join (raws_of ss)) ≡ length (join (raws_of v.init)) + (8 + length (body_sec v.last)) =
        ap (λ (x : List Sec). length (join (raws_of x))) v.is ∙ join_length v.init v.last in
        record {
          secs = v.init ++ (F.sec ∷ []);
          good = each_snoc GoodSec v.init F.sec gi.0 F.good;
          calls = calls_snoc v.init F.sec ∙ ap (λ (x : List Item). calls_of v.init ++ x) F.calls
              ∙ sym (append_assoc (calls_of v.init) (calls_sec v.last) (it ∷ []))
              ∙ ap (λ (x : List Item). x ++ (it ∷ [])) (sym (calls_snoc v.init v.last) ∙ ap calls_of (sym v.is));
          len = join_length v.init F.sec ∙ omega (arith, n, body, old);
        }

    by : (t : Bool) → opens it ≡ t → (opens it ≡ true) ⊎ ((last_of 0 nothing_yet ss).kind ≡ item_kind it) → OneMore ss it
    by true e k =
        let F = fresh it m e f.rule in
        let n : needs m it ≡ 8 + length (bytes_for m it) = needs_is it e m in
        let body : length (body_sec F.sec) ≡ length (bytes_for m it) = ap length F.body in
        record {
          secs = ss ++ (F.sec ∷ []);
          good = each_snoc GoodSec ss F.sec g F.good;
          calls = calls_snoc ss F.sec ∙ ap (λ (x : List Item). calls_of ss ++ x) F.calls;
          len = join_length ss F.sec ∙ omega (arith, n, body);
        }
    by false e (inl z) = let y : ◌≡◌ {A = Bool} false true = sym e ∙ z in let n : ◌≡◌ {A = ℕ} 0 1 = cc in absurd (omega arith)
    by false e (inr k) = ⊎_elim (at_none e k) (at_last e k) (snoc_view ss)

pub fits_longer : (ss : List Sec) → Each GoodSec ss → (it : Item) → Fitting (last_of 0 nothing_yet ss).kind (last_of 0 nothing_yet ss).mark it
    → Longer (calls_of ss) it
fits_longer ss g it f = let M = fits_more ss g it f in secs_longer M.secs M.good (calls_of ss) it M.calls

-- ---- what the call answers

not_same : (r t : Told) → (r.number ≡ t.number → ⊥) → ◌≡◌ {A = Reply ℕ Told} (refused r) (refused t) → ⊥
not_same r t h q = let z : r ≡ t = cc in h (ap (λ (x : Told). x.number) z)

not_gave : (n : ℕ) (t : Told) → ◌≡◌ {A = Reply ℕ Told} (gave n) (refused t) → ⊥
not_gave n t q = let z : ◌≡◌ {A = ℕ} 0 1 = cc in omega arith

module _ (it : Item) (b : List ℕ) (w : ℕ) (l : Last) (p : place b w ≡ some l) where
  abbrev Told16 : Type 0
  Told16 = answered it b w ≡ refused (told why.WrongPlace)

  abbrev Told17 : Type 0
  Told17 = answered it b w ≡ refused (told why.NotPlain)

  -- the answer, by its two tests
  pub answer_is : (t u : Bool) → (cond (opens it) true (eqb l.kind (item_kind it)) ≡ t) → obeys l.mark it ≡ u
      → answered it b w ≡ wrote (cond t (else_not_plain u (room (length b) w l.header l.mark (needs l.mark it))) (stops (told why.WrongPlace)))
  answer_is t u et eu = ap wrote (by (opens it) et)
    where
      f : Last → Act
      f x = else_not_plain (obeys x.mark it) (room (length b) w x.header x.mark (needs x.mark it))

      here : f l ≡ else_not_plain u (room (length b) w l.header l.mark (needs l.mark it))
      here = ap (λ (x : Bool). else_not_plain x (room (length b) w l.header l.mark (needs l.mark it))) eu

      kinds : (k : Bool) → on_last (cond k (some l) none) (stops (told why.WrongPlace)) f ≡ cond k (f l) (stops (told why.WrongPlace))
      kinds true = refl
      kinds false = refl

      by : (o : Bool) → cond o true (eqb l.kind (item_kind it)) ≡ t
          → on_last (cond o (place b w) (of_kind (item_kind it) (place b w))) (stops (told why.WrongPlace)) f
          ≡ cond t (else_not_plain u (room (length b) w l.header l.mark (needs l.mark it))) (stops (told why.WrongPlace))
      by true e = ap (λ (x : Option Last). on_last x (stops (told why.WrongPlace)) f) p ∙ here
          ∙ ap (λ (x : Bool). cond x (else_not_plain u (room (length b) w l.header l.mark (needs l.mark it))) (stops (told why.WrongPlace))) e
      by false e =
          ap (λ (x : Option Last). on_last (of_kind (item_kind it) x) (stops (told why.WrongPlace)) f) p ∙ kinds (eqb l.kind (item_kind it))
          ∙ ap (λ (x : Bool). cond x (f l) (stops (told why.WrongPlace))) e ∙ ap (λ (x : Act). cond t x (stops (told why.WrongPlace))) here

  room_not : (t : Told) → (10 ≡ t.number → ⊥) → wrote (room (length b) w l.header l.mark (needs l.mark it)) ≡ refused t → ⊥
  unfolding room
  room_not t h = by (leb (w + needs l.mark it) (limit (length b)))
    where
      by : (c : Bool) → wrote (cond c (goes l.header l.mark (w + needs l.mark it)) (stops (told why.NoRoom))) ≡ refused t → ⊥
      by true q = not_gave (w + needs l.mark it) t q
      by false q = not_same (told why.NoRoom) t h q

  pub fits_told : Fitting l.kind l.mark it → (Told16 → ⊥) × (Told17 → ⊥)
  fits_told f =
      let a = answer_is true true (by (opens it) refl f.kind) f.rule in (
        λ q. room_not (told why.WrongPlace) (λ z. omega arith) (sym a ∙ q),
        λ q. room_not (told why.NotPlain) (λ z. omega arith) (sym a ∙ q),
      )
    where
      by : (o : Bool) → opens it ≡ o → (opens it ≡ true) ⊎ (l.kind ≡ item_kind it) → cond o true (eqb l.kind (item_kind it)) ≡ true
      by true e k = refl
      by false e (inl z) = let y : ◌≡◌ {A = Bool} false true = sym e ∙ z in let n : ◌≡◌ {A = ℕ} 0 1 = cc in absurd (omega arith)
      by false e (inr k) = eq-eqb l.kind (item_kind it) k

  pub told_fits : (Told16 → ⊥) → (Told17 → ⊥) → Fitting l.kind l.mark it
  told_fits n₁₆ n₁₇ = go (cond (opens it) true (eqb l.kind (item_kind it))) refl (obeys l.mark it) refl
    where
      of_test : (o : Bool) → opens it ≡ o → cond o true (eqb l.kind (item_kind it)) ≡ true → (opens it ≡ true) ⊎ (l.kind ≡ item_kind it)
      of_test true e q = inl e
      of_test false e q = inr (eqb-true l.kind (item_kind it) q)

      go : (t : Bool) → cond (opens it) true (eqb l.kind (item_kind it)) ≡ t → (u : Bool) → obeys l.mark it ≡ u → Fitting l.kind l.mark it
      go true et true eu = record { kind = of_test (opens it) refl et; rule = eu }
      go true et false eu = absurd (n₁₇ (answer_is true false et eu))
      go false et u eu = absurd (n₁₆ (answer_is false u et eu))
