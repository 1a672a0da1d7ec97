-- A call on the rest of a buffer behind a plain area answers and leaves what the call on the whole does. So a run of calls that writes apart is the run
-- of calls on the whole.
use Rattle.std.specs.Prelude.{ℕ, ◌+◌, ◌-◌, ◌<◌, ◌≤◌, ◌≡◌, refl, ◌⊎◌, List, [], ◌∷◌, ◌++◌, Bool, cond, length, take, drop, leb, eqb}
use Rattle.std.proofs.Common.{sym, ap, ◌∙◌, ⊎_elim, append_assoc, append-nil, arith, length-append, length-take, length-drop, take-append-drop, length-take-le, take-take, take_at, le-ltb, ne_eqb, eqb-true, leb-true, leb-false}
use Rattle.std.proofs.Math.Path.{subst⁻¹}
use Rattle.std.proofs.Math.Logic.{inl, inr}
use Rattle.std.proofs.Math.Bool.{true, false}
use Rattle.std.proofs.Math.Option.{Option, none, some}
use Rattle.std.proofs.Math.ListN.{get_or-append}
use Rattle.std.proofs.lemmas.List.{take-append-le, drop-append-le}
use Rattle.std.proofs.Math.Seq.{take-append-add, drop-append-add}
use Rattle.word.specs.Word.{u32_at, le32, put, header}
use Rattle.word.specs.WordLaws.{header_length, le32_length, put_length_lem}
use Rattle.walk.specs.Cases.{le_or_gt}
use Rattle.walk.specs.Listing.{Move, item, pass, over, fail, more, ends, fails, on_move, Reply, gave, refused}
use Rattle.walk.specs.ListingLaws.{To}
use Rattle.refusal.specs.Told.{Told, told, longest}
use Rattle.refusal.specs.declared.Refusal.TheVariants as why
use Rattle.area.specs.Parts.{Raw, Lack, Parts, bite, parts}
use Rattle.area.specs.PartsLaws.{parts_step, Bitten, parts_ind}
use Rattle.area.specs.JoinLaws.{parts_nil, nothing_left}
use Rattle.body.specs.RunLaws.{nil_of}
use Rattle.reading.specs.Reading.{Item, open_lines, block, open_checksums, checksum, open_inlinees, inlinee, open_imports, imports, open_exports, exports, opaque, opens}
use Rattle.plain.specs.Plain.{mark_of, Last, nothing_yet, on_mark, plain_from, plain_of}
use Rattle.plain.specs.LastLaws.{not_long, last_lies}
use Rattle.writer_decides.specs.Calls.{item_kind, bytes_for, obeys, Act, goes, stops, limit, place, of_kind, last_for, room, else_not_plain, needs, on_last, act, grown, patch, wrote, kept, answered, buffer_after}
use Rattle.writer_decides.specs.CallLaws.{room_there, room_none, place_past, place_in, place_some, needs_is, patch_is, kind_some, act_goes}
use Rattle.round_trip.specs.Secs.{last_of}
use Rattle.round_trip.specs.Run.{State, place_after, done_after, called, run_calls}
use Rattle.round_trip.specs.Apart.{Apart, begins_at, rest_from, counted_from, answered_apart, buffer_apart, begins_after, called_apart, run_apart, begun}
use Rattle.round_trip.proofs.EachLaws.{refused_same}
use Rattle.round_trip.proofs.RoundLaws.{plain_here, Held, call_held, empty_holds}

-- ---- a plain area in front of others

never : {A B : Type 0} {x : B} → ◌≡◌ {A = Option B} none (some x) → A
never e = let z : ◌≡◌ {A = ℕ} 0 1 = cc in absurd (omega arith)

u32_left : (s t : List ℕ) (i : ℕ) → i + 4 ≤ length s → u32_at (s ++ t) i ≡ u32_at s i
unfolding u32_at
u32_left s t i h =
    rw (
      get_or-append s t 0 i (omega arith),
      get_or-append s t 0 (i + 1) (omega arith),
      get_or-append s t 0 (i + 2) (omega arith),
      get_or-append s t 0 (i + 3) (omega arith),
    )

-- a subsection in front is the same whatever is behind the bytes
bite_left : (s t : List ℕ) (r : Raw) (v : List ℕ) → Bitten s (item r v) → bite (s ++ t) ≡ item r (v ++ t)
unfolding bite
bite_left s t r v w =
    let n = length r.body in
    let S : List ℕ = s ++ t in
    let l = length-append s t in
    let e₀ : u32_at S 0 ≡ r.kind = u32_left s t 0 (omega arith) ∙ sym w.1 in
    let e₄ : u32_at S 4 ≡ n = u32_left s t 4 (omega arith) ∙ sym w.2 in
    let eb : take (u32_at S 4) (drop 8 S) ≡ r.body =
    ap (λ (m : ℕ). take m (drop 8 S)) e₄ ∙ ap (take n) (drop-append-le 8 s t (omega arith))
    ∙ take-append-le n (drop 8 s) t (omega (arith, length-drop 8 s)) ∙ sym w.3 in
    let et : drop (8 + u32_at S 4) S ≡ v ++ t =
    ap (λ (m : ℕ). drop (8 + m) S) e₄ ∙ drop-append-le (8 + n) s t (omega arith) ∙ ap (λ (x : List ℕ). x ++ t) (sym w.4) in
    let h : (length S ≡ 0 → ⊥) = λ z. omega arith in
    rw (ne_eqb (length S) 0 h, le-ltb (length S) 8 (omega arith), le-ltb (length S - 8) (u32_at S 4) (omega arith))
    (λ i. item (record { kind = e₀ i; body = eb i }) (et i))

-- what is behind a plain area goes on from its end and its last subsection
abbrev Fronts : List ℕ → List ℕ → Parts → Type 0
Fronts t s l = (p : ℕ) (last x : Last) → plain_from p last l ≡ some x → plain_from p last (parts (s ++ t)) ≡ plain_from (p + length s) x (parts t)

from_front : (t s : List ℕ) → Fronts t s (parts s)
unfolding plain_from
from_front t = parts_ind (Fronts t) one
  where
    on : (s : List ℕ) (r : Raw) (v : List ℕ) → Bitten s (item r v) → Fronts t v (parts v) → (p : ℕ) (x : Last) (o : Option ℕ)
        → on_mark o none (λ m. plain_from (p + 8 + length r.body) (record { header = p; kind = r.kind; mark = m }) (parts v)) ≡ some x
        → on_mark o none (λ m. plain_from (p + 8 + length r.body) (record { header = p; kind = r.kind; mark = m }) (parts (v ++ t)))
        ≡ plain_from (p + length s) x (parts t)
    on s r v w f p x none q = never q
    on s r v w f p x (some m) q =
        let n = length r.body in
        let e : p + 8 + n + length v ≡ p + length s = omega (arith, w.0, ap length w.4 ∙ length-drop (8 + n) s) in
        f (p + 8 + n) (record { header = p; kind = r.kind; mark = m }) x q ∙ ap (λ (k : ℕ). plain_from k x (parts t)) e

    one : (s : List ℕ) (u : Move (List ℕ) Raw Lack) → Bitten s u → To u (λ v. Fronts t v (parts v)) → Fronts t s (on_move parts u)
    one s (item r v) w f p last x q =
        ap (plain_from p last) (parts_step (s ++ t) ∙ ap (on_move parts) (bite_left s t r v w)) ∙ on s r v w f p x (mark_of r.kind r.body) q
    one s (pass v) w f p last x q = absurd w
    one s over w f p last x q =
        let z : last ≡ x = cc in
        let n : s ≡ [] = nil_of s w in
        let e : p ≡ p + length s = omega arith in
        ap (λ (y : List ℕ). plain_from p last (parts (y ++ t))) n ∙ ap (λ (y : Last). plain_from p y (parts t)) z ∙ ap (λ (k : ℕ). plain_from k x (parts t)) e
    one s (fail c) w f p last x q = never q

pub plain_front : (s t : List ℕ) (x : Last) → plain_of s ≡ some x → length s + length t ≤ longest → plain_of (s ++ t) ≡ plain_from (length s) x (parts t)
unfolding plain_of
plain_front s t x q l =
    let e : 0 + length s ≡ length s = omega arith in
    rw (le-ltb longest (length (s ++ t)) (omega (arith, length-append s t)))
    (from_front t s 0 nothing_yet x (not_long s x q) ∙ ap (λ (k : ℕ). plain_from k x (parts t)) e)

-- ---- the last subsection, counted from another start

abbrev pub further : ℕ → Last → Last
further k l = record { header = k + l.header; kind = l.kind; mark = l.mark }

abbrev further_if : ℕ → Option Last → Option Last
further_if k none = none
further_if k (some l) = some (further k l)

from_further : (l : Parts) (k p : ℕ) (last : Last) → plain_from (k + p) (further k last) l ≡ further_if k (plain_from p last l)
unfolding plain_from
from_further (more r l) k p last = go (mark_of r.kind r.body) (from_further l k (p + 8 + n))
  where
    n : ℕ
    n = length r.body

    go : (o : Option ℕ) → ((y : Last) → plain_from (k + (p + 8 + n)) (further k y) l ≡ further_if k (plain_from (p + 8 + n) y l))
        → on_mark o none (λ m. plain_from (k + p + 8 + n) (record { header = k + p; kind = r.kind; mark = m }) l)
        ≡ further_if k (on_mark o none (λ m. plain_from (p + 8 + n) (record { header = p; kind = r.kind; mark = m }) l))
    go none ih = refl
    go (some m) ih =
        let e : k + p + 8 + n ≡ k + (p + 8 + n) = omega arith in
        ap (λ (x : ℕ). plain_from x (record { header = k + p; kind = r.kind; mark = m }) l) e ∙ ih (record { header = p; kind = r.kind; mark = m })
from_further ends k p last = refl
from_further (fails c) k p last = refl

-- behind the first subsection nobody asks what was before it
from_any : (l : Parts) (p : ℕ) (x y : Last) → (l ≡ ends → ⊥) → plain_from p x l ≡ plain_from p y l
unfolding plain_from
from_any (more r l) p x y h = refl
from_any ends p x y h = absurd (h refl)
from_any (fails c) p x y h = refl

-- whether it is plain does not depend on the place
pub from_after : (l : Parts) (p k : ℕ) (x y z : Last) → plain_from p x l ≡ some z → (v : Last) × (plain_from k y l ≡ some v)
unfolding plain_from
from_after (more r l) p k x y z q =
    go (mark_of r.kind r.body) q (λ a b. from_after l (p + 8 + length r.body) (k + 8 + length r.body) a b z)
  where
    n : ℕ
    n = length r.body

    go : (o : Option ℕ) → on_mark o none (λ m. plain_from (p + 8 + n) (record { header = p; kind = r.kind; mark = m }) l) ≡ some z
        → ((a b : Last) → plain_from (p + 8 + n) a l ≡ some z → (v : Last) × (plain_from (k + 8 + n) b l ≡ some v))
        → (v : Last) × (on_mark o none (λ m. plain_from (k + 8 + n) (record { header = k; kind = r.kind; mark = m }) l) ≡ some v)
    go none q ih = never q
    go (some m) q ih = ih (record { header = p; kind = r.kind; mark = m }) (record { header = k; kind = r.kind; mark = m }) q
from_after ends p k x y z q = (y, refl)
from_after (fails c) p k x y z q = never q

-- something is written behind the front, or there is no front
abbrev pub Behind : ℕ → Last → ℕ → Type 0
Behind k x w = (0 < w) ⊎ (x ≡ further k nothing_yet)

plain_further : (s t : List ℕ) (x : Last) (k : ℕ) → plain_of s ≡ some x → length s ≡ k → length s + length t ≤ longest → Behind k x (length t)
    → plain_of (s ++ t) ≡ further_if k (plain_of t)
unfolding plain_of
plain_further s t x k q e l h =
    let z : length s ≡ k + 0 = omega arith in
    plain_front s t x q l ∙ ap (λ (n : ℕ). plain_from n x (parts t)) z ∙ same h ∙ from_further (parts t) k 0 nothing_yet
    ∙ ap (further_if k) (let p : plain_from 0 nothing_yet (parts t) ≡ plain_of t = (rw (le-ltb longest (length t) (omega arith))) in p)
  where
    same : Behind k x (length t) → plain_from (k + 0) x (parts t) ≡ plain_from (k + 0) (further k nothing_yet) (parts t)
    same (inl g) = from_any (parts t) (k + 0) x (further k nothing_yet) (λ d. omega (arith, ap length (nothing_left t d)))
    same (inr d) = ap (λ (y : Last). plain_from (k + 0) y (parts t)) d

-- ---- bytes put into the middle of a buffer

put_middle : (T M Z bs : List ℕ) (k w n : ℕ) → length T ≡ k → n ≡ k + w → w + length bs ≤ length M → put (T ++ (M ++ Z)) n bs ≡ T ++ (put M w bs ++ Z)
put_middle T M Z bs k w n e en h =
    let B : List ℕ = T ++ (M ++ Z) in
    let m : n ≡ length T + w = omega arith in
    let d : n + length bs ≡ length T + (w + length bs) = omega arith in
    let tk : take n B ≡ T ++ take w M =
    ap (λ (x : ℕ). take x B) m ∙ take-append-add T (M ++ Z) w ∙ ap (λ (x : List ℕ). T ++ x) (take-append-le w M Z (omega arith)) in
    let dr : drop (n + length bs) B ≡ drop (w + length bs) M ++ Z =
    ap (λ (x : ℕ). drop x B) d ∙ drop-append-add T (M ++ Z) (w + length bs) ∙ drop-append-le (w + length bs) M Z h in
    (λ i. tk i ++ (bs ++ dr i)) ∙ (simp append_assoc)

grown_middle : (T M Z bs : List ℕ) (k w n h g : ℕ) → length T ≡ k → n ≡ k + w → g ≡ k + h → w + length bs ≤ length M → h + 8 ≤ w
    → grown (T ++ (M ++ Z)) n bs g ≡ T ++ (grown M w bs h ++ Z)
grown_middle T M Z bs k w n h g e en eg f l =
    let v = w + length bs - h - 8 in
    let ev : n + length bs - g - 8 ≡ v = omega arith in
    let lm : length (put M w bs) ≡ length M = put_length_lem M w bs f in
    ap (λ (x : List ℕ). put x (g + 4) (le32 (n + length bs - g - 8))) (put_middle T M Z bs k w n e en f)
    ∙ ap (λ (x : ℕ). put (T ++ (put M w bs ++ Z)) (g + 4) (le32 x)) ev
    ∙ put_middle T (put M w bs) Z (le32 v) k (h + 4) (g + 4) e (omega arith) (omega (arith, le32_length v))

-- ---- a call that opens a subsection does not ask for the mark

no_open : {A : Type 0} → ◌≡◌ {A = Bool} false true → A
no_open e = let z : ◌≡◌ {A = ℕ} 0 1 = cc in absurd (omega arith)

open_any : (it : Item) (m n : ℕ) → opens it ≡ true → (obeys m it ≡ obeys n it) × (bytes_for m it ≡ bytes_for n it)
open_any (open_lines h) m n e = (refl, refl)
open_any (block b) m n e = no_open e
open_any open_checksums m n e = (refl, refl)
open_any (checksum c) m n e = no_open e
open_any (open_inlinees g) m n e = (refl, refl)
open_any (inlinee i) m n e = no_open e
open_any open_imports m n e = (refl, refl)
open_any (imports d) m n e = no_open e
open_any open_exports m n e = (refl, refl)
open_any (exports p) m n e = no_open e
open_any (opaque k b) m n e = (refl, refl)

pub empty_plain : plain_of [] ≡ some nothing_yet
unfolding plain_of plain_from
empty_plain = ap (plain_from 0 nothing_yet) parts_nil

-- ---- one call: on the whole buffer, and on its middle M behind the front T

module _ (T M Z : List ℕ) (k : ℕ) (it : Item) (w : ℕ) where
  abbrev B : List ℕ
  B = T ++ (M ++ Z)

  pub record Same : Type 0 where
    pub answer : answered it B (k + w) ≡ counted_from k (answered it M w)
    pub buffer : buffer_after it B (k + w) ≡ T ++ (buffer_after it M w ++ Z)

  stop_same : (t : Told) → act it B (k + w) ≡ stops t → act it M w ≡ stops t → Same
  stop_same t p q =
      record {
        answer = ap wrote p ∙ sym (ap (λ (a : Act). counted_from k (wrote a)) q);
        buffer = ap (λ (a : Act). kept a (patch it B (k + w)) B) p ∙ sym (ap (λ (a : Act). T ++ (kept a (patch it M w) M ++ Z)) q);
      }

  go_same : (h m n h' m' n' : ℕ) → act it B (k + w) ≡ goes h m n → act it M w ≡ goes h' m' n' → n ≡ k + n'
      → patch it B (k + w) h m ≡ T ++ (patch it M w h' m' ++ Z) → Same
  go_same h m n h' m' n' p q e f =
      record {
        answer = ap wrote p ∙ ap gave e ∙ sym (ap (λ (a : Act). counted_from k (wrote a)) q);
        buffer = ap (λ (a : Act). kept a (patch it B (k + w)) B) p ∙ f ∙ sym (ap (λ (a : Act). T ++ (kept a (patch it M w) M ++ Z)) q);
      }

  -- the last subsection on either side
  none_same : last_for it B (k + w) ≡ none → last_for it M w ≡ none → Same
  none_same p q = stop_same (told why.WrongPlace) (none_stops B (k + w) p) (none_stops M w q)
    where
      none_stops : (b : List ℕ) (x : ℕ) → last_for it b x ≡ none → act it b x ≡ stops (told why.WrongPlace)
      none_stops b x e =
          ap (λ (o : Option Last). on_last o (stops (told why.WrongPlace))
          (λ l. else_not_plain (obeys l.mark it) (room (length b) x l.header l.mark (needs l.mark it)))) e

  module _ (lt : length T ≡ k) (ll : limit (length B) ≡ k + length M) where
    limit_rest : limit (length M) ≡ length M
    limit_rest = omega arith

    some_act : (b : List ℕ) (x : ℕ) (l : Last) (t : Bool) → last_for it b x ≡ some l → obeys l.mark it ≡ t
        → act it b x ≡ else_not_plain t (room (length b) x l.header l.mark (needs l.mark it))
    some_act b x l t p o =
        ap (λ (y : Option Last). on_last y (stops (told why.WrongPlace))
        (λ z. else_not_plain (obeys z.mark it) (room (length b) x z.header z.mark (needs z.mark it)))) p
        ∙ ap (λ (y : Bool). else_not_plain y (room (length b) x l.header l.mark (needs l.mark it))) o

    module _ (l l' : Last) (p : last_for it B (k + w) ≡ some l) (p' : last_for it M w ≡ some l') (eb : bytes_for l.mark it ≡ bytes_for l'.mark it)
        (head : opens it ≡ false → (l.header ≡ k + l'.header) × (l'.header + 8 ≤ w)) where
      same_needs : needs l.mark it ≡ needs l'.mark it
      same_needs = ap (λ (x : List ℕ). cond (opens it) (8 + length x) (length x)) eb

      same_patch : w + needs l'.mark it ≤ length M → patch it B (k + w) l.header l.mark ≡ T ++ (patch it M w l'.header l'.mark ++ Z)
      same_patch f = by (opens it) refl
        where
          bs : List ℕ
          bs = bytes_for l'.mark it

          by : (t : Bool) → opens it ≡ t → patch it B (k + w) l.header l.mark ≡ T ++ (patch it M w l'.header l'.mark ++ Z)
          by true e =
              let H : List ℕ = header (item_kind it) (length bs) ++ bs in
              let lh : length H ≡ 8 + length bs =
              length-append (header (item_kind it) (length bs)) bs ∙ omega (arith, header_length (item_kind it) (length bs)) in
              let n : needs l'.mark it ≡ 8 + length bs = needs_is it e l'.mark in
              patch_is it e B (k + w) l.header l.mark ∙ ap (λ (x : List ℕ). put B (k + w) (header (item_kind it) (length x) ++ x)) eb
              ∙ put_middle T M Z H k w (k + w) lt refl (omega arith)
              ∙ sym (ap (λ (x : List ℕ). T ++ (x ++ Z)) (patch_is it e M w l'.header l'.mark))
          by false e =
              let n : needs l'.mark it ≡ length bs = needs_is it e l'.mark in
              let g = head e in
              patch_is it e B (k + w) l.header l.mark ∙ ap (λ (x : List ℕ). grown B (k + w) x l.header) eb
              ∙ grown_middle T M Z bs k w (k + w) l'.header l.header lt refl g.0 (omega arith) g.1
              ∙ sym (ap (λ (x : List ℕ). T ++ (x ++ Z)) (patch_is it e M w l'.header l'.mark))

      some_same : obeys l.mark it ≡ obeys l'.mark it → Same
      some_same eo = by (obeys l'.mark it) refl
        where
          n : ℕ
          n = needs l'.mark it

          roomy : (t : Bool) → leb (w + n) (length M) ≡ t → obeys l'.mark it ≡ true → Same
          roomy true f e =
              let g : w + n ≤ length M = leb-true (w + n) (length M) f in
              let x = same_needs in
              go_same l.header l.mark (k + w + needs l.mark it) l'.header l'.mark (w + n)
              (some_act B (k + w) l true p (eo ∙ e) ∙ sym (room_there (length B) (k + w) l.header l.mark (needs l.mark it) (omega arith)))
              (some_act M w l' true p' e ∙ sym (room_there (length M) w l'.header l'.mark n (omega (arith, limit_rest)))) (omega arith) (same_patch g)
          roomy false f e =
              let g : length M < w + n = leb-false (w + n) (length M) f in
              let x = same_needs in
              stop_same (told why.NoRoom)
              (some_act B (k + w) l true p (eo ∙ e) ∙ sym (room_none (length B) (k + w) l.header l.mark (needs l.mark it) (omega arith)))
              (some_act M w l' true p' e ∙ sym (room_none (length M) w l'.header l'.mark n (omega (arith, limit_rest))))

          by : (t : Bool) → obeys l'.mark it ≡ t → Same
          by true e = roomy (leb (w + n) (length M)) refl e
          by false e = stop_same (told why.NotPlain) (some_act B (k + w) l false p (eo ∙ e)) (some_act M w l' false p' e)

    -- where T is plain, x its last subsection, and something is behind it
    module _ (x : Last) (q : plain_of T ≡ some x) where
      whole_place : w ≤ length M → place B (k + w) ≡ plain_of (T ++ take w M)
      whole_place h =
          let e : k + w ≡ length T + w = omega arith in
          sym (place_in B (k + w) (omega arith) (plain_of (take (k + w) B)) refl)
          ∙ ap plain_of (ap (λ (n : ℕ). take n B) e ∙ take-append-add T (M ++ Z) w ∙ ap (λ (y : List ℕ). T ++ y) (take-append-le w M Z h))

      rest_place : w ≤ length M → place M w ≡ plain_of (take w M)
      rest_place h = sym (place_in M w (omega (arith, limit_rest)) (plain_of (take w M)) refl)

      places : Behind k x w → place B (k + w) ≡ further_if k (place M w)
      places h = ⊎_elim within past (le_or_gt w (length M))
        where
          within : w ≤ length M → place B (k + w) ≡ further_if k (place M w)
          within g =
              let n : length (take w M) ≡ w = length-take-le w M g in
              whole_place g ∙ plain_further T (take w M) x k q lt (omega arith) (rw n h) ∙ ap (further_if k) (sym (rest_place g))

          past : length M < w → place B (k + w) ≡ further_if k (place M w)
          past g = sym (place_past B (k + w) (omega arith)) ∙ ap (further_if k) (place_past M w (omega (arith, limit_rest)))

      entry_same : opens it ≡ false → Behind k x w → Same
      entry_same e h = go (of_kind (item_kind it) (place M w)) refl
        where
          K : ℕ
          K = item_kind it

          kind_further : (o : Option Last) → of_kind K (further_if k o) ≡ further_if k (of_kind K o)
          kind_further none = refl
          kind_further (some l) = by (eqb l.kind K)
            where
              by : (t : Bool) → cond t (some (further k l)) none ≡ further_if k (cond t (some l) none)
              by true = refl
              by false = refl

          entry_last : (b : List ℕ) (n : ℕ) → last_for it b n ≡ of_kind K (place b n)
          entry_last b n = ap (λ (t : Bool). cond t (place b n) (of_kind K (place b n))) e

          of_kind_lem : (o : Option Last) (l : Last) → of_kind K o ≡ some l → (o ≡ some l) × (l.kind ≡ K)
          of_kind_lem none l d = never d
          of_kind_lem (some y) l d = by (eqb y.kind K) refl d
            where
              by : (t : Bool) → eqb y.kind K ≡ t → cond t (some y) none ≡ some l → (some y ≡ some l) × (l.kind ≡ K)
              by true f d = let z : y ≡ l = cc in (d, ap (λ (v : Last). v.kind) (sym z) ∙ eqb-true y.kind K f)
              by false f d = never d

          whole_last : last_for it B (k + w) ≡ further_if k (of_kind K (place M w))
          whole_last = entry_last B (k + w) ∙ ap (of_kind K) (places h) ∙ kind_further (place M w)

          go : (o : Option Last) → of_kind K (place M w) ≡ o → Same
          go none d = none_same (whole_last ∙ ap (further_if k) d) (entry_last M w ∙ d)
          go (some l) d =
              let i = of_kind_lem (place M w) l d in
              let s = place_some M w l i.0 in
              let z : (l.kind ≡ 0 → ⊥) = λ y. kind_some it e (sym i.1 ∙ y) in
              let a = last_lies (take w M) l s.1 z in
              let b : length (take w M) ≡ w = length-take-le w M (omega (arith, s.0)) in
              some_same (further k l) l (whole_last ∙ ap (further_if k) d) (entry_last M w ∙ d) refl (λ y. (refl, omega arith)) refl

      open_same : opens it ≡ true → w ≡ 0 → Same
      open_same e z =
          let o = open_any it x.mark 0 e in
          let h : w ≤ length M = omega arith in
          some_same x nothing_yet
          (ap (λ (t : Bool). cond t (place B (k + w)) (of_kind (item_kind it) (place B (k + w)))) e ∙ whole_place h ∙ (rw z (ap plain_of (append-nil T) ∙ q)))
          (ap (λ (t : Bool). cond t (place M w) (of_kind (item_kind it) (place M w))) e ∙ rest_place h ∙ (rw z empty_plain))
          o.1 (λ y. no_open (sym y ∙ e)) o.0

-- ---- a buffer cut at the place where the area of a call begins, and where no area may reach

-- what a call does, on the rest from k on and on the whole
abbrev Alike : List ℕ → ℕ → Item → ℕ → Type 0
Alike b k it n =
    (counted_from k (answered it (rest_from k b) (n - k)) ≡ answered it b n)
    × (take k b ++ (buffer_after it (rest_from k b) (n - k) ++ drop longest b) ≡ buffer_after it b n)

module _ (b : List ℕ) (k : ℕ) (h : k ≤ limit (length b)) where
  cut_whole : take k b ++ (rest_from k b ++ drop longest b) ≡ b
  cut_whole =
      ap (λ (x : List ℕ). x ++ (rest_from k b ++ drop longest b)) (sym (take-take k longest b (omega arith)))
      ∙ sym (append_assoc (take k (take longest b)) (rest_from k b) (drop longest b))
      ∙ ap (λ (x : List ℕ). x ++ drop longest b) (take-append-drop k (take longest b)) ∙ take-append-drop longest b

  cut_limit : limit (length (take k b ++ (rest_from k b ++ drop longest b))) ≡ k + length (rest_from k b)
  cut_limit = rw cut_whole (omega (arith, length-drop k (take longest b), length-take longest b))

  module _ (it : Item) (n : ℕ) (l : k ≤ n) where
    alike : Same (take k b) (rest_from k b) (drop longest b) k it (n - k) → Alike b k it n
    alike s =
        let e : k + (n - k) ≡ n = omega arith in (
          sym s.answer ∙ ap (λ (x : List ℕ). answered it x (k + (n - k))) cut_whole ∙ ap (answered it b) e,
          sym s.buffer ∙ ap (λ (x : List ℕ). buffer_after it x (k + (n - k))) cut_whole ∙ ap (buffer_after it b) e,
        )

    module _ (x : Last) (q : plain_of (take k b) ≡ some x) where
      entry_alike : opens it ≡ false → Behind k x (n - k) → Alike b k it n
      entry_alike e g =
          alike (entry_same (take k b) (rest_from k b) (drop longest b) k it (n - k) (length-take-le k b (omega arith)) cut_limit x q e g)

      open_alike : opens it ≡ true → n ≡ k → Alike b k it n
      open_alike e g =
          alike (open_same (take k b) (rest_from k b) (drop longest b) k it (n - k) (length-take-le k b (omega arith)) cut_limit x q e (omega arith))

-- ---- a run that writes apart

abbrev pub state_of : Apart → State
state_of a = record { buf = a.buf; at = a.at; done = a.done }

-- the buffer is plain up to where the last subsection begins, and something is behind that
pub record Front (b : List ℕ) (k n : ℕ) : Type 0 where
  pub low : k ≤ n
  pub last : Last
  pub plain : plain_of (take k b) ≡ some last
  pub behind : Behind k last (n - k)

pub record Kept (a : Apart) : Type 0 where
  pub held : Held (state_of a)
  pub front : Front a.buf a.from a.at

more_written : (it : Item) (b : List ℕ) (w h m n : ℕ) → act it b w ≡ goes h m n → (w ≤ n) × (opens it ≡ true → w < n)
more_written it b w h m n q =
    let g = act_goes it b w h m n q in
    (omega (arith, g.next), λ e. omega (arith, g.next, needs_is it e m))

module _ (a : Apart) (K : Kept a) (it : Item) where
  at_low : a.at ≤ limit (length a.buf)
  at_low = K.held.1.low

  begins_low : (t : Bool) → cond t a.at a.from ≤ a.at
  begins_low true = omega arith
  begins_low false = K.front.low

  begins_plain : (t : Bool) → (x : Last) × (plain_of (take (cond t a.at a.from) a.buf) ≡ some x)
  begins_plain true = (last_of 0 nothing_yet K.held.0, plain_here (state_of a) K.held.0 K.held.1)
  begins_plain false = (K.front.last, K.front.plain)

  pub apart_alike : (answered_apart it a ≡ answered it a.buf a.at) × (buffer_apart it a ≡ buffer_after it a.buf a.at)
  apart_alike = by (opens it) refl
    where
      by : (t : Bool) → opens it ≡ t → Alike a.buf (cond t a.at a.from) it a.at
      by true e = let p = begins_plain true in open_alike a.buf a.at at_low it a.at (omega arith) p.0 p.1 e refl
      by false e =
          let F = K.front in
          entry_alike a.buf a.from (omega (arith, F.low, at_low)) it a.at F.low F.last F.plain e F.behind

  pub apart_called : state_of (called_apart it a) ≡ called it (state_of a)
  apart_called =
      let e = apart_alike in
      λ i. record { buf = e.1 i; at = place_after (e.0 i) a.at; done = done_after (e.0 i) it a.done }

  front_same : (y : List ℕ) (k : ℕ) → k ≤ a.at → take k (take k a.buf ++ y) ≡ take k a.buf
  front_same y k h = take_at (take k a.buf) y k (length-take-le k a.buf (omega (arith, at_low)))

  -- what is behind the front once the call went on
  still_behind : (t : Bool) → opens it ≡ t → (n : ℕ) → a.at ≤ n → (opens it ≡ true → a.at < n)
      → Behind (cond t a.at a.from) (begins_plain t).0 (n - cond t a.at a.from)
  unfolding begins_plain
  still_behind true e n l g = inl (omega (arith, g e))
  still_behind false e n l g = further_on K.front.behind
    where
      further_on : Behind a.from K.front.last (a.at - a.from) → Behind a.from K.front.last (n - a.from)
      further_on (inl z) = inl (omega arith)
      further_on (inr z) = inr z

  front_after : (c : Act) → act it a.buf a.at ≡ c → Front (called_apart it a).buf (called_apart it a).from (called_apart it a).at
  front_after (goes h m n) q =
      let k = begins_at it a in
      let w = more_written it a.buf a.at h m n q in
      let e : answered_apart it a ≡ gave n = apart_alike.0 ∙ ap wrote q in
      let P = begins_plain (opens it) in
      let l = begins_low (opens it) in
      let F : Front (buffer_apart it a) k n = record {
        low = omega (arith, w.0);
        last = P.0;
        plain = ap plain_of (front_same (buffer_after it (rest_from k a.buf) (a.at - k) ++ drop longest a.buf) k l) ∙ P.1;
        behind = still_behind (opens it) refl n w.0 w.1;
      } in
      subst⁻¹ (λ (r : Reply ℕ Told). Front (buffer_apart it a) (begins_after r k a.from) (place_after r a.at)) e F
  front_after (stops t) q =
      let e : answered_apart it a ≡ refused t = apart_alike.0 ∙ ap wrote q in
      let eb : buffer_apart it a ≡ a.buf = apart_alike.1 ∙ refused_same it a.buf a.at t (ap wrote q) in
      subst⁻¹ (λ (r : Reply ℕ Told). Front (buffer_apart it a) (begins_after r (begins_at it a) a.from) (place_after r a.at)) e
      (subst⁻¹ (λ (b : List ℕ). Front b a.from a.at) eb K.front)

  pub kept_called : Kept (called_apart it a)
  kept_called =
      record {
        held = subst⁻¹ Held apart_called (call_held it (state_of a) K.held);
        front = front_after (act it a.buf a.at) refl;
      }

pub begun_kept : (b : List ℕ) → Kept (begun b)
begun_kept b = record { held = ([], empty_holds b); front = record { low = omega arith; last = nothing_yet; plain = empty_plain; behind = inr refl } }

pub record Run (its : List Item) (a : Apart) : Type 0 where
  pub kept : Kept (run_apart its a)
  pub same : state_of (run_apart its a) ≡ run_calls its (state_of a)

pub apart_run : (its : List Item) (a : Apart) → Kept a → Run its a
unfolding run_apart run_calls
apart_run [] a K = record { kept = K; same = refl }
apart_run (it ∷ its) a K =
    let R = apart_run its (called_apart it a) (kept_called a K it) in
    record { kept = R.kept; same = R.same ∙ ap (run_calls its) (apart_called a K it) }
