-- Why a call of the writer is decided as Decided.antt says: what is before its place is subsections of good form, and the call, its two tests and the room
-- are those of these subsections.
use Rattle.std.specs.Prelude.{ℕ, ◌+◌, ◌<◌, ◌≤◌, ◌≡◌, ◌⊎◌, Bool, take, eqb}
use Rattle.std.proofs.Math.Path.{refl, ap}
use Rattle.std.proofs.Common.{sym, ◌∙◌, ⊎_elim, arith, length-take, get_or-take}
use Rattle.std.proofs.Math.Logic.{inl, inr}
use mathlib.Core.List.{List, [], ◌∷◌, ◌++◌}
use Rattle.std.proofs.Math.Bool.{true, false, cond}
use Rattle.std.proofs.Math.Option.{Option, none, some}
use Rattle.std.proofs.Math.ListN.{length, get_or-eq_default}
use Rattle.std.proofs.Math.Dec.{leb}
use borrow.Author.Tests.{leb-true, leb-false, eq-eqb, eqb-true}
use Rattle.word.specs.Word.{Bytes}
use Rattle.walk.specs.Cases.{le_or_gt}
use Rattle.walk.specs.Listing.{Reply, gave, refused, ends, before}
use Rattle.refusal.specs.Told.{Told, told}
use Rattle.refusal.specs.declared.Refusal.TheVariants as why
use Rattle.kinds.specs.Kind.{crate_rule}
use Rattle.area.specs.Join.{join}
use Rattle.body.specs.RunLaws.{Each}
use Rattle.reading.specs.Reading.{Item, opens, reading}
use Rattle.plain.specs.Plain.{Last, nothing_yet, plain_of, Plain}
use Rattle.writer_decides.specs.Calls.{item_kind, obeys, Act, goes, stops, limit, place, of_kind, room, else_not_plain, needs, on_last, wrote, answered, buffer_after}
use Rattle.round_trip.specs.Secs.{Sec, GoodSec, raws_of, calls_of, last_of}
use Rattle.round_trip.proofs.SecLaws.{reads_join}
use Rattle.round_trip.specs.Run.{State, place_after, done_after, called}
use Rattle.round_trip.proofs.RoundLaws.{Holds, at_is, place_here, call_held}
use Rattle.round_trip.proofs.BackLaws.{plain_back}
use Rattle.round_trip.specs.Listed.{PlainAtAnyLength, items_in, kind_after}
use Rattle.round_trip.proofs.ExactLaws.{Fitting, last_after, longer_fits, secs_plain, secs_lists, fits_more, answer_is}
use Rattle.round_trip.proofs.DemandHolds.{crate_knows}

module _ (it : Item) (b : List ℕ) (w : ℕ) where
  none_stops : place b w ≡ none → answered it b w ≡ refused (told why.WrongPlace)
  none_stops e = ap wrote (by (opens it))
    where
      f : Last → Act
      f l = else_not_plain (obeys l.mark it) (room (length b) w l.header l.mark (needs l.mark it))

      by : (o : Bool) → on_last (cond o (place b w) (of_kind (item_kind it) (place b w))) (stops (told why.WrongPlace)) f ≡ stops (told why.WrongPlace)
      by true = ap (λ (x : Option Last). on_last x (stops (told why.WrongPlace)) f) e
      by false = ap (λ (x : Option Last). on_last (of_kind (item_kind it) x) (stops (told why.WrongPlace)) f) e

  pub not_placed : ((w ≤ limit (length b)) × Plain (take w b) → ⊥) → answered it b w ≡ refused (told why.WrongPlace)
  unfolding place
  not_placed n = none_stops (by (leb w (limit (length b))) refl (plain_of (take w b)) refl)
    where
      by : (t : Bool) → leb w (limit (length b)) ≡ t → (o : Option Last) → plain_of (take w b) ≡ o → cond t o none ≡ none
      by true e (some l) q = absurd (n (leb-true w (limit (length b)) e, (l, q)))
      by true e none q = refl
      by false e o q = refl

-- a front of bytes is bytes
bytes_take : (k : ℕ) (l : List ℕ) → Bytes l → Bytes (take k l)
bytes_take k l h i =
    ⊎_elim (λ (g : k ≤ i). rw (get_or-eq_default (take k l) 0 {n = i} (omega (arith, length-take k l))) (omega arith))
    (λ (g : i < k). rw (get_or-take k l i 0 g) (h i)) (le_or_gt k i)

no_both : {A : Type 0} (t : Bool) → t ≡ true → t ≡ false → A
no_both t e f = let z : ◌≡◌ {A = Bool} true false = sym e ∙ f in let n : ◌≡◌ {A = ℕ} 0 1 = cc in absurd (omega arith)

-- a buffer b that holds the subsections ss up to w
module _ (it : Item) (b : List ℕ) (w : ℕ) (ss : List Sec) (g : Each GoodSec ss) (l : w ≤ limit (length b)) (is : take w b ≡ join (raws_of ss)) where
  abbrev st : State
  st = record { buf = b; at = w; done = calls_of ss }

  abbrev last : Last
  last = last_of 0 nothing_yet ss

  H : Holds st ss
  H = record { good = g; low = l; is = is; done = refl }

  pub here_reads : reading crate_rule (take w b) ≡ before (calls_of ss) ends
  here_reads = ap (reading crate_rule) is ∙ reads_join crate_rule crate_knows ss g (omega (arith, l, at_is st ss H))

  abbrev InKind : Type 0
  InKind = (opens it ≡ true) ⊎ (kind_after 0 (calls_of ss) ≡ item_kind it)

  abbrev Longer : List ℕ → Type 0
  Longer s = PlainAtAnyLength s × (items_in s ≡ before (calls_of ss ++ (it ∷ [])) ends)

  abbrev Four : Type 0
  Four =
      ((InKind → ⊥) × (answered it b w ≡ refused (told why.WrongPlace)))
      ⊎ ((InKind × ((s : List ℕ) → Longer s → ⊥) × (answered it b w ≡ refused (told why.NotPlain)))
      ⊎ (((s : List ℕ) × Longer s × (limit (length b) < length s) × (answered it b w ≡ refused (told why.NoRoom)))
      ⊎ ((s : List ℕ) × Longer s × (length s ≤ limit (length b)) × (answered it b w ≡ gave (length s)) × (take (length s) (buffer_after it b w) ≡ s))))

  kind_is_lem : last.kind ≡ kind_after 0 (calls_of ss)
  kind_is_lem = (last_after ss 0 nothing_yet).0

  -- the test of the kind
  tested : InKind → cond (opens it) true (eqb last.kind (item_kind it)) ≡ true
  tested (inl o) = ap (λ (x : Bool). cond x true (eqb last.kind (item_kind it))) o
  tested (inr k) = ap (λ (x : Bool). cond (opens it) true x) (eq-eqb last.kind (item_kind it) (kind_is_lem ∙ k)) ∙ same (opens it)
    where
      same : (o : Bool) → cond o true true ≡ true
      same true = refl
      same false = refl

  in_kind : (o : Bool) → opens it ≡ o → cond o true (eqb last.kind (item_kind it)) ≡ true → (opens it ≡ true) ⊎ (last.kind ≡ item_kind it)
  in_kind true e q = inl e
  in_kind false e q = inr (eqb-true last.kind (item_kind it) q)

  -- a call that goes on
  is_written : (n : ℕ) → answered it b w ≡ gave n → n ≤ limit (length b)
      → (s : List ℕ) × Longer s × (length s ≤ limit (length b)) × (answered it b w ≡ gave (length s)) × (take (length s) (buffer_after it b w) ≡ s)
  is_written n a m =
      let C = call_held it st (ss, H) in
      let ts = C.0 in
      let K = C.1 in
      let at : place_after (answered it b w) w ≡ n = ap (λ (r : Reply ℕ Told). place_after r w) a in
      let len : n ≡ length (join (raws_of ts)) = sym at ∙ at_is (called it st) ts K in
      let done : calls_of ts ≡ calls_of ss ++ (it ∷ []) = sym K.done ∙ ap (λ (r : Reply ℕ Told). done_after r it (calls_of ss)) a in (
        join (raws_of ts),
        (secs_plain ts K.good, secs_lists ts K.good ∙ ap (λ (x : List Item). before x ends) done),
        omega (arith, len),
        a ∙ ap gave len,
        ap (λ (k : ℕ). take k (buffer_after it b w)) (sym len ∙ sym at) ∙ K.is,
      )

  -- a call that fits, by the room
  by_room : Fitting last.kind last.mark it → answered it b w ≡ wrote (room (length b) w last.header last.mark (needs last.mark it)) → Four
  unfolding room
  by_room f a = inr (inr (by (leb (w + needs last.mark it) (limit (length b))) refl))
    where
      by : (c : Bool) → leb (w + needs last.mark it) (limit (length b)) ≡ c
          → ((s : List ℕ) × Longer s × (limit (length b) < length s) × (answered it b w ≡ refused (told why.NoRoom)))
          ⊎ ((s : List ℕ) × Longer s × (length s ≤ limit (length b)) × (answered it b w ≡ gave (length s)) × (take (length s) (buffer_after it b w) ≡ s))
      by true e =
          let q : answered it b w ≡ gave (w + needs last.mark it)
          = a ∙ ap (λ (x : Bool). wrote (cond x (goes last.header last.mark (w + needs last.mark it)) (stops (told why.NoRoom)))) e in
          inr (is_written (w + needs last.mark it) q (leb-true (w + needs last.mark it) (limit (length b)) e))
      by false e =
          let q : answered it b w ≡ refused (told why.NoRoom)
          = a ∙ ap (λ (x : Bool). wrote (cond x (goes last.header last.mark (w + needs last.mark it)) (stops (told why.NoRoom)))) e in
          let M = fits_more ss g it f in
          inl (
            join (raws_of M.secs),
            (secs_plain M.secs M.good, secs_lists M.secs M.good ∙ ap (λ (x : List Item). before x ends) M.calls),
            omega (arith, M.len, at_is st ss H, leb-false (w + needs last.mark it) (limit (length b)) e),
            q,
          )

  pub one_of_four : Four
  one_of_four = go (cond (opens it) true (eqb last.kind (item_kind it))) refl (obeys last.mark it) refl
    where
      pl : place b w ≡ some last
      pl = place_here st ss H

      go : (t : Bool) → cond (opens it) true (eqb last.kind (item_kind it)) ≡ t → (u : Bool) → obeys last.mark it ≡ u → Four
      go false et u eu =
          inl (λ k. no_both (cond (opens it) true (eqb last.kind (item_kind it))) (tested k) et, answer_is it b w last pl false u et eu)
      go true et false eu =
          let k = in_kind (opens it) refl et in
          inr (inl (
            ⊎_elim inl (λ x. inr (sym kind_is_lem ∙ x)) k,
            λ s q. no_both (obeys last.mark it) (longer_fits ss it (s, q.0, q.1)).rule eu,
            answer_is it b w last pl true false et eu,
          ))
      go true et true eu =
          by_room (record { kind = in_kind (opens it) refl et; rule = eu }) (answer_is it b w last pl true true et eu)

-- a plain area before the place holds subsections of good form
pub plain_holds : (b : List ℕ) (w : ℕ) → Bytes b → Plain (take w b) → (ss : List Sec) × (take w b ≡ join (raws_of ss)) × Each GoodSec ss
plain_holds b w h p = let B = plain_back (take w b) p.0 (bytes_take w b h) p.1 in (B.0, sym B.1, B.2)
