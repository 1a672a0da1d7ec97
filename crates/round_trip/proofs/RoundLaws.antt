-- A run of calls holds subsections of good form, whose calls are those that were accepted. So the reading of what was written is these calls.
use Rattle.std.specs.Prelude.{ℕ, ◌+◌, ◌-◌, ◌≤◌, ◌≡◌, refl, ◌⊎◌, List, [], ◌∷◌, ◌++◌, Bool, true, false, length, take}
use Rattle.std.proofs.Common.{sym, ap, ◌∙◌, ⊎_elim, append_assoc, arith, length-append, length-take-le}
use Rattle.std.proofs.Math.Option.{some}
use Rattle.word.specs.Word.{le32, put, header}
use Rattle.word.specs.WordLaws.{header_length, le32_length, put_length_lem}
use Rattle.walk.specs.Listing.{Listing, ends, before}
use Rattle.refusal.specs.Told.{Told}
use Rattle.kinds.specs.Kind.{Sort}
use Rattle.area.specs.Join.{join}
use Rattle.body.specs.RunLaws.{Each, each_snoc}
use Rattle.reading.specs.Reading.{Item, reading, opens}
use Rattle.plain.specs.Plain.{Last, nothing_yet, plain_of, KnowsPlain}
use Rattle.writer_decides.specs.Calls.{item_kind, bytes_for, obeys, Act, goes, stops, limit, place, needs, act, grown, patch, wrote, kept}
use Rattle.writer_decides.specs.CallLaws.{place_in, needs_is, patch_is, act_is, kind_some, act_goes, Grows, grow_goes}
use Rattle.round_trip.specs.Secs.{Sec, kind_sec, body_sec, calls_sec, GoodSec, mark_sec, raws_of, calls_of, last_of}
use Rattle.round_trip.proofs.SecLaws.{plain_join, reads_join}
use Rattle.round_trip.specs.Run.{State, place_after, done_after, called, run_calls, empty, written, accepted}
use Rattle.round_trip.proofs.HoldLaws.{calls_snoc, join_length, last_snoc, Snoc, snoc_view, each_init, bigger, fresh, after_fresh, after_bigger}

-- what is known of a state: its buffer holds ss up to its place
pub record Holds (st : State) (ss : List Sec) : Type 0 where
  pub good : Each GoodSec ss
  pub low : st.at ≤ limit (length st.buf)
  pub is : take st.at st.buf ≡ join (raws_of ss)
  pub done : st.done ≡ calls_of ss

-- the state after a call that goes on
abbrev pub gone : Item → State → ℕ → ℕ → ℕ → State
gone it st h m n = record { buf = patch it st.buf st.at h m; at = n; done = st.done ++ (it ∷ []) }

pub called_goes : (it : Item) (st : State) (h m n : ℕ) → act it st.buf st.at ≡ goes h m n → called it st ≡ gone it st h m n
called_goes it st h m n q =
    ap {B = State} (λ (a : Act). record { buf = kept a (patch it st.buf st.at) st.buf; at = place_after (wrote a) st.at; done = done_after (wrote a) it st.done }) q

called_stops : (it : Item) (st : State) (t : Told) → act it st.buf st.at ≡ stops t → called it st ≡ st
called_stops it st t q =
    ap {B = State} (λ (a : Act). record { buf = kept a (patch it st.buf st.at) st.buf; at = place_after (wrote a) st.at; done = done_after (wrote a) it st.done }) q

module _ (st : State) (ss : List Sec) (H : Holds st ss) where
  pub at_is : st.at ≡ length (join (raws_of ss))
  at_is = sym (length-take-le st.at st.buf (omega (arith, H.low))) ∙ ap length H.is

  pub plain_here : plain_of (take st.at st.buf) ≡ some (last_of 0 nothing_yet ss)
  plain_here = ap plain_of H.is ∙ plain_join ss H.good (omega (arith, H.low, at_is))

  pub place_here : place st.buf st.at ≡ some (last_of 0 nothing_yet ss)
  place_here = sym (place_in st.buf st.at H.low (some (last_of 0 nothing_yet ss)) (sym plain_here))

-- ---- a new subsection

pub holds_fresh : (st : State) (ss : List Sec) → Holds st ss → (it : Item) (h m n : ℕ) (b : opens it ≡ true) (o : obeys m it ≡ true) → n ≡ st.at + needs m it
    → st.at + needs m it ≤ limit (length st.buf) → Holds (gone it st h m n) (ss ++ ((fresh it m b o).sec ∷ []))
holds_fresh st ss H it h m n b o en l =
    let F = fresh it m b o in
    let s = F.sec in
    let B : List ℕ = bytes_for m it in
    let bs : List ℕ = header (item_kind it) (length B) ++ B in
    let e : patch it st.buf st.at h m ≡ put st.buf st.at bs = patch_is it b st.buf st.at h m in
    let eb : put st.buf st.at bs ≡ put st.buf st.at (header (kind_sec s) (length (body_sec s)) ++ body_sec s) =
    ap (λ (x : List ℕ). put st.buf st.at (header (item_kind it) (length x) ++ x)) (sym F.body) ∙ ap (λ (k : ℕ). put st.buf st.at (header k (length (body_sec s)) ++ body_sec s)) (sym F.kind) in
    let lb : length bs ≡ 8 + length B = length-append (header (item_kind it) (length B)) B ∙ omega (arith, header_length (item_kind it) (length B)) in
    let ls : length (body_sec s) ≡ length B = ap length F.body in
    let nn = needs_is it b m in
    let nx : n ≡ st.at + (8 + length (body_sec s)) = omega arith in
    let len : length (patch it st.buf st.at h m) ≡ length st.buf = ap length e ∙ put_length_lem st.buf st.at bs (omega arith) in
    record {
      good = each_snoc GoodSec ss s H.good F.good;
      low = rw len (omega arith);
      is = ap (take n) (e ∙ eb) ∙ ap (λ (k : ℕ). take k (put st.buf st.at (header (kind_sec s) (length (body_sec s)) ++ body_sec s))) nx
          ∙ after_fresh st.buf st.at ss s (omega arith) H.is;
      done = ap (λ (x : List Item). x ++ (it ∷ [])) H.done ∙ ap (λ (x : List Item). calls_of ss ++ x) (sym F.calls) ∙ sym (calls_snoc ss s);
    }

-- ---- a record more

pub holds_bigger : (st : State) (ss : List Sec) (s : Sec) → Holds st (ss ++ (s ∷ [])) → (it : Item) (h m n : ℕ) (b : opens it ≡ false) (g : GoodSec s) (k : kind_sec s ≡ item_kind it)
    (o : obeys (mark_sec s) it ≡ true) → h ≡ length (join (raws_of ss)) → m ≡ mark_sec s → n ≡ st.at + needs m it → st.at + needs m it ≤ limit (length st.buf)
    → Holds (gone it st h m n) (ss ++ ((bigger it s b g k o).sec ∷ []))
holds_bigger st ss s H it h m n b g k o eh em en l =
    let F = bigger it s b g k o in
    let t = F.sec in
    let w = st.at in
    let B : List ℕ = bytes_for (mark_sec s) it in
    let J = length (join (raws_of ss)) in
    let e : patch it st.buf w h m ≡ grown st.buf w B J =
    patch_is it b st.buf w h m ∙ ap (λ (x : ℕ). grown st.buf w (bytes_for x it) h) em ∙ ap (grown st.buf w B) eh in
    let nm : needs m it ≡ length B = needs_is it b m ∙ ap (λ (x : ℕ). length (bytes_for x it)) em in
    let nx : n ≡ w + length B = omega arith in
    let aw : w ≡ length (join (raws_of (ss ++ (s ∷ [])))) = at_is st (ss ++ (s ∷ [])) H in
    let lj = join_length ss s in
    let v = w + length B - J - 8 in
    let l₁ : length (put st.buf w B) ≡ length st.buf = put_length_lem st.buf w B (omega arith) in
    let len : length (patch it st.buf w h m) ≡ length st.buf = ap length e ∙ put_length_lem (put st.buf w B) (J + 4) (le32 v) (omega (arith, le32_length v)) ∙ l₁ in
    let gi = each_init GoodSec ss s H.good in
    record {
      good = each_snoc GoodSec ss t gi.0 F.good;
      low = rw len (omega arith);
      is = ap (take n) e ∙ ap (λ (x : ℕ). take x (grown st.buf w B J)) nx ∙ after_bigger st.buf B w ss s t (omega (arith, H.low)) H.is F.kind F.body;
      done = ap (λ (x : List Item). x ++ (it ∷ [])) (H.done ∙ calls_snoc ss s) ∙ append_assoc (calls_of ss) (calls_sec s) (it ∷ [])
          ∙ ap (λ (x : List Item). calls_of ss ++ x) (sym F.calls) ∙ sym (calls_snoc ss t);
    }

-- ---- any call

abbrev pub Held : State → Type 0
Held st = (ss : List Sec) × Holds st ss

module _ (st : State) (ss : List Sec) (H : Holds st ss) (it : Item) (h m n : ℕ) (q : act it st.buf st.at ≡ goes h m n) where
  goes_fresh : opens it ≡ true → Held (gone it st h m n)
  goes_fresh b =
      let g = act_goes it st.buf st.at h m n q in
      (ss ++ ((fresh it m b g.obeyed).sec ∷ []), holds_fresh st ss H it h m n b g.obeyed g.next g.fits)

  goes_bigger : opens it ≡ false → Held (gone it st h m n)
  goes_bigger b = ⊎_elim at_none at_last (snoc_view ss)
    where
      G : Grows (item_kind it) (λ k. obeys k it) (λ k. needs k it) st.buf st.at h m n
      G = grow_goes (item_kind it) (λ k. obeys k it) (λ k. needs k it) st.buf st.at h m n (kind_some it b) (sym (act_is it b st.buf st.at) ∙ q)

      same : some (last_of 0 nothing_yet ss) ≡ some (record { header = h; kind = item_kind it; mark = m })
      same = sym (plain_here st ss H) ∙ G.plain

      here : last_of 0 nothing_yet ss ≡ record { header = h; kind = item_kind it; mark = m }
      here = let s = same in cc

      at_none : ss ≡ [] → Held (gone it st h m n)
      at_none e = absurd (kind_some it b (sym (ap (λ (l : Last). l.kind) (sym (ap (last_of 0 nothing_yet) e) ∙ here))))

      at_last : Snoc ss → Held (gone it st h m n)
      at_last v =
          let t = sym (last_snoc v.init v.last 0 nothing_yet) ∙ ap (last_of 0 nothing_yet) (sym v.is) ∙ here in
          let eh : length (join (raws_of v.init)) ≡ h = let x : 0 + length (join (raws_of v.init)) ≡ h = ap (λ (l : Last). l.header) t in omega arith in
          let ek : kind_sec v.last ≡ item_kind it = ap (λ (l : Last). l.kind) t in
          let em : mark_sec v.last ≡ m = ap (λ (l : Last). l.mark) t in
          let H' : Holds st (v.init ++ (v.last ∷ [])) = rw v.is at H in
          let gl = each_init GoodSec v.init v.last H'.good in
          let o : obeys (mark_sec v.last) it ≡ true = ap (λ (x : ℕ). obeys x it) em ∙ G.obeyed in (
            v.init ++ ((bigger it v.last b gl.1 ek o).sec ∷ []),
            holds_bigger st v.init v.last H' it h m n b gl.1 ek o (sym eh) (sym em) G.next G.fits,
          )

  goes_held : Held (gone it st h m n)
  goes_held = go (opens it) refl
    where
      go : (t : Bool) → opens it ≡ t → Held (gone it st h m n)
      go true b = goes_fresh b
      go false b = goes_bigger b

pub call_held : (it : Item) (st : State) → Held st → Held (called it st)
call_held it st (ss, H) = go (act it st.buf st.at) refl
  where
    go : (a : Act) → act it st.buf st.at ≡ a → Held (called it st)
    go (goes h m n) q = rw (called_goes it st h m n q) (goes_held st ss H it h m n q)
    go (stops t) q = rw (called_stops it st t q) (ss, H)

pub run_held : (its : List Item) (st : State) → Held st → Held (run_calls its st)
unfolding run_calls
run_held [] st H = H
run_held (it ∷ its) st H = run_held its (called it st) (call_held it st H)

pub empty_holds : (b : List ℕ) → Holds (empty b) []
unfolding join
empty_holds b = record { good = tt; low = omega arith; is = refl; done = refl }

module _ (rule : ℕ → Sort) (knows : KnowsPlain rule) where
  holds_reads : (st : State) (ss : List Sec) → Holds st ss → reading rule (take st.at st.buf) ≡ before st.done ends
  holds_reads st ss H =
      ap (reading rule) H.is
      ∙ reads_join rule knows ss H.good (omega (arith, H.low, at_is st ss H))
      ∙ ap (λ (x : List Item). before x ends) (sym H.done)

  pub round_trip : (its : List Item) (b : List ℕ) → reading rule (written its b) ≡ before (accepted its b) ends
  round_trip its b = let R = run_held its (empty b) ([], empty_holds b) in holds_reads (run_calls its (empty b)) R.0 R.1

pub before_one : (xs ys : List Item) → ◌≡◌ {A = Listing Item Told} (before xs ends) (before ys ends) → xs ≡ ys
before_one [] [] e = refl
before_one [] (y ∷ ys) e = let z : ◌≡◌ {A = ℕ} 0 1 = cc in absurd (omega arith)
before_one (x ∷ xs) [] e = let z : ◌≡◌ {A = ℕ} 0 1 = cc in absurd (omega arith)
before_one (x ∷ xs) (y ∷ ys) e =
    let ex : x ≡ y = cc in
    let et : ◌≡◌ {A = Listing Item Told} (before xs ends) (before ys ends) = cc in
    let r = before_one xs ys et in
    λ i. ex i ∷ r i
