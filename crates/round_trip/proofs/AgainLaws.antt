-- The calls of subsections of good form, run where there is room, are all accepted and make the bytes of these subsections.
use Rattle.std.specs.Prelude.{ℕ, ◌+◌, ◌-◌, ◌/◌, ◌%◌, ◌≤◌, ◌≡◌, Bool, true, false, cond, length, eqb}
use Rattle.std.proofs.Math.Path.{refl, sym}
use Rattle.std.proofs.Common.{ap, ◌∙◌, arith, length-append, le-leb, eq-eqb}
use mathlib.Core.List.{List, [], ◌∷◌, ◌++◌, map, append_assoc, append-nil}
use Rattle.std.proofs.Math.Option.{Option, some}
use Rattle.word.specs.Word.{le32, put, header, Bytes}
use Rattle.word.specs.WordLaws.{header_length, le32_length, put_length_lem}
use Rattle.walk.specs.Listing.{ends, before}
use Rattle.refusal.specs.Told.{told, longest}
use Rattle.refusal.specs.declared.Refusal.TheVariants as why
use Rattle.kinds.specs.Kind.{Sort}
use Rattle.area.specs.Join.{join}
use Rattle.area.specs.JoinLaws.{join_append}
use Rattle.body.specs.Lines.{columned, columns_of, Block, line_head_bytes, block_bytes}
use Rattle.body.specs.Checksums.{Checksum, checksum_bytes}
use Rattle.body.specs.Inlinees.{Inlinee, extended, inlinee_bytes}
use Rattle.body.specs.Imports.{module_bytes}
use Rattle.body.specs.Exports.{Pair, pair_bytes}
use Rattle.body.specs.RunLaws.{bytes_all, Each}
use Rattle.body.specs.LinesLaws.{Filled}
use Rattle.body.specs.InlineesLaws.{Fits}
use Rattle.reading.specs.Reading.{Item, open_lines, block, open_checksums, checksum, open_inlinees, inlinee, open_imports, imports, open_exports, exports, opaque, reading, opens}
use Rattle.plain.specs.Plain.{size_of, Last, nothing_yet, plain_of, KnowsPlain}
use Rattle.writer_decides.specs.Calls.{item_kind, bytes_for, block_rule, checksum_rule, obeys, goes, stops, limit, place, of_kind, room, else_not_plain, needs, on_last, act, patch}
use Rattle.writer_decides.specs.CallLaws.{room_there, kind_same, needs_is, patch_is, act_is}
use Rattle.round_trip.specs.Secs.{Sec, lines_of, checksums_of, inlinees_of, imports_of, exports_of, opaque_of, kind_sec, body_sec, raw_sec, calls_sec, Sized, Ascend, floor_after, GoodSec, mark_sec, raws_of, calls_of, last_of}
use Rattle.round_trip.proofs.SecLaws.{reads_join}
use Rattle.round_trip.specs.Run.{State, called, run_calls, empty, written, accepted}
use Rattle.round_trip.proofs.HoldLaws.{join_length, last_snoc, bigger_block, bigger_checksum, bigger_inlinee, bigger_module, bigger_pair, bigger, fresh}
use Rattle.round_trip.proofs.RoundLaws.{Holds, called_goes, at_is, place_here, holds_fresh, holds_bigger, empty_holds}
use Rattle.round_trip.proofs.BackLaws.{plain_back}

-- ---- a call is accepted

plain_goes : (t : Bool) (n w h m need : ℕ) → t ≡ true → w + need ≤ limit n → else_not_plain t (room n w h m need) ≡ goes h m (w + need)
plain_goes t n w h m need e l = ap (λ (x : Bool). else_not_plain x (room n w h m need)) e ∙ sym (room_there n w h m need l)

act_on : (it : Item) (b : List ℕ) (w : ℕ) (l : Last) {t : Bool} → opens it ≡ t → cond t (place b w) (of_kind (item_kind it) (place b w)) ≡ some l
    → obeys l.mark it ≡ true → w + needs l.mark it ≤ limit (length b) → act it b w ≡ goes l.header l.mark (w + needs l.mark it)
act_on it b w l e p o r =
    act_is it e b w
    ∙ ap (λ (z : Option Last). on_last z (stops (told why.WrongPlace)) (λ x. else_not_plain (obeys x.mark it) (room (length b) w x.header x.mark (needs x.mark it)))) p
    ∙ plain_goes (obeys l.mark it) (length b) w l.header l.mark (needs l.mark it) o r

-- ---- it leaves the buffer as long as it was

length_fresh : (it : Item) (b : List ℕ) (w h m : ℕ) → opens it ≡ true → w + needs m it ≤ length b → length (patch it b w h m) ≡ length b
length_fresh it b w h m e l =
    let B : List ℕ = bytes_for m it in
    let bs : List ℕ = header (item_kind it) (length B) ++ B in
    let lb : length bs ≡ 8 + length B = length-append (header (item_kind it) (length B)) B ∙ omega (arith, header_length (item_kind it) (length B)) in
    let n : needs m it ≡ 8 + length B = needs_is it e m in
    ap length (patch_is it e b w h m) ∙ put_length_lem b w bs (omega arith)

length_bigger : (it : Item) (b : List ℕ) (w h m : ℕ) → opens it ≡ false → w + needs m it ≤ length b → h + 8 ≤ w → length (patch it b w h m) ≡ length b
length_bigger it b w h m e l k =
    let B : List ℕ = bytes_for m it in
    let n : needs m it ≡ length B = needs_is it e m in
    let v = w + length B - h - 8 in
    let l₁ : length (put b w B) ≡ length b = put_length_lem b w B (omega arith) in
    ap length (patch_is it e b w h m) ∙ put_length_lem (put b w B) (h + 4) (le32 v) (omega (arith, le32_length v)) ∙ l₁

-- ---- a state that goes on holding

pub record Keeps (st t : State) (ss : List Sec) : Type 0 where
  pub holds : Holds t ss
  pub len : length t.buf ≡ length st.buf

keeps_on : (st t u : State) (ss ts : List Sec) → Keeps st t ss → Keeps t u ts → Keeps st u ts
keeps_on st t u ss ts a b = record { holds = b.holds; len = b.len ∙ a.len }

-- the room that subsections need in the buffer of a state
abbrev Roomy : State → List Sec → Type 0
Roomy st ss = length (join (raws_of ss)) ≤ limit (length st.buf)

new_sec : (st : State) (ss : List Sec) → Holds st ss → (it : Item) (b : opens it ≡ true) (o : (m : ℕ) → obeys m it ≡ true) (s : Sec)
    → ((m : ℕ) → (fresh it m b (o m)).sec ≡ s) → Roomy st (ss ++ (s ∷ [])) → Keeps st (called it st) (ss ++ (s ∷ []))
new_sec st ss H it b o s es r =
    let l = last_of 0 nothing_yet ss in
    let m = l.mark in
    let F = fresh it m b (o m) in
    let lb : length (body_sec s) ≡ length (bytes_for m it) = ap (λ (x : Sec). length (body_sec x)) (sym (es m)) ∙ ap length F.body in
    let n : needs m it ≡ 8 + length (bytes_for m it) = needs_is it b m in
    let w : st.at ≡ length (join (raws_of ss)) = at_is st ss H in
    let f : st.at + needs m it ≤ limit (length st.buf) = omega (arith, join_length ss s) in
    let q = act_on it st.buf st.at l b (place_here st ss H) (o m) f in
    let c = called_goes it st l.header m (st.at + needs m it) q in
    let K = holds_fresh st ss H it l.header m (st.at + needs m it) b (o m) refl f in
    record {
      holds = rw (c, ← es m) K;
      len = ap (λ (t : State). length t.buf) c ∙ length_fresh it st.buf st.at l.header m b (omega arith);
    }

more_sec : (st : State) (ss : List Sec) (s : Sec) → Holds st (ss ++ (s ∷ [])) → (it : Item) (b : opens it ≡ false) (g : GoodSec s) (k : kind_sec s ≡ item_kind it)
    (o : obeys (mark_sec s) it ≡ true) (t : Sec) → (bigger it s b g k o).sec ≡ t → Roomy st (ss ++ (t ∷ [])) → Keeps st (called it st) (ss ++ (t ∷ []))
more_sec st ss s H it b g k o t et r =
    let J = length (join (raws_of ss)) in
    let l : Last = record { header = 0 + J; kind = kind_sec s; mark = mark_sec s } in
    let m = mark_sec s in
    let F = bigger it s b g k o in
    let lt : length (body_sec t) ≡ length (body_sec s) + length (bytes_for m it) =
    ap (λ (x : Sec). length (body_sec x)) (sym et) ∙ ap length F.body ∙ length-append (body_sec s) (bytes_for m it) in
    let n : needs m it ≡ length (bytes_for m it) = needs_is it b m in
    let w : st.at ≡ length (join (raws_of (ss ++ (s ∷ [])))) = at_is st (ss ++ (s ∷ [])) H in
    let js = join_length ss s in
    let f : st.at + needs m it ≤ limit (length st.buf) = omega (arith, join_length ss t) in
    let p : place st.buf st.at ≡ some l = place_here st (ss ++ (s ∷ [])) H ∙ ap some (last_snoc ss s 0 nothing_yet) in
    let q = act_on it st.buf st.at l b (sym (kind_same (item_kind it) (place st.buf st.at) l (sym p) k)) o f in
    let c = called_goes it st (0 + J) m (st.at + needs m it) q in
    let K = holds_bigger st ss s H it (0 + J) m (st.at + needs m it) b g k o (omega arith) refl refl f in
    record {
      holds = rw (c, ← et) K;
      len = ap (λ (x : State). length x.buf) c ∙ length_bigger it st.buf st.at (0 + J) m b (omega arith) (omega arith);
    }

-- ---- records one after the other, of any kind: fam xs is the subsection of the records xs

module _ {B : Type 0} (fam : List B → Sec) (f : B → Item) (beg : (b : B) → opens (f b) ≡ false) (kind : (xs : List B) (b : B) → kind_sec (fam xs) ≡ item_kind (f b))
    (front : (xs ys : List B) → GoodSec (fam (xs ++ ys)) → GoodSec (fam xs))
    (obey : (xs : List B) (b : B) → GoodSec (fam (xs ++ (b ∷ []))) → obeys (mark_sec (fam xs)) (f b) ≡ true)
    (grow : (xs : List B) (b : B) (g : GoodSec (fam xs)) (k : kind_sec (fam xs) ≡ item_kind (f b)) (o : obeys (mark_sec (fam xs)) (f b) ≡ true)
    → (bigger (f b) (fam xs) (beg b) g k o).sec ≡ fam (xs ++ (b ∷ [])))
    (mono : (xs ys : List B) → length (body_sec (fam xs)) ≤ length (body_sec (fam (xs ++ ys)))) where
  records : (bs xs : List B) (st : State) (ss : List Sec) → Holds st (ss ++ (fam xs ∷ [])) → GoodSec (fam (xs ++ bs)) → Roomy st (ss ++ (fam (xs ++ bs) ∷ []))
      → Keeps st (run_calls (map f bs) st) (ss ++ (fam (xs ++ bs) ∷ []))
  unfolding run_calls
  records [] xs st ss H g r = record { holds = rw (append-nil xs) H; len = refl }
  records (b ∷ bs) xs st ss H g r =
      let e : xs ++ (b ∷ bs) ≡ (xs ++ (b ∷ [])) ++ bs = sym (append_assoc xs (b ∷ []) bs) in
      let g₂ : GoodSec (fam ((xs ++ (b ∷ [])) ++ bs)) = rw e at g in
      let g₁ : GoodSec (fam (xs ++ (b ∷ []))) = front (xs ++ (b ∷ [])) bs g₂ in
      let g₀ : GoodSec (fam xs) = front xs (b ∷ []) g₁ in
      let o = obey xs b g₁ in
      let r₂ : Roomy st (ss ++ (fam ((xs ++ (b ∷ [])) ++ bs) ∷ [])) = rw e at r in
      let j₂ = join_length ss (fam ((xs ++ (b ∷ [])) ++ bs)) in
      let r₁ : Roomy st (ss ++ (fam (xs ++ (b ∷ [])) ∷ [])) = omega (arith, join_length ss (fam (xs ++ (b ∷ []))), mono (xs ++ (b ∷ [])) bs) in
      let K = more_sec st ss (fam xs) H (f b) (beg b) g₀ (kind xs b) o (fam (xs ++ (b ∷ []))) (grow xs b g₀ (kind xs b) o) r₁ in
      let L = records bs (xs ++ (b ∷ [])) (called (f b) st) ss K.holds g₂ (rw K.len r₂) in
      rw e (keeps_on st (called (f b) st) (run_calls (map f bs) (called (f b) st)) (ss ++ (fam (xs ++ (b ∷ [])) ∷ [])) (ss ++ (fam ((xs ++ (b ∷ [])) ++ bs) ∷ [])) K L)

-- ---- the kinds

each_front : {B : Type 0} (P : B → Type 0) (xs ys : List B) → Each P (xs ++ ys) → Each P xs
each_front P [] ys g = tt
each_front P (x ∷ xs) ys g = (g.0, each_front P xs ys g.1)

each_last : {B : Type 0} (P : B → Type 0) (xs : List B) (b : B) → Each P (xs ++ (b ∷ [])) → P b
each_last P [] b g = g.0
each_last P (x ∷ xs) b g = each_last P xs b g.1

all_append : {B : Type 0} (enc : B → List ℕ) (xs ys : List B) → length (bytes_all enc xs) ≤ length (bytes_all enc (xs ++ ys))
unfolding bytes_all
all_append enc [] ys = omega arith
all_append enc (x ∷ xs) ys = omega (arith, length-append (enc x) (bytes_all enc xs), length-append (enc x) (bytes_all enc (xs ++ ys)), all_append enc xs ys)

ascend_front : (f : ℕ) (xs ys : List Pair) → Ascend f (xs ++ ys) → Ascend f xs
ascend_front f [] ys g = tt
ascend_front f (x ∷ xs) ys g = (g.0, ascend_front (x.local + 1) xs ys g.1)

ascend_last : (f : ℕ) (xs : List Pair) (p : Pair) → Ascend f (xs ++ (p ∷ [])) → floor_after f xs ≤ p.local
ascend_last f [] p g = g.0
ascend_last f (x ∷ xs) p g = ascend_last (x.local + 1) xs p g.1

pub block_obeys : (f : ℕ) (b : Block) → Filled (columned f) b → block_rule (f % 2) (length b.lines) (length b.columns) ≡ true
block_obeys f b g =
    let n = length b.lines in
    let e : f % 2 % 2 ≡ f % 2 = omega arith in
    let c : length b.columns ≡ columns_of (columned (f % 2)) (n / 2) = g.columns ∙ ap (λ (x : ℕ). columns_of (eqb x 1) (n / 2)) (sym e) in
    rw (eq-eqb (n % 2) 0 (omega (arith, g.pairs)), eq-eqb (length b.columns) (columns_of (columned (f % 2)) (n / 2)) c)

pub checksum_obeys : (c : Checksum) → Sized c → checksum_rule c.kind (length c.bytes) ≡ true
checksum_obeys c g = rw (le-leb c.kind 3 g.low, eq-eqb (length c.bytes) (size_of c.kind) g.size)

pub extra_obeys : (t : Bool) (e : Inlinee) → Fits t e → cond t true (eqb (length e.extra) 0) ≡ true
extra_obeys true e g = refl
extra_obeys false e g = eq-eqb (length e.extra) 0 (ap length g)

-- one subsection, whatever it is
sec_run : (s : Sec) → GoodSec s → (st : State) (ss : List Sec) → Holds st ss → Roomy st (ss ++ (s ∷ [])) → Keeps st (run_calls (calls_sec s) st) (ss ++ (s ∷ []))
unfolding run_calls bytes_all fresh bigger bigger_block bigger_checksum bigger_inlinee bigger_module bigger_pair
sec_run (lines_of h bs) g st ss H r =
    let K = new_sec st ss H (open_lines h) refl (λ m. refl) (lines_of h []) (λ m. refl)
    (omega (arith, join_length ss (lines_of h bs), join_length ss (lines_of h []), length-append (line_head_bytes h) [], length-append (line_head_bytes h) (bytes_all block_bytes bs))) in
    let L = records (lines_of h) block (λ b. refl) (λ xs b. refl) (each_front (Filled (columned h.flags)))
    (λ xs b q. block_obeys h.flags b (each_last (Filled (columned h.flags)) xs b q)) (λ xs b q k o. refl)
    (λ xs ys. omega (arith, length-append (line_head_bytes h) (bytes_all block_bytes xs), length-append (line_head_bytes h) (bytes_all block_bytes (xs ++ ys)), all_append block_bytes xs ys))
    bs [] (called (open_lines h) st) ss K.holds g (rw K.len r) in
    keeps_on st (called (open_lines h) st) (run_calls (map block bs) (called (open_lines h) st)) (ss ++ (lines_of h [] ∷ [])) (ss ++ (lines_of h bs ∷ [])) K L
sec_run (checksums_of cs) g st ss H r =
    let K = new_sec st ss H open_checksums refl (λ m. refl) (checksums_of []) (λ m. refl) (omega (arith, join_length ss (checksums_of cs), join_length ss (checksums_of []))) in
    let L = records checksums_of checksum (λ b. refl) (λ xs b. refl) (each_front Sized) (λ xs b q. checksum_obeys b (each_last Sized xs b q)) (λ xs b q k o. refl)
    (all_append checksum_bytes) cs [] (called open_checksums st) ss K.holds g (rw K.len r) in
    keeps_on st (called open_checksums st) (run_calls (map checksum cs) (called open_checksums st)) (ss ++ (checksums_of [] ∷ [])) (ss ++ (checksums_of cs ∷ [])) K L
sec_run (inlinees_of n es) g st ss H r =
    let K = new_sec st ss H (open_inlinees n) refl (λ m. le-leb n 1 g.0) (inlinees_of n []) (λ m. refl)
    (omega (arith, join_length ss (inlinees_of n es), join_length ss (inlinees_of n []), length-append (le32 n) [], length-append (le32 n) (bytes_all (inlinee_bytes (extended n)) es))) in
    let L = records (inlinees_of n) inlinee (λ b. refl) (λ xs b. refl) (λ xs ys q. (q.0, each_front (Fits (extended n)) xs ys q.1))
    (λ xs b q. extra_obeys (extended n) b (each_last (Fits (extended n)) xs b q.1)) (λ xs b q k o. refl)
    (λ xs ys. omega (arith, length-append (le32 n) (bytes_all (inlinee_bytes (extended n)) xs), length-append (le32 n) (bytes_all (inlinee_bytes (extended n)) (xs ++ ys)), all_append (inlinee_bytes (extended n)) xs ys))
    es [] (called (open_inlinees n) st) ss K.holds g (rw K.len r) in
    keeps_on st (called (open_inlinees n) st) (run_calls (map inlinee es) (called (open_inlinees n) st)) (ss ++ (inlinees_of n [] ∷ [])) (ss ++ (inlinees_of n es ∷ [])) K L
sec_run (imports_of ms) g st ss H r =
    let K = new_sec st ss H open_imports refl (λ m. refl) (imports_of []) (λ m. refl) (omega (arith, join_length ss (imports_of ms), join_length ss (imports_of []))) in
    let L = records imports_of imports (λ b. refl) (λ xs b. refl) (each_front (λ x. Unit {0})) (λ xs b q. refl) (λ xs b q k o. refl)
    (all_append module_bytes) ms [] (called open_imports st) ss K.holds g (rw K.len r) in
    keeps_on st (called open_imports st) (run_calls (map imports ms) (called open_imports st)) (ss ++ (imports_of [] ∷ [])) (ss ++ (imports_of ms ∷ [])) K L
sec_run (exports_of ps) g st ss H r =
    let K = new_sec st ss H open_exports refl (λ m. refl) (exports_of []) (λ m. refl) (omega (arith, join_length ss (exports_of ps), join_length ss (exports_of []))) in
    let L = records exports_of exports (λ b. refl) (λ xs b. refl) (ascend_front 0) (λ xs b q. le-leb (floor_after 0 xs) b.local (ascend_last 0 xs b q)) (λ xs b q k o. refl)
    (all_append pair_bytes) ps [] (called open_exports st) ss K.holds g (rw K.len r) in
    keeps_on st (called open_exports st) (run_calls (map exports ps) (called open_exports st)) (ss ++ (exports_of [] ∷ [])) (ss ++ (exports_of ps ∷ [])) K L
sec_run (opaque_of k b) g st ss H r =
    new_sec st ss H (opaque k b) refl (λ m. (rw (g.0, eq-eqb (length b % 4) 0 g.1))) (opaque_of k b) (λ m. refl) r

-- ---- all of them

run_append : (xs ys : List Item) (st : State) → run_calls (xs ++ ys) st ≡ run_calls ys (run_calls xs st)
unfolding run_calls
run_append [] ys st = refl
run_append (x ∷ xs) ys st = run_append xs ys (called x st)

pub raws_append : (ss ts : List Sec) → raws_of (ss ++ ts) ≡ raws_of ss ++ raws_of ts
raws_append [] ts = refl
raws_append (s ∷ ss) ts = ap (λ l. raw_sec s ∷ l) (raws_append ss ts)

pub secs_run : (ts : List Sec) → Each GoodSec ts → (st : State) (ss : List Sec) → Holds st ss → Roomy st (ss ++ ts) → Keeps st (run_calls (calls_of ts) st) (ss ++ ts)
unfolding run_calls
secs_run [] g st ss H r = record { holds = rw (append-nil ss) H; len = refl }
secs_run (t ∷ ts) g st ss H r =
    let e : ss ++ (t ∷ ts) ≡ (ss ++ (t ∷ [])) ++ ts = sym (append_assoc ss (t ∷ []) ts) in
    let r₂ : Roomy st ((ss ++ (t ∷ [])) ++ ts) = rw e at r in
    let j : length (join (raws_of ((ss ++ (t ∷ [])) ++ ts))) ≡ length (join (raws_of (ss ++ (t ∷ [])))) + length (join (raws_of ts)) =
    ap length (ap join (raws_append (ss ++ (t ∷ [])) ts) ∙ join_append (raws_of (ss ++ (t ∷ []))) (raws_of ts)) ∙ length-append (join (raws_of (ss ++ (t ∷ [])))) (join (raws_of ts)) in
    let K = sec_run t g.0 st ss H (omega arith) in
    let L = secs_run ts g.1 (run_calls (calls_sec t) st) (ss ++ (t ∷ [])) K.holds (rw K.len r₂) in
    rw (run_append (calls_sec t) (calls_of ts) st, e) (keeps_on st (run_calls (calls_sec t) st) (run_calls (calls_of ts) (run_calls (calls_sec t) st)) (ss ++ (t ∷ [])) ((ss ++ (t ∷ [])) ++ ts) K L)

-- what a run makes of the reading of s
pub record Again (rule : ℕ → Sort) (s : List ℕ) (b : List ℕ) (its : List Item) : Type 0 where
  pub read : reading rule s ≡ before its ends
  pub all : accepted its b ≡ its
  pub at : (run_calls its (empty b)).at ≡ length s
  pub bytes : written its b ≡ s

pub made_again : (rule : ℕ → Sort) → KnowsPlain rule → (s b : List ℕ) (l : Last) → Bytes s → plain_of s ≡ some l → length s ≤ longest → length s ≤ length b
    → (its : List Item) × Again rule s b its
made_again rule knows s b l h q n r =
    let S = plain_back s l h q in
    let ss = S.0 in
    let j : join (raws_of ss) ≡ s = S.1 in
    let K = secs_run ss S.2 (empty b) [] (empty_holds b) (rw j (omega arith)) in
    let H = K.holds in (
      calls_of ss,
      record {
        read = ap (reading rule) (sym j) ∙ reads_join rule knows ss S.2 (rw j n);
        all = H.done;
        at = at_is (run_calls (calls_of ss) (empty b)) ss H ∙ ap length j;
        bytes = H.is ∙ j;
      },
    )
