-- Laws of the writer's calls: what is known where one goes on, and what it answers and leaves.
use Rattle.std.specs.Prelude.{ℕ, ◌+◌, ◌*◌, ◌/◌, ◌%◌, ◌≤◌, ◌<◌, ◌≡◌, refl, List, ◌++◌, Bool, true, false, cond, length, take, leb, eqb}
use Rattle.std.proofs.Common.{sym, ap, ◌∙◌, arith, length-take-le, leb-true, eqb-true, le-leb, eq-eqb, ne_eqb}
use Rattle.std.proofs.Math.Option.{Option, none, some}
use Rattle.std.proofs.lemmas.Bool.{lt-leb}
use Rattle.word.specs.Word.{put, header}
use Rattle.walk.specs.Listing.{Reply, gave, refused}
use Rattle.refusal.specs.Told.{Told, told}
use Rattle.refusal.specs.declared.Refusal.TheVariants as why
use Rattle.body.specs.Lines.{columned, columns_of}
use Rattle.body.specs.Checksums.{up4}
use Rattle.body.specs.Inlinees.{extended, extra_length}
use Rattle.reading.specs.Reading.{Item, open_lines, block, open_checksums, checksum, open_inlinees, inlinee, open_imports, imports, open_exports, exports, opaque, opens}
use Rattle.plain.specs.Plain.{size_of, is_opaque, Last, plain_of}
use Rattle.plain.specs.RecordLaws.{padding_two}
use Rattle.plain.specs.LastLaws.{last_lies}
use Rattle.walk.specs.Cases.{by_cases, and_true}
use Rattle.writer_decides.specs.Calls.{item_kind, bytes_for, block_rule, checksum_rule, extra_rule, opaque_rule, obeys, Act, goes, stops, limit, place, of_kind, last_for, room, else_not_plain, needs, on_last, act, grown, patch, wrote, kept, open_act, grow_act}

-- ---- the tests of the code

pub fits_size : (k n : ℕ) → checksum_rule k n ≡ true → (k ≤ 3) × (n ≡ size_of k)
fits_size k n e = let h = and_true (leb k 3) (eqb n (size_of k)) e in (leb-true k 3 h.0, eqb-true n (size_of k) h.1)

pub fits_up : (k n : ℕ) → checksum_rule k n ≡ true → up4 (6 + n) ≡ n + 8
fits_up k n e = let h = fits_size k n e in ap (λ (x : ℕ). up4 (6 + x)) h.1 ∙ padding_two k ∙ ap (λ (x : ℕ). x + 8) (sym h.1)

pub size_small : (k : ℕ) → size_of k ≤ 32
unfolding size_of
size_small k = by_cases (λ (x : ℕ). x ≤ 32) (eqb k 0) (λ a. omega arith) (λ a. by_cases (λ (x : ℕ). x ≤ 32) (eqb k 1) (λ b. omega arith) (λ b. by_cases (λ (x : ℕ). x ≤ 32) (eqb k 2) (λ d. omega arith) (λ d. omega arith)))

pub fits_block : (m n k : ℕ) → block_rule m n k ≡ true → (n % 2 ≡ 0) × (k ≡ columns_of (columned m) (n / 2))
fits_block m n k e = let h = and_true (eqb (n % 2) 0) (eqb k (columns_of (columned m) (n / 2))) e in (eqb-true (n % 2) 0 h.0, eqb-true k (columns_of (columned m) (n / 2)) h.1)

pub columns_few : (c : Bool) (n : ℕ) → columns_of c n ≤ n
columns_few true n = omega arith
columns_few false n = omega arith

-- files that obey the rule and lie within the limit are few
pub extra_small : (m n : ℕ) → extra_rule m n ≡ true → 12 + extra_length (extended m) n ≤ 16777216 → n < 4294967296
extra_small m n e h = go (extended m) e h
  where
    go : (t : Bool) → cond t true (eqb n 0) ≡ true → 12 + extra_length t n ≤ 16777216 → n < 4294967296
    go true q l = omega arith
    go false q l = omega (arith, eqb-true n 0 q)

pub fits_opaque : (k n : ℕ) → opaque_rule k n ≡ true → (is_opaque k ≡ true) × (n % 4 ≡ 0)
fits_opaque k n e = let h = and_true (is_opaque k) (eqb (n % 4) 0) e in (h.0, eqb-true (n % 4) 0 h.1)

module _ (n w h m need : ℕ) where
  pub room_there : w + need ≤ limit n → goes h m (w + need) ≡ room n w h m need
  unfolding room
  room_there e = rw (le-leb (w + need) (limit n) e)

  pub room_none : limit n < w + need → stops (told why.NoRoom) ≡ room n w h m need
  unfolding room
  room_none e = rw (lt-leb (w + need) (limit n) e)

module _ (b : List ℕ) (w : ℕ) where
  pub place_past : limit (length b) < w → none ≡ place b w
  unfolding place
  place_past h = rw (lt-leb w (limit (length b)) h)

  pub place_in : w ≤ limit (length b) → (o : Option Last) → o ≡ plain_of (take w b) → o ≡ place b w
  unfolding place
  place_in h o e = e ∙ (rw (le-leb w (limit (length b)) h))

module _ (k : ℕ) (o : Option Last) (l : Last) (e : some l ≡ o) where
  pub kind_same : l.kind ≡ k → some l ≡ of_kind k o
  kind_same h = rw (← e, eq-eqb l.kind k h)

  pub kind_other : (l.kind ≡ k → ⊥) → none ≡ of_kind k o
  kind_other h = rw (← e, ne_eqb l.kind k h)

-- ---- the two shapes of a call

pub on_none : (o : Option Last) (f : Last → Act) → none ≡ o → stops (told why.WrongPlace) ≡ on_last o (stops (told why.WrongPlace)) f
on_none o f e = ap (λ (x : Option Last). on_last x (stops (told why.WrongPlace)) f) e

pub on_some : (o : Option Last) (f : Last → Act) (l : Last) (a : Act) → some l ≡ o → a ≡ f l → a ≡ on_last o (stops (told why.WrongPlace)) f
on_some o f l a e q = q ∙ ap (λ (x : Option Last). on_last x (stops (told why.WrongPlace)) f) e

module _ (k : ℕ) (rule : ℕ → Bool) (need : ℕ → ℕ) (b : List ℕ) (w : ℕ) where
  pub grow_none : none ≡ of_kind k (place b w) → stops (told why.WrongPlace) ≡ grow_act k rule need b w
  grow_none e = on_none (of_kind k (place b w)) (λ l. else_not_plain (rule l.mark) (room (length b) w l.header l.mark (need l.mark))) e

  pub grow_some : (l : Last) (a : Act) → some l ≡ of_kind k (place b w) → a ≡ else_not_plain (rule l.mark) (room (length b) w l.header l.mark (need l.mark)) → a ≡ grow_act k rule need b w
  grow_some l a e q = on_some (of_kind k (place b w)) (λ x. else_not_plain (rule x.mark) (room (length b) w x.header x.mark (need x.mark))) l a e q

-- the rules
pub checksum_need : (k n : ℕ) (t : Bool) (f : ℕ → Act) → t ≡ checksum_rule k n → else_not_plain t (f (n + 8)) ≡ else_not_plain (checksum_rule k n) (f (up4 (6 + n)))
checksum_need k n t f e = go t e ∙ ap (λ (x : Bool). else_not_plain x (f (up4 (6 + n)))) e
  where
    go : (t : Bool) → t ≡ checksum_rule k n → else_not_plain t (f (n + 8)) ≡ else_not_plain t (f (up4 (6 + n)))
    go true q = ap f (sym (fits_up k n (sym q)))
    go false q = refl

pub extra_yes : (n w h m k : ℕ) → m ≡ 1 → else_not_plain true (room n w h m (16 + 4 * k)) ≡ else_not_plain (extra_rule m k) (room n w h m (12 + extra_length (extended m) k))
extra_yes n w h m k e =
    let q : 16 + 4 * k ≡ 12 + (4 + 4 * k) = omega arith in
    ap (λ (x : ℕ). else_not_plain true (room n w h m x)) q
    ∙ ap (λ (t : Bool). else_not_plain (cond t true (eqb k 0)) (room n w h m (12 + extra_length t k))) (sym (eq-eqb m 1 e))

pub extra_no : (n w h m k : ℕ) → (m ≡ 1 → ⊥) → else_not_plain (eqb k 0) (room n w h m 12) ≡ else_not_plain (extra_rule m k) (room n w h m (12 + extra_length (extended m) k))
extra_no n w h m k e = ap (λ (t : Bool). else_not_plain (cond t true (eqb k 0)) (room n w h m (12 + extra_length t k))) (sym (ne_eqb m 1 e))

pub block_rule_odd : (m n k : ℕ) → (n % 2 ≡ 0 → ⊥) → false ≡ block_rule m n k
block_rule_odd m n k h = rw (ne_eqb (n % 2) 0 h)

pub block_rule_lem : (m n k : ℕ) (t : Bool) → n % 2 ≡ 0 → t ≡ eqb k (columns_of (columned m) (n / 2)) → t ≡ block_rule m n k
block_rule_lem m n k t h e = e ∙ (rw (eq-eqb (n % 2) 0 h))

-- ---- a call by whether it opens a subsection

module _ (it : Item) {t : Bool} (e : opens it ≡ t) where
  pub needs_is : (m : ℕ) → needs m it ≡ cond t (8 + length (bytes_for m it)) (length (bytes_for m it))
  needs_is m = ap (λ (x : Bool). cond x (8 + length (bytes_for m it)) (length (bytes_for m it))) e

  pub patch_is : (b : List ℕ) (w h m : ℕ)
      → patch it b w h m ≡ cond t (put b w (header (item_kind it) (length (bytes_for m it)) ++ bytes_for m it)) (grown b w (bytes_for m it) h)
  patch_is b w h m = ap (λ (x : Bool). cond x (put b w (header (item_kind it) (length (bytes_for m it)) ++ bytes_for m it)) (grown b w (bytes_for m it) h)) e

  pub act_is : (b : List ℕ) (w : ℕ)
      → act it b w ≡ on_last (cond t (place b w) (of_kind (item_kind it) (place b w))) (stops (told why.WrongPlace))
      (λ l. else_not_plain (obeys l.mark it) (room (length b) w l.header l.mark (needs l.mark it)))
  act_is b w =
      ap (λ (x : Bool). on_last (cond x (place b w) (of_kind (item_kind it) (place b w))) (stops (told why.WrongPlace))
      (λ l. else_not_plain (obeys l.mark it) (room (length b) w l.header l.mark (needs l.mark it)))) e

never : {A : Type 0} → ◌≡◌ {A = Bool} true false → A
never e = let z : ◌≡◌ {A = ℕ} 0 1 = cc in absurd (omega arith)

-- no entry is of kind 0, the kind before the first subsection
pub kind_some : (it : Item) → opens it ≡ false → item_kind it ≡ 0 → ⊥
kind_some (open_lines h) b e = never b
kind_some (block x) b e = omega arith
kind_some open_checksums b e = never b
kind_some (checksum c) b e = omega arith
kind_some (open_inlinees n) b e = never b
kind_some (inlinee i) b e = omega arith
kind_some open_imports b e = never b
kind_some (imports m) b e = omega arith
kind_some open_exports b e = never b
kind_some (exports p) b e = omega arith
kind_some (opaque k d) b e = never b

-- ---- what is known where a call goes on

no_goes : {A : Type 0} {t : Told} {h m n : ℕ} → stops t ≡ goes h m n → A
no_goes e = let z : ◌≡◌ {A = ℕ} 0 1 = cc in absurd (omega arith)

pub record Roomy (n w h₀ m₀ need h m x : ℕ) : Type 0 where
  pub head : h ≡ h₀
  pub mark : m ≡ m₀
  pub next : x ≡ w + need
  pub fits : w + need ≤ limit n

room_goes : (n w h₀ m₀ need h m x : ℕ) → room n w h₀ m₀ need ≡ goes h m x → Roomy n w h₀ m₀ need h m x
unfolding room
room_goes n w h₀ m₀ need h m x = go (leb (w + need) (limit n)) refl
  where
    go : (t : Bool) → leb (w + need) (limit n) ≡ t → cond t (goes h₀ m₀ (w + need)) (stops (told why.NoRoom)) ≡ goes h m x → Roomy n w h₀ m₀ need h m x
    go true e q = record { head = cc; mark = cc; next = cc; fits = leb-true (w + need) (limit n) e }
    go false e q = no_goes q

plain_goes : (t : Bool) (a : Act) (h m x : ℕ) → else_not_plain t a ≡ goes h m x → (t ≡ true) × (a ≡ goes h m x)
plain_goes true a h m x q = (refl, q)
plain_goes false a h m x q = no_goes q

-- the last subsection, the rule, the place behind and the room
pub record Goes (o : Option Last) (rule : ℕ → Bool) (need : ℕ → ℕ) (n w h m x : ℕ) : Type 0 where
  pub kind : ℕ
  pub last : o ≡ some (record { header = h; kind = kind; mark = m })
  pub obeyed : rule m ≡ true
  pub next : x ≡ w + need m
  pub fits : w + need m ≤ limit n

on_goes : (o : Option Last) (rule : ℕ → Bool) (need : ℕ → ℕ) (n w h m x : ℕ)
    → on_last o (stops (told why.WrongPlace)) (λ l. else_not_plain (rule l.mark) (room n w l.header l.mark (need l.mark))) ≡ goes h m x → Goes o rule need n w h m x
on_goes none rule need n w h m x q = no_goes q
on_goes (some l) rule need n w h m x q =
    let r = plain_goes (rule l.mark) (room n w l.header l.mark (need l.mark)) h m x q in
    let g = room_goes n w l.header l.mark (need l.mark) h m x r.1 in
    let eh = g.head in
    let em = g.mark in
    record {
      kind = l.kind;
      last = let e : some (record { header = h; kind = l.kind; mark = m }) ≡ some l = λ i. some (record { header = eh i; kind = l.kind; mark = em i }) in sym e;
      obeyed = ap rule em ∙ r.0;
      next = g.next ∙ ap (λ (k : ℕ). w + need k) (sym em);
      fits = rw em g.fits;
    }

pub act_goes : (it : Item) (b : List ℕ) (w h m x : ℕ) → act it b w ≡ goes h m x → Goes (last_for it b w) (λ k. obeys k it) (λ k. needs k it) (length b) w h m x
act_goes it b w h m x q = on_goes (last_for it b w) (λ k. obeys k it) (λ k. needs k it) (length b) w h m x q

pub open_goes : (t : Bool) (need : ℕ) (b : List ℕ) (w h m x : ℕ) → open_act t need b w ≡ goes h m x → Goes (place b w) (λ k. t) (λ k. need) (length b) w h m x
open_goes t need b w h m x q = on_goes (place b w) (λ k. t) (λ k. need) (length b) w h m x q

pub place_some : (b : List ℕ) (w : ℕ) (l : Last) → place b w ≡ some l → (w ≤ limit (length b)) × (plain_of (take w b) ≡ some l)
unfolding place
place_some b w l = go (leb w (limit (length b))) refl
  where
    go : (t : Bool) → leb w (limit (length b)) ≡ t → cond t (plain_of (take w b)) none ≡ some l → (w ≤ limit (length b)) × (plain_of (take w b) ≡ some l)
    go true e q = (leb-true w (limit (length b)) e, q)
    go false e q = let z : ◌≡◌ {A = ℕ} 0 1 = cc in absurd (omega arith)

kind_inv : (k : ℕ) (o : Option Last) (l : Last) → of_kind k o ≡ some l → (o ≡ some l) × (l.kind ≡ k)
kind_inv k none l q = let z : ◌≡◌ {A = ℕ} 0 1 = cc in absurd (omega arith)
kind_inv k (some x) l q = go (eqb x.kind k) refl q
  where
    go : (t : Bool) → eqb x.kind k ≡ t → cond t (some x) none ≡ some l → (some x ≡ some l) × (l.kind ≡ k)
    go true e q = let z : x ≡ l = cc in (q, ap (λ (y : Last). y.kind) (sym z) ∙ eqb-true x.kind k e)
    go false e q = let z : ◌≡◌ {A = ℕ} 0 1 = cc in absurd (omega arith)

-- of a call that grows the last subsection
pub record Grows (k : ℕ) (rule : ℕ → Bool) (need : ℕ → ℕ) (b : List ℕ) (w h m x : ℕ) : Type 0 where
  pub plain : plain_of (take w b) ≡ some (record { header = h; kind = k; mark = m })
  pub obeyed : rule m ≡ true
  pub next : x ≡ w + need m
  pub fits : w + need m ≤ limit (length b)
  pub head : h + 8 ≤ w

pub grow_goes : (k : ℕ) (rule : ℕ → Bool) (need : ℕ → ℕ) (b : List ℕ) (w h m x : ℕ) → (k ≡ 0 → ⊥) → grow_act k rule need b w ≡ goes h m x → Grows k rule need b w h m x
grow_goes k rule need b w h m x z q =
    let g = on_goes (of_kind k (place b w)) rule need (length b) w h m x q in
    let i = kind_inv k (place b w) (record { header = h; kind = g.kind; mark = m }) g.last in
    let ek = i.1 in
    let p = place_some b w (record { header = h; kind = g.kind; mark = m }) i.0 in
    let e : plain_of (take w b) ≡ some (record { header = h; kind = k; mark = m }) = p.1 ∙ (λ j. some (record { header = h; kind = ek j; mark = m })) in
    record {
      plain = e;
      obeyed = g.obeyed;
      next = g.next;
      fits = g.fits;
      head = omega (arith, last_lies (take w b) (record { header = h; kind = k; mark = m }) e z, p.0, length-take-le w b (omega (arith, p.0)));
    }

-- ---- what a call answers and leaves

pub kept_go : (a : Act) (f : ℕ → ℕ → List ℕ) (b r : List ℕ) (h m n : ℕ) (x : Reply ℕ Told) → goes h m n ≡ a → x ≡ gave n → r ≡ f h m → (x ≡ wrote a) × (r ≡ kept a f b)
kept_go a f b r h m n x e ex q = (ex ∙ ap wrote e, q ∙ ap (λ (y : Act). kept y f b) e)

pub kept_stop : (a : Act) (f : ℕ → ℕ → List ℕ) (b : List ℕ) (t : Told) → stops t ≡ a → (refused t ≡ wrote a) × (b ≡ kept a f b)
kept_stop a f b t e = (ap wrote e, ap (λ (x : Act). kept x f b) e)

-- the same with another test and other bytes that are equal
pub opened : (t u : Bool) {hd bs : List ℕ} {x : Reply ℕ Told} {y : List ℕ} (b : List ℕ) (w k : ℕ) → t ≡ u → hd ≡ bs → x ≡ wrote (open_act t (8 + length hd) b w)
    → y ≡ kept (open_act t (8 + length hd) b w) (λ h m. put b w (header k (length hd) ++ hd)) b
    → (x ≡ wrote (open_act u (8 + length bs) b w)) × (y ≡ kept (open_act u (8 + length bs) b w) (λ h m. put b w (header k (length bs) ++ bs)) b)
opened t u b w k et e ex ey =
    (ex ∙ (λ i. wrote (open_act (et i) (8 + length (e i)) b w)), ey ∙ (λ i. kept (open_act (et i) (8 + length (e i)) b w) (λ h m. put b w (header k (length (e i)) ++ e i)) b))
