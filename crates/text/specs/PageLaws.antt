-- Laws of pages: bytes put one at a time, from the front and from the back; a piece put; and THE LAW of pieces, that piece after piece is the
-- text that they make, where all of it fits.
use Rattle.std.specs.Prelude.{ℕ, suc, ◌+◌, ◌*◌, ◌-◌, ◌/◌, ◌%◌, ◌≤◌, ◌<◌, ◌≡◌, refl, take, set, leb}
use Rattle.std.proofs.Common.{sym, ◌∙◌, arith, add-zero, add_assoc, add-one, length-append, length-drop, take-append-drop, length-take-le, take_at, drop-drop, take-suc-set, drop-set-lt, drop-cons, get_or-set_same}
use Rattle.std.proofs.Math.Path.{ap, subst⁻¹}
use mathlib.Core.List.{List, [], ◌∷◌, ◌++◌, append_assoc}
use Rattle.std.proofs.Math.ListN.{length, drop, get_or, length-set}
use Rattle.std.proofs.Math.Seq.{drop-append-add, append_snoc}
use Rattle.std.proofs.lemmas.List.{take-set-le, set_split}
use borrow.Author.Tests.{leb-true, le-leb, lt-leb}
use Rattle.word.specs.Word.{put}
use Rattle.word.specs.WordLaws.{put_length_lem}
use Rattle.walk.specs.Cases.{by_cases}
use Rattle.refusal.specs.Told.{Told, told}
use Rattle.refusal.specs.declared.Refusal.TheVariants as why
use Rattle.text.specs.Text.{glyph, numeral, hex_bytes, Next, at, stopped, Page, page, room_at, put_at, piece_written, joined}
use Rattle.text.specs.TextLaws.{numeral_one, numeral_more, length_more, hex_length}

-- ---- bytes put one at a time

pub put_nil : (b : List ℕ) (p : ℕ) → put b p [] ≡ b
put_nil b p = ap (λ (n : ℕ). take p b ++ drop n b) (add-zero p) ∙ take-append-drop p b

pub put_one : (b : List ℕ) (p x : ℕ) → p < length b → set b p x ≡ put b p (x ∷ [])
put_one b p x h = rw (add-one p) (set_split b p x h)

-- the first of them, and then the others
pub put_cons : (b : List ℕ) (p x : ℕ) (xs : List ℕ) → p + 1 + length xs ≤ length b → put (set b p x) (p + 1) xs ≡ put b p (x ∷ xs)
put_cons b p x xs h =
    let n = p + 1 + length xs in
    let e : n ≡ p + length (x ∷ xs) = omega arith in
    let f : take (p + 1) (set b p x) ≡ take p b ++ (x ∷ []) = rw (add-one p) (take-suc-set b p x (omega arith)) in
    let d : drop n (set b p x) ≡ drop n b = drop-set-lt n b p x (omega arith) in
    (λ i. f i ++ (xs ++ d i))
    ∙ append_snoc (take p b) x (xs ++ drop n b)
    ∙ ap (λ (k : ℕ). take p b ++ (x ∷ (xs ++ drop k b))) e

-- the last of them, and then those before it
pub put_last : (b : List ℕ) (p x : ℕ) (xs : List ℕ) → p + length xs < length b → put (set b (p + length xs) x) p xs ≡ put b p (xs ++ (x ∷ []))
put_last b p x xs h =
    let n = p + length xs in
    let f : take p (set b n x) ≡ take p b = take-set-le p b n x (omega arith) in
    let d : drop n (set b n x) ≡ x ∷ drop (suc n) b
    = drop-cons (set b n x) n 0 (rw (length-set b n x) h) ∙ (λ i. get_or-set_same b n x 0 h i ∷ drop-set-lt (suc n) b n x (omega arith) i) in
    let e : suc n ≡ p + length (xs ++ (x ∷ [])) = omega (arith, length-append xs (x ∷ [])) in
    (λ i. f i ++ (xs ++ d i))
    ∙ ap (λ (l : List ℕ). take p b ++ l) (sym (append_assoc xs (x ∷ []) (drop (suc n) b)))
    ∙ ap (λ (k : ℕ). take p b ++ ((xs ++ (x ∷ [])) ++ drop k b)) e

-- ---- the loops: what is still to be put leads to what is wanted

module _ (b : List ℕ) (p : ℕ) (s : List ℕ) (i : ℕ) (h : i < length s) where
  pub copy_step : p + length s ≤ length b → put (set b (p + i) (get_or s i 0)) (p + (i + 1)) (drop (i + 1) s) ≡ put b (p + i) (drop i s)
  copy_step l =
      let d : drop i s ≡ get_or s i 0 ∷ drop (i + 1) s = rw (add-one i) (drop-cons s i 0 h) in
      ap (λ (k : ℕ). put (set b (p + i) (get_or s i 0)) k (drop (i + 1) s)) (sym (add_assoc p i 1))
      ∙ put_cons b (p + i) (get_or s i 0) (drop (i + 1) s) (simp length-drop (omega arith))
      ∙ ap (put b (p + i)) (sym d)

  pub hex_step : p + 2 * (length s - i) ≤ length b → (x y : ℕ) → x ≡ glyph (get_or s i 0 / 16) → y ≡ glyph (get_or s i 0 % 16)
      → put (set (set b p x) (p + 1) y) (p + 2) (hex_bytes (drop (i + 1) s)) ≡ put b p (hex_bytes (drop i s))
  unfolding hex_bytes
  hex_step l x y ex ey =
      let v = get_or s i 0 in
      let r = hex_bytes (drop (i + 1) s) in
      let n : length r ≡ 2 * (length s - (i + 1)) = hex_length (drop (i + 1) s) ∙ ap (λ (k : ℕ). 2 * k) (length-drop (i + 1) s) in
      let d : drop i s ≡ v ∷ drop (i + 1) s = rw (add-one i) (drop-cons s i 0 h) in
      let c : length (set b p x) ≡ length b = length-set b p x in
      ap (λ (k : ℕ). put (set (set b p x) (p + 1) y) k r) (sym (add_assoc p 1 1))
      ∙ put_cons (set b p x) (p + 1) y r (omega arith)
      ∙ put_cons b p x (y ∷ r) (omega arith)
      ∙ (λ j. put b p (ex j ∷ ey j ∷ r))
      ∙ ap (λ (t : List ℕ). put b p (hex_bytes t)) (sym d)

module _ (b : List ℕ) (p base m : ℕ) (two : 2 ≤ base) where
  pub spell_step : base ≤ m → (i x : ℕ) → i + 1 ≡ length (numeral base m) → p + i < length b → x ≡ glyph (m % base)
      → put (set b (p + i) x) p (numeral base (m / base)) ≡ put b p (numeral base m)
  spell_step h i x e l ex =
      let k : i ≡ length (numeral base (m / base)) = omega (arith, length_more base two m h) in
      (λ j. put (set b (p + k j) (ex j)) p (numeral base (m / base)))
      ∙ put_last b p (glyph (m % base)) (numeral base (m / base)) (omega arith)
      ∙ ap (put b p) (numeral_more base two m h)

  pub spell_end : m < base → (x : ℕ) → p < length b → x ≡ glyph m → set b p x ≡ put b p (numeral base m)
  spell_end h x l ex = ap (set b p) ex ∙ put_one b p (glyph m) l ∙ ap (put b p) (numeral_one base two m h)

-- ---- a piece

module _ (len n : ℕ) (x : Next) where
  pub room_at_lem : (p : ℕ) → x ≡ at p → p + n ≤ len → at p ≡ room_at len n x
  unfolding room_at
  room_at_lem p e h = rw (e, le-leb (p + n) len h)

  pub room_none : (p : ℕ) → x ≡ at p → len < p + n → stopped (told why.NoRoom) ≡ room_at len n x
  unfolding room_at
  room_none p e h = rw (e, lt-leb (p + n) len h)

  pub room_stopped : (t : Told) → x ≡ stopped t → stopped t ≡ room_at len n x
  unfolding room_at
  room_stopped t e = rw e

-- no room for n bytes is none for more
pub room_less : (len n m : ℕ) (x : Next) → len < n → n ≤ m → room_at len n x ≡ room_at len m x
unfolding room_at
room_less len n m (at p) h l = rw (lt-leb (p + n) len (omega arith), lt-leb (p + m) len (omega arith))
room_less len n m (stopped t) h l = refl

-- a place that is given has room
abbrev Roomy : ℕ → ℕ → Next → Type 0
Roomy len n (at p) = p + n ≤ len
Roomy len n (stopped t) = Unit {0}

roomy : (len n : ℕ) (x : Next) → Roomy len n (room_at len n x)
unfolding room_at
roomy len n (at p) = by_cases (Roomy len n) (leb (p + n) len) (λ e. leb-true (p + n) len e) (λ e. tt)
roomy len n (stopped t) = tt

pub room_in : (len n p : ℕ) (x : Next) → at p ≡ room_at len n x → p + n ≤ len
room_in len n p x e = subst⁻¹ (Roomy len n) e (roomy len n x)

module _ (b xs : List ℕ) (x : Next) (n : ℕ) (en : n ≡ length xs) where
  pub written_at : (p : ℕ) (y : List ℕ) → at p ≡ room_at (length b) n x → y ≡ put b p xs → page y (at (p + n)) ≡ piece_written xs (page b x)
  unfolding piece_written
  written_at p y e ey =
      (λ i. page (ey i) (at (p + en i))) ∙ ap (put_at xs b) (e ∙ ap (λ (k : ℕ). room_at (length b) k x) en)

  pub written_none : (t : Told) → stopped t ≡ room_at (length b) n x → page b (stopped t) ≡ piece_written xs (page b x)
  unfolding piece_written
  written_none t e = ap (put_at xs b) (e ∙ ap (λ (k : ℕ). room_at (length b) k x) en)

-- a piece that is refused leaves the buffer as found; and where it was to go to a place of the buffer, the number is 10
pub put_careful : (xs : List ℕ) (q : Page) (t : Told) → (piece_written xs q).next ≡ stopped t → (piece_written xs q).bytes ≡ q.bytes
unfolding piece_written
put_careful xs q t = by (room_at (length q.bytes) (length xs) q.next)
  where
    by : (x : Next) → (put_at xs q.bytes x).next ≡ stopped t → (put_at xs q.bytes x).bytes ≡ q.bytes
    by (at p) e = let z : ◌≡◌ {A = ℕ} 0 1 = cc in absurd (omega arith)
    by (stopped r) e = refl

pub put_ten : (xs b : List ℕ) (p : ℕ) (t : Told) → (piece_written xs (page b (at p))).next ≡ stopped t → t ≡ told why.NoRoom
unfolding piece_written room_at
put_ten xs b p t =
    by_cases (λ (x : Next). (put_at xs b x).next ≡ stopped t → t ≡ told why.NoRoom) (leb (p + length xs) (length b))
    (λ h e. let z : ◌≡◌ {A = ℕ} 0 1 = cc in absurd (omega arith)) (λ h e. cc)

-- ---- THE LAW: put at p of xs, and then at p + length xs of ys, is put of xs ++ ys

pub put_append : (b : List ℕ) (p : ℕ) (xs ys : List ℕ) → p + length xs ≤ length b → put (put b p xs) (p + length xs) ys ≡ put b p (xs ++ ys)
put_append b p xs ys h =
    let n = p + length xs in
    let m = length ys in
    let front = take p b ++ xs in
    let rest = drop n b in
    let l : length front ≡ n = length-append (take p b) xs ∙ ap (λ (k : ℕ). k + length xs) (length-take-le p b (omega arith)) in
    let a : put b p xs ≡ front ++ rest = sym (append_assoc (take p b) xs rest) in
    let t : take n (put b p xs) ≡ front = ap (take n) a ∙ take_at front rest n l in
    let d : drop (n + m) (put b p xs) ≡ drop (n + m) b
    = ap (drop (n + m)) a ∙ ap (λ (k : ℕ). drop (k + m) (front ++ rest)) (sym l) ∙ drop-append-add front rest m ∙ drop-drop m n b in
    let e : n + m ≡ p + length (xs ++ ys) = omega (arith, length-append xs ys) in
    (λ i. t i ++ (ys ++ d i))
    ∙ append_assoc (take p b) xs (ys ++ drop (n + m) b)
    ∙ ap (λ (k : List ℕ). take p b ++ k) (sym (append_assoc xs ys (drop (n + m) b)))
    ∙ ap (λ (k : ℕ). take p b ++ ((xs ++ ys) ++ drop k b)) e

-- a piece that fits
pub written_fits : (b : List ℕ) (p : ℕ) (xs : List ℕ) → p + length xs ≤ length b → page (put b p xs) (at (p + length xs)) ≡ piece_written xs (page b (at p))
written_fits b p xs h = written_at b xs (at p) (length xs) refl p (put b p xs) (room_at_lem (length b) (length xs) (at p) p refl h) refl

-- several pieces, each put behind the one before
unfoldable pub written_all : List (List ℕ) → Page → Page
written_all [] q = q
written_all (xs ∷ xss) q = written_all xss (piece_written xs q)

-- pieces that fit
pub all_written : (xss : List (List ℕ)) (b : List ℕ) (p : ℕ) → p + length (joined xss) ≤ length b
    → page (put b p (joined xss)) (at (p + length (joined xss))) ≡ written_all xss (page b (at p))
unfolding written_all
all_written [] b p h = λ i. page (put_nil b p i) (at (add-zero p i))
all_written (xs ∷ xss) b p h =
    let ys = joined xss in
    let n : length (xs ++ ys) ≡ length xs + length ys = length-append xs ys in
    let e : p + length (xs ++ ys) ≡ p + length xs + length ys = omega arith in
    (λ i. page (sym (put_append b p xs ys (omega arith)) i) (at (e i)))
    ∙ all_written xss (put b p xs) (p + length xs) (omega (arith, put_length_lem b p xs (omega arith)))
    ∙ ap (written_all xss) (written_fits b p xs (omega arith))

-- pieces put at the start of a buffer that has the room: their text stands there, and the next place is behind it
pub pieces_stand : (xss : List (List ℕ)) (b y : List ℕ) (x : Next) → length (joined xss) ≤ length b → page y x ≡ written_all xss (page b (at 0))
    → (x ≡ at (length (joined xss))) × (take (length (joined xss)) y ≡ joined xss)
pieces_stand xss b y x h e =
    let n = length (joined xss) in
    let w : page y x ≡ page (put b 0 (joined xss)) (at (0 + n)) = e ∙ sym (all_written xss b 0 (omega arith)) in
    (ap (λ (q : Page). q.next) w ∙ ap at (omega arith), ap (λ (q : Page). take n q.bytes) w ∙ take_at (joined xss) (drop (0 + n) b) n refl)

-- pieces put where their text has the room
pub pieces_whole : (xss : List (List ℕ)) (b y : List ℕ) (x q : Next) (n p : ℕ) → n ≡ length (joined xss) → at p ≡ room_at (length b) n x
    → page y q ≡ written_all xss (page b (at p)) → page y q ≡ piece_written (joined xss) (page b x)
pieces_whole xss b y x q n p en e w =
    let h = room_in (length b) n p x e in
    let k : p + length (joined xss) ≡ p + n = omega arith in
    w
    ∙ sym (all_written xss b p (omega arith))
    ∙ ap (λ (i : ℕ). page (put b p (joined xss)) (at i)) k
    ∙ written_at b (joined xss) x n en p (put b p (joined xss)) e refl

pub joined_append : (xss yss : List (List ℕ)) → joined (xss ++ yss) ≡ joined xss ++ joined yss
joined_append [] yss = refl
joined_append (xs ∷ xss) yss = ap (λ (l : List ℕ). xs ++ l) (joined_append xss yss) ∙ sym (append_assoc xs (joined xss) (joined yss))

-- ---- pieces put by one call after the other: p is the page before the first, q that behind the last

pub just : (p q : Page) (xs : List ℕ) → q ≡ piece_written xs p → q ≡ written_all (xs ∷ []) p
unfolding written_all
just p q xs e = e

pub and_all : (p q r : Page) (xss yss : List (List ℕ)) → r ≡ written_all xss p → q ≡ written_all yss r → q ≡ written_all (xss ++ yss) p
unfolding written_all
and_all p q r xss yss e f = f ∙ ap (written_all yss) e ∙ sym (split xss p)
  where
    split : (zss : List (List ℕ)) (o : Page) → written_all (zss ++ yss) o ≡ written_all yss (written_all zss o)
    split [] o = refl
    split (zs ∷ zss) o = split zss (piece_written zs o)

pub and_one : (p q r : Page) (xss : List (List ℕ)) (xs : List ℕ) → r ≡ written_all xss p → q ≡ piece_written xs r → q ≡ written_all (xss ++ (xs ∷ [])) p
and_one p q r xss xs e f = and_all p q r xss (xs ∷ []) e (just r q xs f)

pub same_text : (p q : Page) (xs ys : List ℕ) → q ≡ piece_written xs p → xs ≡ ys → q ≡ piece_written ys p
same_text p q xs ys e f = e ∙ ap (λ (zs : List ℕ). piece_written zs p) f
