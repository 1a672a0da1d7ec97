-- Laws of bytes laid over the start of others, and of a part lent from a place to the end: what the callee is handed, and the whole once it is
-- back.
use Rattle.std.specs.Prelude.{ℕ, ◌+◌, ◌-◌, ◌*◌, ◌/◌, ◌%◌, ◌≤◌, ◌<◌, ◌≡◌, refl, List, [], ◌∷◌, ◌++◌, length, take, drop, get_or, Bool}
use Rattle.std.proofs.Common.{sym, ap, ◌∙◌, append_assoc, append-nil, arith, add-one, length-append, length-drop, drop_of_length-le, length-take-le, drop-drop, take_at, take-suc, eq-eqb, ne_eqb}
use Rattle.std.proofs.Math.Seq.{take-length, drop-append-add}
use borrow.Rule.Slice.PartMut.{put_mid}
use Rattle.word.specs.PartLaws.{lent, lent_is}
use Rattle.word.specs.Word.{le16, le32, put, store}
use Rattle.word.specs.WordLaws.{put_length_lem, store_put, le16_length, le32_length}
use Rattle.body.specs.Words.{word_bytes}
use Rattle.body.specs.WordsLaws.{word_length, word_append}
use Rattle.body.specs.Lines.{line_head_bytes, block_head_size, block_bytes}
use Rattle.body.specs.Inlinees.{extended, inlinee_bytes, extra_length}
use Rattle.body.specs.Checksums.{up4, zeros, checksum_bytes}
use Rattle.body.specs.ChecksumsLaws.{padding}
use Rattle.plain.specs.Plain.{size_of}
use Rattle.plain.specs.RecordLaws.{padding_two}
use Rattle.writer_decides.specs.Calls.{grown}

-- b with the bytes bs at its start: what every writer of a body does to the part that it is lent
abbrev pub over : List ℕ → List ℕ → List ℕ
over bs b = bs ++ drop (length bs) b

pub over_length : (bs b : List ℕ) → length bs ≤ length b → length (over bs b) ≡ length b
over_length bs b h = length-append bs (drop (length bs) b) ∙ omega (arith, length-drop (length bs) b)

-- a run put behind p: the one law of `put`, the others follow
pub put_at_lem : (p q ys : List ℕ) (n : ℕ) → length p ≡ n → put (p ++ q) n ys ≡ p ++ over ys q
put_at_lem p q ys n e =
    ap (λ (r : List ℕ). r ++ (ys ++ drop (n + length ys) (p ++ q))) (take_at p q n e)
    ∙ ap (λ (k : ℕ). p ++ (ys ++ drop (k + length ys) (p ++ q))) (sym e)
    ∙ ap (λ (r : List ℕ). p ++ (ys ++ r)) (drop-append-add p q (length ys))

-- a run put behind a run that was laid over
pub over_put : (xs ys b : List ℕ) (n : ℕ) → length xs ≡ n → put (over xs b) n ys ≡ over (xs ++ ys) b
over_put xs ys b n e = put_at_lem xs (drop (length xs) b) ys n e ∙ simp (append_assoc, drop-drop, length-append)

-- a word stored behind a run, where it fits
module _ (xs b f y : List ℕ) (n : ℕ) (e : length xs ≡ n) (ef : f ≡ over xs b) where
  stored : (ys : List ℕ) → n + length ys ≤ length b → y ≡ store f n ys → y ≡ over (xs ++ ys) b
  stored ys h ey =
      let l : length f ≡ length b = ap length ef ∙ over_length xs b (omega arith) in
      ey ∙ sym (store_put f n ys (length ys) refl (omega arith)) ∙ ap (λ (r : List ℕ). put r n ys) ef ∙ over_put xs ys b n e

  pub over_u32 : (v : ℕ) → n + 4 ≤ length b → y ≡ store f n (le32 v) → y ≡ over (xs ++ le32 v) b
  over_u32 v h ey = stored (le32 v) (omega (arith, le32_length v)) ey

  pub over_u16 : (v : ℕ) → n + 2 ≤ length b → y ≡ store f n (le16 v) → y ≡ over (xs ++ le16 v) b
  over_u16 v h ey = stored (le16 v) (omega (arith, le16_length v)) ey

-- ---- a part lent from w to the end, `&mut b[w..]`

pub lent_room : (w n : ℕ) (b : List ℕ) → w + n ≤ length b → n ≤ length (lent w b)
lent_room w n b h = rw lent_is (simp length-drop (omega arith))

back : (w : ℕ) (b ys : List ℕ) → w ≤ length b → put_mid w (length b - w) b ys ≡ take w b ++ ys
back w b ys h =
    ap (λ (r : List ℕ). take w b ++ (ys ++ r)) (drop_of_length-le (drop w b) {i = length b - w} (simp length-drop (omega arith)))
    ∙ ap (λ (r : List ℕ). take w b ++ r) (append-nil ys)

-- the callee laid bs over the start of the part
pub lent_put : (w : ℕ) (b bs y : List ℕ) → w ≤ length b → y ≡ over bs (lent w b) → put_mid w (length b - w) b y ≡ put b w bs
lent_put w b bs y h e =
    ap (put_mid w (length b - w) b) (e ∙ ap (over bs) (lent_is w b)) ∙ back w b (over bs (drop w b)) h
    ∙ ap (λ (r : List ℕ). take w b ++ (bs ++ r)) (drop-drop (length bs) w b)

pub lent_length : (w : ℕ) (b bs y : List ℕ) → w + length bs ≤ length b → y ≡ over bs (lent w b) → length (put_mid w (length b - w) b y) ≡ length b
lent_length w b bs y h e = ap length (lent_put w b bs y (omega arith) e) ∙ put_length_lem b w bs h

-- the callee laid ys over the start of the part, which lies behind the run xs
pub lent_behind : (xs ys b f y : List ℕ) (w : ℕ) → length xs ≡ w → f ≡ over xs b → y ≡ over ys (lent w f) → put_mid w (length f - w) f y ≡ over (xs ++ ys) b
lent_behind xs ys b f y w k ef ey =
    let h : w ≤ length f = omega (arith, ap length ef ∙ length-append xs (drop (length xs) b)) in
    lent_put w f ys y h ey ∙ ap (λ (r : List ℕ). put r w ys) ef ∙ over_put xs ys b w k

-- the callee copied s there
pub lent_copy : (xs s b f y : List ℕ) (w : ℕ) → length xs ≡ w → f ≡ over xs b → y ≡ take (length s) s ++ drop (length s) (lent w f)
    → put_mid w (length f - w) f y ≡ over (xs ++ s) b
lent_copy xs s b f y w k ef ey = lent_behind xs s b f y w k ef (ey ∙ ap (λ (r : List ℕ). r ++ drop (length s) (lent w f)) (take-length s))

-- the callee laid bs over the start of the part, and then the last length was stored
pub lent_grown : (w : ℕ) (b bs y z : List ℕ) (h n : ℕ) → w + length bs ≤ length b → h + 8 ≤ w → y ≡ over bs (lent w b) → n ≡ w + length bs
    → z ≡ store (put_mid w (length b - w) b y) (h + 4) (le32 (n - h - 8)) → z ≡ grown b w bs h
lent_grown w b bs y z h n k g e en ez =
    let l = lent_length w b bs y k e in
    let v = le32 (n - h - 8) in
    ez ∙ sym (store_put (put_mid w (length b - w) b y) (h + 4) v 4 (le32_length (n - h - 8)) (omega arith))
    ∙ ap (λ (r : List ℕ). put r (h + 4) v) (lent_put w b bs y (omega arith) e) ∙ ap (λ (x : ℕ). put (put b w bs) (h + 4) (le32 (x - h - 8))) en

-- ---- the bytes of records, as the code makes them

pub checksum_is : (name k : ℕ) (bs : List ℕ) → length bs ≡ size_of k → length bs < 256
    → ((le32 name ++ le16 (length bs + 256 * k)) ++ bs) ++ le16 0 ≡ checksum_bytes (record { name = name; kind = k; bytes = bs })
unfolding le16 zeros
checksum_is name k bs e h =
    let n = length bs in
    let e₀ : (n + 256 * k) % 256 ≡ n = omega arith in
    let e₁ : (n + 256 * k) / 256 ≡ k = omega arith in
    let p : padding n ≡ 2 = ap (λ (x : ℕ). up4 (6 + x) - (6 + x)) e ∙ omega (arith, padding_two k) in
    (λ i. ((le32 name ++ (e₀ i ∷ e₁ i ∷ [])) ++ bs) ++ (0 ∷ 0 ∷ []))
    ∙ ap (λ (x : List ℕ). x ++ (0 ∷ 0 ∷ [])) (append_assoc (le32 name) (n ∷ k ∷ []) bs)
    ∙ append_assoc (le32 name) (n ∷ k ∷ bs) (0 ∷ 0 ∷ [])
    ∙ ap (λ (x : ℕ). le32 name ++ (n ∷ k ∷ (bs ++ zeros x))) (sym p)

pub three_two : (a b c : ℕ) → length ((le32 a ++ le32 b) ++ le32 c) ≡ 12
unfolding le32
three_two a b c = refl

abbrev three_words : ℕ → ℕ → ℕ → List ℕ
three_words a b c = (le32 a ++ le32 b) ++ le32 c

pub extra_at : (m n : ℕ) → m ≡ 1 → extra_length (extended m) n ≡ 4 + 4 * n
extra_at m n e = ap (λ (t : Bool). extra_length t n) (eq-eqb m 1 e)

pub inlinee_one : (m a f l : ℕ) (ws : List ℕ) → m ≡ 1
    → three_words a f l ++ (le32 (length ws) ++ word_bytes ws) ≡ inlinee_bytes (extended m) (record { inlinee = a; file = f; line = l; extra = ws })
inlinee_one m a f l ws e =
    (simp append_assoc) ∙ ap (λ (t : Bool). inlinee_bytes t (record { inlinee = a; file = f; line = l; extra = ws })) (sym (eq-eqb m 1 e))

pub inlinee_other : (m a f l : ℕ) (ws : List ℕ) → (m ≡ 1 → ⊥) → three_words a f l ≡ inlinee_bytes (extended m) (record { inlinee = a; file = f; line = l; extra = ws })
inlinee_other m a f l ws e =
    append_assoc (le32 a) (le32 f) (le32 l) ∙ ap (λ (x : List ℕ). le32 a ++ (le32 f ++ x)) (sym (append-nil (le32 l)))
    ∙ ap (λ (t : Bool). inlinee_bytes t (record { inlinee = a; file = f; line = l; extra = ws })) (sym (ne_eqb m 1 e))

pub block_is : (f : ℕ) (xs ys : List ℕ)
    → (three_words f (length xs / 2) (block_head_size + 4 * length xs + 4 * length ys) ++ word_bytes xs) ++ word_bytes ys ≡ block_bytes (record { file = f; lines = xs; columns = ys })
block_is f xs ys = simp append_assoc

-- the first bytes of a subsection, made in an array of their own
pub signature_made : (v : ℕ) (y : List ℕ) → y ≡ store (0 ∷ 0 ∷ 0 ∷ 0 ∷ []) 0 (le32 v) → y ≡ le32 v
unfolding store le32
signature_made v y e = e

abbrev twelve : List ℕ
twelve = 0 ∷ 0 ∷ 0 ∷ 0 ∷ 0 ∷ 0 ∷ 0 ∷ 0 ∷ 0 ∷ 0 ∷ 0 ∷ 0 ∷ []

head_over : (o s f k : ℕ) → over (((le32 o ++ le16 s) ++ le16 f) ++ le32 k) twelve ≡ line_head_bytes (record { offset = o; section = s; flags = f; code = k })
unfolding le16 le32
head_over o s f k = refl

six : (o s : ℕ) → length (le32 o ++ le16 s) ≡ 6
unfolding le16 le32
six o s = refl

eight : (o s f : ℕ) → length ((le32 o ++ le16 s) ++ le16 f) ≡ 8
unfolding le16 le32
eight o s f = refl

pub head_made : (o s f k : ℕ) (h₁ h₂ h₃ h₄ : List ℕ) → h₁ ≡ store twelve 0 (le32 o) → h₂ ≡ store h₁ 4 (le16 s) → h₃ ≡ store h₂ 6 (le16 f) → h₄ ≡ store h₃ 8 (le32 k)
    → h₄ ≡ line_head_bytes (record { offset = o; section = s; flags = f; code = k })
head_made o s f k h₁ h₂ h₃ h₄ e₁ e₂ e₃ e₄ =
    let a₁ = over_u32 [] twelve twelve h₁ 0 refl refl o (omega arith) e₁ in
    let a₂ = over_u16 (le32 o) twelve h₁ h₂ 4 (le32_length o) a₁ s (omega arith) e₂ in
    let a₃ = over_u16 (le32 o ++ le16 s) twelve h₂ h₃ 6 (six o s) a₂ f (omega arith) e₃ in
    over_u32 ((le32 o ++ le16 s) ++ le16 f) twelve h₃ h₄ 8 (eight o s f) a₃ k (omega arith) e₄ ∙ head_over o s f k

-- ---- a loop that writes words: a turn

pub words_turn : (ws b f y : List ℕ) (i : ℕ) → i < length ws → 4 * length ws ≤ length b → f ≡ over (word_bytes (take i ws)) b → y ≡ store f (4 * i) (le32 (get_or ws i 0))
    → y ≡ over (word_bytes (take (i + 1) ws)) b
unfolding word_bytes
words_turn ws b f y i h r ef ey =
    let W : List ℕ = word_bytes (take i ws) in
    let w = get_or ws i 0 in
    let l : length W ≡ 4 * i = word_length (take i ws) ∙ ap (λ (n : ℕ). 4 * n) (length-take-le i ws (omega arith)) in
    let e : W ++ le32 w ≡ word_bytes (take (i + 1) ws) =
    sym (ap word_bytes (ap (λ (n : ℕ). take n ws) (add-one i) ∙ take-suc ws i 0 h) ∙ word_append (take i ws) (w ∷ []) ∙ ap (λ (x : List ℕ). W ++ x) (append-nil (le32 w))) in
    over_u32 W b f y (4 * i) l ef w (omega arith) ey ∙ ap (λ (x : List ℕ). over x b) e
