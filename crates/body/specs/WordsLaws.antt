-- Laws of runs of words, and of what stands at a place: bytes from a place on are a field's bytes, and the bytes behind it.
use Rattle.std.specs.Prelude.{ℕ, zero, suc, ◌+◌, ◌*◌, ◌≤◌, ◌<◌, ◌≡◌, refl, List, [], ◌∷◌, ◌++◌, length, take, drop, get_or}
use Rattle.std.proofs.Common.{sym, ap, ◌∙◌, append_assoc, arith, add-zero, add-one, length-append, length-drop, take-append-drop, drop-drop, drop_at, drop-cons}
use Rattle.word.specs.Word.{u16_at, u32_at, le16, le32, Bytes}
use Rattle.word.specs.WordLaws.{bytes_drop, u16_drop, u32_drop, u16_first, u32_first, le16_u16, le32_u32, le32_length}
use Rattle.body.specs.Words.{words_in, word_bytes}

pub word_length : (ws : List ℕ) → length (word_bytes ws) ≡ 4 * length ws
unfolding word_bytes
word_length [] = refl
word_length (w ∷ ws) = length-append (le32 w) (word_bytes ws) ∙ omega (arith, le32_length w, word_length ws)

pub words_length : (n : ℕ) (s : List ℕ) → length (words_in n s) ≡ n
unfolding words_in
words_length zero s = refl
words_length (suc n) s = ap suc (words_length n (drop 4 s))

pub word_append : (xs ys : List ℕ) → word_bytes (xs ++ ys) ≡ word_bytes xs ++ word_bytes ys
unfolding word_bytes
word_append [] ys = refl
word_append (x ∷ xs) ys = ap (λ (l : List ℕ). le32 x ++ l) (word_append xs ys) ∙ sym (append_assoc (le32 x) (word_bytes xs) (word_bytes ys))

-- ---- what is put is read back

-- a word behind bytes
pub u32_at_lem : (p t : List ℕ) (v n : ℕ) → length p ≡ n → u32_at (p ++ (le32 v ++ t)) n ≡ v
u32_at_lem p t v n e =
    ap (u32_at (p ++ (le32 v ++ t))) (sym (add-zero n)) ∙ sym (u32_drop (p ++ (le32 v ++ t)) n 0)
    ∙ ap (λ (l : List ℕ). u32_at l 0) (drop_at p (le32 v ++ t) n e) ∙ u32_first v t

pub u16_at_lem : (p t : List ℕ) (v n : ℕ) → length p ≡ n → u16_at (p ++ (le16 v ++ t)) n ≡ v
u16_at_lem p t v n e =
    ap (u16_at (p ++ (le16 v ++ t))) (sym (add-zero n)) ∙ sym (u16_drop (p ++ (le16 v ++ t)) n 0)
    ∙ ap (λ (l : List ℕ). u16_at l 0) (drop_at p (le16 v ++ t) n e) ∙ u16_first v t

pub words_back : (ws t : List ℕ) (n : ℕ) → length ws ≡ n → words_in n (word_bytes ws ++ t) ≡ ws
unfolding words_in word_bytes
words_back [] t zero e = refl
words_back [] t (suc n) e = absurd (omega arith)
words_back (w ∷ ws) t zero e = absurd (omega arith)
words_back (w ∷ ws) t (suc n) e =
    let a : (le32 w ++ word_bytes ws) ++ t ≡ le32 w ++ (word_bytes ws ++ t) = append_assoc (le32 w) (word_bytes ws) t in
    let h : u32_at ((le32 w ++ word_bytes ws) ++ t) 0 ≡ w = ap (λ (l : List ℕ). u32_at l 0) a ∙ u32_first w (word_bytes ws ++ t) in
    let d : drop 4 ((le32 w ++ word_bytes ws) ++ t) ≡ word_bytes ws ++ t = ap (drop 4) a ∙ drop_at (le32 w) (word_bytes ws ++ t) 4 (le32_length w) in
    let r : words_in n (drop 4 ((le32 w ++ word_bytes ws) ++ t)) ≡ ws = ap (words_in n) d ∙ words_back ws t n (omega arith) in
    λ i. h i ∷ r i

-- ---- what is read is put back: one field of the bytes at p

module _ (s : List ℕ) (p : ℕ) where
  pub peel : (n : ℕ) → drop p s ≡ take n (drop p s) ++ drop (p + n) s
  peel n = sym (take-append-drop n (drop p s)) ∙ ap (λ (l : List ℕ). take n (drop p s) ++ l) (drop-drop n p s)

  pub peel8 : p < length s → drop p s ≡ get_or s p 0 ∷ drop (p + 1) s
  peel8 h = drop-cons s p 0 h ∙ ap (λ (n : ℕ). get_or s p 0 ∷ drop n s) (sym (add-one p))

  module _ (b : Bytes s) where
    pub peel16 : p + 2 ≤ length s → drop p s ≡ le16 (u16_at s p) ++ drop (p + 2) s
    peel16 h =
        peel 2 ∙ ap (λ (l : List ℕ). l ++ drop (p + 2) s)
        (sym (le16_u16 (drop p s) (bytes_drop p s b) (omega (arith, length-drop p s))) ∙ ap le16 (u16_drop s p 0 ∙ ap (u16_at s) (add-zero p)))

    pub peel32 : p + 4 ≤ length s → drop p s ≡ le32 (u32_at s p) ++ drop (p + 4) s
    peel32 h =
        peel 4 ∙ ap (λ (l : List ℕ). l ++ drop (p + 4) s)
        (sym (le32_u32 (drop p s) (bytes_drop p s b) (omega (arith, length-drop p s))) ∙ ap le32 (u32_drop s p 0 ∙ ap (u32_at s) (add-zero p)))

pub peel_words : (n : ℕ) (s : List ℕ) (p : ℕ) → Bytes s → p + 4 * n ≤ length s → drop p s ≡ word_bytes (words_in n (drop p s)) ++ drop (p + 4 * n) s
unfolding words_in word_bytes
peel_words zero s p b h = ap (λ (n : ℕ). drop n s) (sym (add-zero p))
peel_words (suc n) s p b h =
    let q : p + 4 + 4 * n ≡ p + 4 * suc n = omega arith in
    let e : u32_at s p ≡ u32_at (drop p s) 0 = sym (u32_drop s p 0 ∙ ap (u32_at s) (add-zero p)) in
    let r : drop (p + 4) s ≡ word_bytes (words_in n (drop 4 (drop p s))) ++ drop (p + 4 * suc n) s =
    peel_words n s (p + 4) b (omega arith)
    ∙ ap (λ (l : List ℕ). word_bytes (words_in n l) ++ drop (p + 4 + 4 * n) s) (sym (drop-drop 4 p s))
    ∙ ap (λ (m : ℕ). word_bytes (words_in n (drop 4 (drop p s))) ++ drop m s) q in
    peel32 s p b (omega arith)
    ∙ ap (λ (l : List ℕ). le32 (u32_at s p) ++ l) r
    ∙ sym (append_assoc (le32 (u32_at s p)) (word_bytes (words_in n (drop 4 (drop p s)))) (drop (p + 4 * suc n) s))
    ∙ ap (λ (v : ℕ). (le32 v ++ word_bytes (words_in n (drop 4 (drop p s)))) ++ drop (p + 4 * suc n) s) e
