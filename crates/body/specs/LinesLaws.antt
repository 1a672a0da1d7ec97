-- Laws of line headers and blocks: their bytes are read back, and what is read has these bytes, a block if it is exactly filled.
use Rattle.std.specs.Prelude.{ℕ, ◌+◌, ◌-◌, ◌*◌, ◌/◌, ◌≤◌, ◌≡◌, List, [], ◌++◌, Bool, drop, ltb, eqb}
use Rattle.std.proofs.Math.Path.{refl}
use Rattle.std.proofs.Common.{sym, ap, ◌∙◌, append_assoc, arith, length-append, drop_at, ltb-false, eqb-true, ne_eqb, le-ltb}
use Rattle.std.proofs.Math.ListN.{length}
use Rattle.word.specs.Word.{u16_at, u32_at, le16, le32, Bytes}
use Rattle.word.specs.WordLaws.{le32_length, header_length, u32_first}
use Rattle.walk.specs.Cases.{by_cases}
use Rattle.walk.specs.Listing.{Move, item, over}
use Rattle.walk.specs.FailsLaws.{StepFailsBy, FailsBy, all_by}
use Rattle.refusal.specs.Told.{Told, told}
use Rattle.refusal.specs.declared.Refusal.TheVariants as why
use Rattle.body.specs.Words.{words_in, word_bytes}
use Rattle.body.specs.Lines.{LineHead, line_head, Block, columns_of, line_bytes, block_head_size, block_bite, blocks, line_head_bytes, block_bytes}
use Rattle.body.specs.WordsLaws.{word_length, words_length, words_back, u16_at_lem, u32_at_lem, peel16, peel32, peel_words}
use Rattle.body.specs.RunLaws.{nil_of, Sound, sound_drop, Fronts}

-- ---- the header

pub head_length : (h : LineHead) → length (line_head_bytes h) ≡ 12
unfolding le16 le32
head_length h = refl

module _ (h : LineHead) (t : List ℕ) where
  abbrev s : List ℕ
  s = line_head_bytes h ++ t

  at_0 : s ≡ le32 h.offset ++ (le16 h.section ++ (le16 h.flags ++ (le32 h.code ++ t)))
  at_0 = simp append_assoc

  at_6 : s ≡ (le32 h.offset ++ le16 h.section) ++ (le16 h.flags ++ (le32 h.code ++ t))
  at_6 = simp append_assoc

  at_8 : s ≡ (le32 h.offset ++ (le16 h.section ++ le16 h.flags)) ++ (le32 h.code ++ t)
  at_8 = simp append_assoc

  six : length (le32 h.offset ++ le16 h.section) ≡ 6
  unfolding le16 le32
  six = refl

  eight : length (le32 h.offset ++ (le16 h.section ++ le16 h.flags)) ≡ 8
  unfolding le16 le32
  eight = refl

  pub head_forth : line_head s ≡ h
  head_forth =
      let e₀ : u32_at s 0 ≡ h.offset = ap (λ (l : List ℕ). u32_at l 0) at_0 ∙ u32_first h.offset (le16 h.section ++ (le16 h.flags ++ (le32 h.code ++ t))) in
      let e₄ : u16_at s 4 ≡ h.section = ap (λ (l : List ℕ). u16_at l 4) at_0 ∙ u16_at_lem (le32 h.offset) (le16 h.flags ++ (le32 h.code ++ t)) h.section 4 (le32_length h.offset) in
      let e₆ : u16_at s 6 ≡ h.flags = ap (λ (l : List ℕ). u16_at l 6) at_6 ∙ u16_at_lem (le32 h.offset ++ le16 h.section) (le32 h.code ++ t) h.flags 6 six in
      let e₈ : u32_at s 8 ≡ h.code = ap (λ (l : List ℕ). u32_at l 8) at_8 ∙ u32_at_lem (le32 h.offset ++ (le16 h.section ++ le16 h.flags)) t h.code 8 eight in
      λ i. record { offset = e₀ i; section = e₄ i; flags = e₆ i; code = e₈ i }

pub head_back : (s : List ℕ) → Bytes s → 12 ≤ length s → s ≡ line_head_bytes (line_head s) ++ drop 12 s
head_back s h l =
    peel32 s 0 h (omega arith)
    ∙ ap (λ (x : List ℕ). le32 (u32_at s 0) ++ x)
    (peel16 s 4 h (omega arith)
    ∙ ap (λ (x : List ℕ). le16 (u16_at s 4) ++ x) (peel16 s 6 h (omega arith) ∙ ap (λ (x : List ℕ). le16 (u16_at s 6) ++ x) (peel32 s 8 h (omega arith))))
    ∙ sym (simp append_assoc)

-- ---- blocks

-- words in pairs, and as many columns as the flag says
pub record Filled (c : Bool) (b : Block) : Type 0 where
  pub pairs : 2 * (length b.lines / 2) ≡ length b.lines
  pub columns : length b.columns ≡ columns_of c (length b.lines / 2)

abbrev pub block_length : Block → ℕ
block_length b = 12 + 4 * length b.lines + 4 * length b.columns

-- the three words of a block's header
abbrev three : Block → List ℕ
three b = le32 b.file ++ (le32 (length b.lines / 2) ++ le32 (block_length b))

three_length : (b : Block) → length (three b) ≡ 12
unfolding le32
three_length b = refl

pub block_length_lem : (b : Block) → length (block_bytes b) ≡ block_length b
block_length_lem b =
    let e : block_bytes b ≡ three b ++ (word_bytes b.lines ++ word_bytes b.columns) = simp append_assoc in
    ap length e ∙ length-append (three b) (word_bytes b.lines ++ word_bytes b.columns)
    ∙ omega (arith, three_length b, length-append (word_bytes b.lines) (word_bytes b.columns), word_length b.lines, word_length b.columns)

pub block_sound : (c : Bool) (s : List ℕ) → Sound s (block_bite c s)
unfolding block_bite
block_sound c s =
    let P : Move (List ℕ) Block Told → Type 0 = Sound s in
    by_cases P (eqb (length s) 0) (λ a. eqb-true (length s) 0 a)
    (λ a. by_cases P (ltb (length s) 12) (λ b. tt)
    (λ b. by_cases P (ltb (u32_at s 8) 12) (λ d. tt)
    (λ d. by_cases P (ltb (length s) (u32_at s 8)) (λ e. tt)
    (λ e. by_cases P (ltb (u32_at s 8 - 12) (line_bytes c (u32_at s 4))) (λ f. tt) (λ f. sound_drop s (u32_at s 8) (omega (arith, ltb-false)) (omega (arith, ltb-false)))))))

-- why a block, and the blocks of a body, can fail: 1 and 7, and nothing else
module _ (Q : Told → Type 0) (cut : Q (told why.Cut)) (size : Q (told why.BlockSize)) where
  block_by : (c : Bool) (s : List ℕ) → StepFailsBy Q (block_bite c s)
  unfolding block_bite
  block_by c s =
      let P : Move (List ℕ) Block Told → Type 0 = StepFailsBy Q in
      by_cases P (eqb (length s) 0) (λ e. tt)
      (λ e. by_cases P (ltb (length s) block_head_size) (λ e. cut)
      (λ e. by_cases P (ltb (u32_at s 8) block_head_size) (λ e. size)
      (λ e. by_cases P (ltb (length s) (u32_at s 8)) (λ e. cut)
      (λ e. by_cases P (ltb (u32_at s 8 - block_head_size) (line_bytes c (u32_at s 4))) (λ e. size) (λ e. tt)))))

  pub blocks_by : (c : Bool) (s : List ℕ) → FailsBy Q (blocks c s)
  unfolding blocks
  blocks_by c = all_by Q (block_bite c) (block_by c) length

pub block_front : (c : Bool) (s : List ℕ) → Bytes s → u32_at s 8 ≡ 12 + line_bytes c (u32_at s 4) → Fronts block_bytes (Filled c) s (block_bite c s)
unfolding block_bite
block_front c s h full =
    let P = Fronts block_bytes (Filled c) s in
    by_cases P (eqb (length s) 0) (λ a. nil_of s (eqb-true (length s) 0 a))
    (λ a. by_cases P (ltb (length s) 12) (λ b. tt)
    (λ b. by_cases P (ltb (u32_at s 8) 12) (λ d. tt)
    (λ d. by_cases P (ltb (length s) (u32_at s 8)) (λ e. tt)
    (λ e. by_cases P (ltb (u32_at s 8 - 12) (line_bytes c (u32_at s 4))) (λ f. tt)
    (λ f.
    let n = u32_at s 4 in
    let m = columns_of c n in
    let k : 12 + (8 * n + 4 * m) ≤ length s = omega (arith, ltb-false (length s) (u32_at s 8) e) in
    let xs : List ℕ = words_in (2 * n) (drop 12 s) in
    let ys : List ℕ = words_in m (drop (12 + 8 * n) s) in
    let t : List ℕ = drop (u32_at s 8) s in
    let lx : length xs ≡ 2 * n = words_length (2 * n) (drop 12 s) in
    let ly : length ys ≡ m = words_length m (drop (12 + 8 * n) s) in
    let ln : length xs / 2 ≡ n = omega arith in
    let q : 12 + 4 * (2 * n) ≡ 12 + 8 * n = omega arith in
    let r : 12 + 8 * n + 4 * m ≡ u32_at s 8 = omega arith in
    let z : u32_at s 8 ≡ 12 + 4 * length xs + 4 * length ys = omega arith in (
      peel32 s 0 h (omega arith)
          ∙ ap (λ (x : List ℕ). le32 (u32_at s 0) ++ x)
          (peel32 s 4 h (omega arith) ∙ ap (λ (x : List ℕ). le32 n ++ x)
          (peel32 s 8 h (omega arith) ∙ ap (λ (x : List ℕ). le32 (u32_at s 8) ++ x)
          (peel_words (2 * n) s 12 h (omega arith)
          ∙ ap (λ (i : ℕ). word_bytes xs ++ drop i s) q
          ∙ ap (λ (x : List ℕ). word_bytes xs ++ x) (peel_words m s (12 + 8 * n) h (omega arith) ∙ ap (λ (i : ℕ). word_bytes ys ++ drop i s) r))))
          ∙ sym (simp append_assoc)
          ∙ ap (λ (i : ℕ). (le32 (u32_at s 0) ++ (le32 i ++ (le32 (u32_at s 8) ++ (word_bytes xs ++ word_bytes ys)))) ++ t) (sym ln)
          ∙ ap (λ (i : ℕ). (le32 (u32_at s 0) ++ (le32 (length xs / 2) ++ (le32 i ++ (word_bytes xs ++ word_bytes ys)))) ++ t) z,
      record { pairs = omega arith; columns = ly ∙ ap (columns_of c) (sym ln) },
    ))))))

pub block_ended : (c : Bool) → block_bite c [] ≡ over
unfolding block_bite
block_ended c = refl

-- the second and third word of a block's bytes
pub block_words : (b : Block) (t : List ℕ) → (u32_at (block_bytes b ++ t) 4 ≡ length b.lines / 2) × (u32_at (block_bytes b ++ t) 8 ≡ block_length b)
block_words b t =
    let n = length b.lines / 2 in
    let R : List ℕ = (word_bytes b.lines ++ word_bytes b.columns) ++ t in
    let a₄ : block_bytes b ++ t ≡ le32 b.file ++ (le32 n ++ (le32 (block_length b) ++ R)) = simp append_assoc in
    let a₈ : block_bytes b ++ t ≡ (le32 b.file ++ le32 n) ++ (le32 (block_length b) ++ R) = simp append_assoc in (
      ap (λ (x : List ℕ). u32_at x 4) a₄ ∙ u32_at_lem (le32 b.file) (le32 (block_length b) ++ R) n 4 (le32_length b.file),
      ap (λ (x : List ℕ). u32_at x 8) a₈ ∙ u32_at_lem (le32 b.file ++ le32 n) R (block_length b) 8 (header_length b.file n),
    )

pub block_forth : (c : Bool) (b : Block) (t : List ℕ) → Filled c b → block_bite c (block_bytes b ++ t) ≡ item b t
unfolding block_bite
block_forth c b t g =
    let n = length b.lines / 2 in
    let m = columns_of c n in
    let X : List ℕ = word_bytes b.lines in
    let Y : List ℕ = word_bytes b.columns in
    let s : List ℕ = block_bytes b ++ t in
    let l : length s ≡ block_length b + length t = length-append (block_bytes b) t ∙ ap (λ (i : ℕ). i + length t) (block_length_lem b) in
    let a₀ : s ≡ le32 b.file ++ (le32 n ++ (le32 (block_length b) ++ ((X ++ Y) ++ t))) = simp append_assoc in
    let a₈ : s ≡ (le32 b.file ++ le32 n) ++ (le32 (block_length b) ++ ((X ++ Y) ++ t)) = simp append_assoc in
    let a₁₂ : s ≡ three b ++ (X ++ (Y ++ t)) = simp append_assoc in
    let aᵧ : s ≡ (three b ++ X) ++ (Y ++ t) = simp append_assoc in
    let e₀ : u32_at s 0 ≡ b.file = ap (λ (x : List ℕ). u32_at x 0) a₀ ∙ u32_first b.file (le32 n ++ (le32 (block_length b) ++ ((X ++ Y) ++ t))) in
    let e₄ : u32_at s 4 ≡ n = ap (λ (x : List ℕ). u32_at x 4) a₀ ∙ u32_at_lem (le32 b.file) (le32 (block_length b) ++ ((X ++ Y) ++ t)) n 4 (le32_length b.file) in
    let e₈ : u32_at s 8 ≡ block_length b = ap (λ (x : List ℕ). u32_at x 8) a₈ ∙ u32_at_lem (le32 b.file ++ le32 n) ((X ++ Y) ++ t) (block_length b) 8 (header_length b.file n) in
    let d₁₂ : drop 12 s ≡ X ++ (Y ++ t) = ap (drop 12) a₁₂ ∙ drop_at (three b) (X ++ (Y ++ t)) 12 (three_length b) in
    let gp = g.pairs in
    let gc = g.columns in
    let lx : length (three b ++ X) ≡ 12 + 8 * n = length-append (three b) X ∙ omega (arith, three_length b, word_length b.lines) in
    let dᵧ : drop (12 + 8 * n) s ≡ Y ++ t = ap (drop (12 + 8 * n)) aᵧ ∙ drop_at (three b ++ X) (Y ++ t) (12 + 8 * n) lx in
    let ex : words_in (2 * u32_at s 4) (drop 12 s) ≡ b.lines = ap (λ (k : ℕ). words_in (2 * k) (drop 12 s)) e₄ ∙ ap (words_in (2 * n)) d₁₂ ∙ words_back b.lines (Y ++ t) (2 * n) (sym gp) in
    let ey : words_in (columns_of c (u32_at s 4)) (drop (12 + 8 * u32_at s 4) s) ≡ b.columns =
    ap (λ (k : ℕ). words_in (columns_of c k) (drop (12 + 8 * k) s)) e₄ ∙ ap (words_in m) dᵧ ∙ words_back b.columns t m gc in
    let et : drop (u32_at s 8) s ≡ t = ap (λ (k : ℕ). drop k s) e₈ ∙ drop_at (block_bytes b) t (block_length b) (block_length_lem b) in
    let ec : line_bytes c (u32_at s 4) ≡ 8 * n + 4 * m = ap (line_bytes c) e₄ in
    let h : (length s ≡ 0 → ⊥) = λ z. omega arith in
    rw (
      ne_eqb (length s) 0 h,
      le-ltb (length s) 12 (omega arith),
      le-ltb (u32_at s 8) 12 (omega arith),
      le-ltb (length s) (u32_at s 8) (omega arith),
      le-ltb (u32_at s 8 - 12) (line_bytes c (u32_at s 4)) (omega arith),
    )
    (λ i. item (record { file = e₀ i; lines = ex i; columns = ey i }) (et i))
