-- Laws of numbers as text: one step, no other text has it, how long it is, and that it is read back.
use Prim.Native.Nat.{ℕ, zero, suc, ◌+◌, ◌*◌, ◌/◌, ◌%◌, ◌^◌, ◌≤◌, ◌<◌}
use Rattle.std.specs.Prelude.{◌≡◌, Bool, length}
use Rattle.std.proofs.Math.Path.{refl, ap}
use Rattle.std.proofs.Common.{sym, ◌∙◌, arith, div-lt_iff_lt-mul, div-add-mod', mod-lt, pow-suc, one-mul, length-append, lt-ltb, le-ltb, ltb-true, ltb-false}
use mathlib.Core.List.{List, [], ◌∷◌, ◌++◌}
use Rattle.std.proofs.Math.Bool.{true, false, cond}
use Rattle.std.proofs.Math.Nat.{div-lt_self, pow-zero}
use Rattle.std.proofs.Math.Dec.{ltb}
use Rattle.walk.specs.Cases.{tests}
use Rattle.text.specs.Text.{ascii, glyph, numeral_in, numeral, hex_bytes}

-- ---- one digit

pub glyph_low : (d : ℕ) → d < 10 → 48 + d ≡ glyph d
unfolding glyph
glyph_low d h = simp tests

pub glyph_high : (d : ℕ) → 10 ≤ d → 87 + d ≡ glyph d
unfolding glyph
glyph_high d h = simp tests

-- ---- a text that is read from the left, each code by f with what was read before it

abbrev pub read_left : (ℕ → ℕ → ℕ) → ℕ → List ℕ → ℕ
read_left f n [] = n
read_left f n (x ∷ xs) = read_left f (f n x) xs

pub read_append : (f : ℕ → ℕ → ℕ) (n : ℕ) (xs ys : List ℕ) → read_left f n (xs ++ ys) ≡ read_left f (read_left f n xs) ys
read_append f n [] ys = refl
read_append f n (x ∷ xs) ys = read_append f (f n x) xs ys

-- ---- a numeral

module _ (b : ℕ) (two : 2 ≤ b) where
  pub smaller : (n : ℕ) → b ≤ n → n / b < n
  smaller n h = div-lt_self (omega arith) (omega arith)

  settled : (k m n : ℕ) → n ≤ k → n ≤ m → numeral_in b k n ≡ numeral_in b m n
  unfolding numeral_in
  settled zero zero n h l = refl
  settled zero (suc m) n h l = rw (lt-ltb n b (omega arith))
  settled (suc k) zero n h l = rw (lt-ltb n b (omega arith))
  settled (suc k) (suc m) n h l = by (ltb n b) refl (settled k m (n / b))
    where
      by : (t : Bool) → ltb n b ≡ t → (n / b ≤ k → n / b ≤ m → numeral_in b k (n / b) ≡ numeral_in b m (n / b))
          → cond t (glyph n ∷ []) (numeral_in b k (n / b) ++ (glyph (n % b) ∷ [])) ≡ cond t (glyph n ∷ []) (numeral_in b m (n / b) ++ (glyph (n % b) ∷ []))
      by true e ih = refl
      by false e ih =
          let s = smaller n (ltb-false n b e) in
          ap (λ (l : List ℕ). l ++ (glyph (n % b) ∷ [])) (ih (omega arith) (omega arith))

  pub numeral_one : (n : ℕ) → n < b → glyph n ∷ [] ≡ numeral b n
  unfolding numeral numeral_in
  numeral_one zero h = refl
  numeral_one (suc n) h = rw (lt-ltb (suc n) b h)

  pub numeral_more : (n : ℕ) → b ≤ n → numeral b (n / b) ++ (glyph (n % b) ∷ []) ≡ numeral b n
  unfolding numeral numeral_in
  numeral_more zero h = absurd (omega arith)
  numeral_more (suc n) h =
      let s = smaller (suc n) h in
      rw (le-ltb (suc n) b h)
      (ap (λ (l : List ℕ). l ++ (glyph (suc n % b) ∷ [])) (settled (suc n / b) n (suc n / b) (omega arith) (omega arith)))

  -- how many digits
  pub length_one : (n : ℕ) → n < b → length (numeral b n) ≡ 1
  length_one n h = ap length (sym (numeral_one n h))

  pub length_more : (n : ℕ) → b ≤ n → length (numeral b n) ≡ length (numeral b (n / b)) + 1
  length_more n h = ap length (sym (numeral_more n h)) ∙ length-append (numeral b (n / b)) (glyph (n % b) ∷ [])

  -- a number below b ^ (k + 1) has at most k + 1 of them
  pub length_below : (k n : ℕ) → n < b ^ suc k → length (numeral b n) ≤ suc k
  length_below zero n h = omega (arith, length_one n (rw (pow-suc b zero, pow-zero b, one-mul b) at h))
  length_below (suc k) n h = by (ltb n b) refl (length_below k (n / b))
    where
      by : (t : Bool) → ltb n b ≡ t → (n / b < b ^ suc k → length (numeral b (n / b)) ≤ suc k) → length (numeral b n) ≤ suc (suc k)
      by true e ih = omega (arith, length_one n (ltb-true n b e))
      by false e ih =
          let l = ih ((div-lt_iff_lt-mul (omega arith)).1 (rw (pow-suc b (suc k)) at h)) in
          omega (arith, length_more n (ltb-false n b e))

  -- no other text has these steps
  pub numeral_unique : (f : ℕ → List ℕ) → ((n : ℕ) → n < b → f n ≡ glyph n ∷ []) → ((n : ℕ) → b ≤ n → f n ≡ f (n / b) ++ (glyph (n % b) ∷ []))
      → (n : ℕ) → f n ≡ numeral b n
  numeral_unique f one more n = below (suc n) n (omega arith)
    where
      below : (k n : ℕ) → n < k → f n ≡ numeral b n
      below zero n h = absurd (omega arith)
      below (suc k) n h = by (ltb n b) refl (below k (n / b))
        where
          by : (t : Bool) → ltb n b ≡ t → (n / b < k → f (n / b) ≡ numeral b (n / b)) → f n ≡ numeral b n
          by true e ih = let l = ltb-true n b e in one n l ∙ numeral_one n l
          by false e ih =
              let l = ltb-false n b e in
              let s = smaller n l in
              more n l ∙ ap (λ (x : List ℕ). x ++ (glyph (n % b) ∷ [])) (ih (omega arith)) ∙ numeral_more n l

  -- its digits, read, give the number back, whatever f does with other codes
  pub numeral_read : (f : ℕ → ℕ → ℕ) → ((n d : ℕ) → d < b → f n (glyph d) ≡ n * b + d) → (n : ℕ) → read_left f 0 (numeral b n) ≡ n
  numeral_read f digit n = below (suc n) n (omega arith)
    where
      below : (k n : ℕ) → n < k → read_left f 0 (numeral b n) ≡ n
      below zero n h = absurd (omega arith)
      below (suc k) n h = by (ltb n b) refl (below k (n / b))
        where
          by : (t : Bool) → ltb n b ≡ t → (n / b < k → read_left f 0 (numeral b (n / b)) ≡ n / b) → read_left f 0 (numeral b n) ≡ n
          by true e ih = let l = ltb-true n b e in ap (read_left f 0) (sym (numeral_one n l)) ∙ digit 0 n l ∙ omega arith
          by false e ih =
              let l = ltb-false n b e in
              let s = smaller n l in
              ap (read_left f 0) (sym (numeral_more n l))
              ∙ read_append f 0 (numeral b (n / b)) (glyph (n % b) ∷ [])
              ∙ ap (λ (m : ℕ). f m (glyph (n % b))) (ih (omega arith))
              ∙ digit (n / b) (n % b) (mod-lt n (omega arith))
              ∙ div-add-mod' n b

pub hex_length : (s : List ℕ) → length (hex_bytes s) ≡ 2 * length s
unfolding hex_bytes
hex_length [] = refl
hex_length (x ∷ s) = omega (arith, hex_length s)

-- ---- some numbers, as this text

pub some : (numeral 10 0 ≡ ascii "0") × (numeral 10 4294967295 ≡ ascii "4294967295") × (numeral 16 0xf4 ≡ ascii "f4")
    × (hex_bytes (0 ∷ 0xaf ∷ []) ≡ ascii "00af") × (ascii "9a" ≡ 57 ∷ 97 ∷ [])
unfolding numeral numeral_in glyph hex_bytes ascii
some = (refl, refl, refl, refl, refl)
