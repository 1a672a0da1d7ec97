-- Laws for the code that looks at one record: one law for each way out, in the form of the code's tests.
use Rattle.std.specs.Prelude.{ℕ, ◌+◌, ◌-◌, ◌*◌, ◌<◌, ◌≤◌, ◌≡◌, refl, ◌⊎◌, List, [], ◌∷◌, Bool, false, ◌&&◌, length, ltb, leb, eqb}
use Rattle.std.proofs.Math.Path.{sym, ap}
use Rattle.std.proofs.Common.{◌∙◌, inl, inr, arith, get_or-drop}
use Rattle.std.proofs.Math.Bool.{true, cond}
use Rattle.std.proofs.Math.ListN.{drop, get_or, length-drop}
use borrow.Author.Tests.{lt-ltb, le-ltb, eq-eqb, ne_eqb, ltb-false}
use Rattle.word.specs.Word.{u16_at, u32_at}
use Rattle.word.specs.WordLaws.{u16_drop, u32_drop}
use Rattle.walk.specs.Cases.{by_cases, tests}
use Rattle.walk.specs.Listing.{Move, fail}
use Rattle.refusal.specs.Told.{Told, told}
use Rattle.refusal.specs.declared.Refusal.TheVariants as why
use Rattle.kinds.specs.Kind.{SYMBOLS, LINES, STRING_TABLE, FILE_CHECKSUMS, FRAME_DATA, INLINEE_LINES, CROSS_SCOPE_IMPORTS, CROSS_SCOPE_EXPORTS, IL_LINES, COFF_SYMBOL_RVA, known_kinds, among}
use Rattle.kinds.proofs.KindLaws.{among_range, among_but}
use Rattle.body.specs.Lines.{line_bytes, block_head_size, block_bite}
use Rattle.body.specs.Checksums.{Checksum, up4, checksum_bite}
use Rattle.body.specs.Inlinees.{extra_bite, inlinee_bite}
use Rattle.body.specs.Imports.{module_bite}
use Rattle.plain.specs.Plain.{strict, block_filled, plain_block, size_of, tidy, plain_checksum, is_opaque}
use Rattle.plain.specs.WalkLaws.{stride, stride_drop, strict_none}

-- a refusal gives no record, whatever the test
none_at : {B : Type 0} (s : List ℕ) (t : Bool) (u : Move (List ℕ) B Told) (r : Told) → u ≡ fail r → 0 ≡ stride s (strict t u)
none_at s t u r e = ap (λ x. stride s (strict t x)) (sym e)

none_as : {B : Type 0} (s : List ℕ) (u : Move (List ℕ) B Told) (r : Told) → u ≡ fail r → 0 ≡ stride s u
none_as s u r e = ap (stride s) (sym e)

-- ---- blocks

pub line_bytes_max : (c : Bool) (n : ℕ) → line_bytes c n ≤ 12 * n
line_bytes_max true n = omega arith
line_bytes_max false n = omega arith

module _ (c : Bool) (s : List ℕ) (i : ℕ) (h₀ : i < length s) where
  abbrev block_r : ℕ
  block_r = stride (drop i s) (plain_block c (drop i s))

  pub block_short : length s - i < block_head_size → 0 ≡ block_r
  unfolding block_bite
  block_short h =
      let D = drop i s in
      let z : (length D ≡ 0 → ⊥) = λ e. omega (arith, length-drop i s) in
      none_at D (block_filled c D) (block_bite c D) (told why.Cut) (rw (ne_eqb (length D) 0 z, lt-ltb (length D) block_head_size (omega (arith, length-drop i s))))

  module _ (h₁ : block_head_size ≤ length s - i) (n size w : ℕ) (en : n ≡ u32_at s (i + 4)) (es : size ≡ u32_at s (i + 8)) (ew : w ≡ line_bytes c n) where
    dw : line_bytes c (u32_at (drop i s) 4) ≡ w
    dw = ap (line_bytes c) (u32_drop s i 4 ∙ sym en) ∙ sym ew

    pub block_odd : (size ≡ block_head_size + w → ⊥) → 0 ≡ block_r
    block_odd h =
        let D = drop i s in
        let d : (u32_at D 8 ≡ block_head_size + line_bytes c (u32_at D 4) → ⊥) = λ e. h (omega (arith, u32_drop s i 8, dw)) in
        strict_none D (block_bite c D) ∙ ap (λ (t : Bool). stride D (strict t (block_bite c D))) (sym (ne_eqb (u32_at D 8) (block_head_size + line_bytes c (u32_at D 4)) d))

    module _ (full : size ≡ block_head_size + w) where
      pub block_cut : length s - i < size → 0 ≡ block_r
      unfolding block_bite
      block_cut h =
          let D = drop i s in
          let z : (length D ≡ 0 → ⊥) = λ e. omega (arith, length-drop i s) in
          none_at D (block_filled c D) (block_bite c D) (told why.Cut)
          (rw (
            ne_eqb (length D) 0 z,
            le-ltb (length D) block_head_size (omega (arith, length-drop i s)),
            le-ltb (u32_at D 8) block_head_size (omega (arith, u32_drop s i 8)),
            lt-ltb (length D) (u32_at D 8) (omega (arith, u32_drop s i 8, length-drop i s)),
          ))

      pub block_goes : size ≤ length s - i → size ≡ block_r
      unfolding block_bite
      block_goes h =
          let D = drop i s in
          let z : (length D ≡ 0 → ⊥) = λ e. omega (arith, length-drop i s) in
          let d : u32_at D 8 ≡ size = u32_drop s i 8 ∙ sym es in
          rw (
            eq-eqb (u32_at D 8) (block_head_size + line_bytes c (u32_at D 4)) (omega (arith, dw)),
            ne_eqb (length D) 0 z,
            le-ltb (length D) block_head_size (omega (arith, length-drop i s)),
            le-ltb (u32_at D 8) block_head_size (omega arith),
            le-ltb (length D) (u32_at D 8) (omega (arith, length-drop i s)),
            le-ltb (u32_at D 8 - block_head_size) (line_bytes c (u32_at D 4)) (omega (arith, dw)),
          )
          (sym d ∙ stride_drop D (u32_at D 8) (omega (arith, length-drop i s)))

-- ---- checksums

-- each size leaves two bytes of padding
pub padding_two : (k : ℕ) → up4 (6 + size_of k) ≡ size_of k + 8
unfolding size_of
padding_two k =
    by_cases (λ (x : ℕ). up4 (6 + x) ≡ x + 8) (eqb k 0) (λ a. refl)
    (λ a. by_cases (λ (x : ℕ). up4 (6 + x) ≡ x + 8) (eqb k 1) (λ b. refl) (λ b. by_cases (λ (x : ℕ). up4 (6 + x) ≡ x + 8) (eqb k 2) (λ d. refl) (λ d. refl)))

module _ (s : List ℕ) (i : ℕ) (h₀ : i < length s) where
  abbrev sum_r : ℕ
  sum_r = stride (drop i s) (plain_checksum (drop i s))

  pub sum_short : length s - i < 6 → 0 ≡ sum_r
  unfolding checksum_bite
  sum_short h =
      let D = drop i s in
      let z : (length D ≡ 0 → ⊥) = λ e. omega (arith, length-drop i s) in
      none_at D (tidy D) (checksum_bite D) (told why.Cut) (rw (ne_eqb (length D) 0 z, lt-ltb (length D) 6 (omega (arith, length-drop i s))))

  module _ (h₁ : 6 ≤ length s - i) (n k z : ℕ) (en : n ≡ get_or s (i + 4) 0) (ek : k ≡ get_or s (i + 5) 0) (ez : z ≡ size_of k) where
    dn : get_or (drop i s) 4 0 ≡ n
    dn = get_or-drop i s 4 0 ∙ sym en

    dk : get_or (drop i s) 5 0 ≡ k
    dk = get_or-drop i s 5 0 ∙ sym ek

    dz : size_of (get_or (drop i s) 5 0) ≡ z
    dz = ap size_of dk ∙ sym ez

    some_left : length (drop i s) ≡ 0 → ⊥
    some_left e = omega (arith, length-drop i s)

    pub sum_odd : (n ≡ z → ⊥) → 0 ≡ sum_r
    sum_odd h =
        let D = drop i s in
        let d : (get_or D 4 0 ≡ size_of (get_or D 5 0) → ⊥) = λ e. h (sym dn ∙ e ∙ dz) in
        strict_none D (checksum_bite D)
        ∙ ap (λ (t : Bool). stride D (strict (t && eqb (u16_at D (6 + get_or D 4 0)) 0) (checksum_bite D))) (sym (ne_eqb (get_or D 4 0) (size_of (get_or D 5 0)) d))

    module _ (full : n ≡ z) where
      up : up4 (6 + get_or (drop i s) 4 0) ≡ n + 8
      up = ap (λ (x : ℕ). up4 (6 + x)) (dn ∙ full ∙ ez) ∙ padding_two k ∙ ap (λ (x : ℕ). x + 8) (sym (full ∙ ez))

      pub sum_cut : length s - i < n + 8 → 0 ≡ sum_r
      unfolding checksum_bite
      sum_cut h =
          let D = drop i s in
          let P : Move (List ℕ) Checksum Told → Type 0 = λ u. 0 ≡ stride D (strict (tidy D) u) in
          by_cases P (eqb (length D) 0) (λ a. refl)
          (λ a. by_cases P (ltb (length D) 6) (λ b. refl)
          (λ b. by_cases P (ltb (length D - 6) (get_or D 4 0)) (λ d. refl)
          (λ d. by_cases P (ltb 3 (get_or D 5 0)) (λ e. refl)
          (λ e. by_cases P (ltb (length D) (up4 (6 + get_or D 4 0))) (λ f. refl) (λ f. absurd (omega (arith, ltb-false, up, length-drop i s)))))))

      module _ (h₂ : n + 8 ≤ length s - i) where
        pub sum_kind : 3 < k → 0 ≡ sum_r
        unfolding checksum_bite
        sum_kind h =
            let D = drop i s in
            none_at D (tidy D) (checksum_bite D) (told (why.UnknownChecksumKind (get_or D 5 0)))
            (rw (
              ne_eqb (length D) 0 some_left,
              le-ltb (length D) 6 (omega (arith, length-drop i s)),
              le-ltb (length D - 6) (get_or D 4 0) (omega (arith, length-drop i s, dn)),
              lt-ltb 3 (get_or D 5 0) (omega (arith, dk)),
            ))

        module _ (h₃ : k ≤ 3) (u : ℕ) (eu : u ≡ u16_at s (i + (6 + n))) where
          du : u16_at (drop i s) (6 + get_or (drop i s) 4 0) ≡ u
          du = ap (λ (x : ℕ). u16_at (drop i s) (6 + x)) dn ∙ u16_drop s i (6 + n) ∙ sym eu

          fit : eqb (get_or (drop i s) 4 0) (size_of (get_or (drop i s) 5 0)) ≡ true
          fit = eq-eqb (get_or (drop i s) 4 0) (size_of (get_or (drop i s) 5 0)) (dn ∙ full ∙ sym dz)

          pub sum_pad : (u ≡ 0 → ⊥) → 0 ≡ sum_r
          sum_pad h =
              let D = drop i s in
              let d : (u16_at D (6 + get_or D 4 0) ≡ 0 → ⊥) = λ e. h (sym du ∙ e) in
              strict_none D (checksum_bite D)
              ∙ ap (λ (t : Bool). stride D (strict (true && t) (checksum_bite D))) (sym (ne_eqb (u16_at D (6 + get_or D 4 0)) 0 d))
              ∙ ap (λ (t : Bool). stride D (strict (t && eqb (u16_at D (6 + get_or D 4 0)) 0) (checksum_bite D))) (sym fit)

          pub sum_goes : u ≡ 0 → n + 8 ≡ sum_r
          unfolding checksum_bite
          sum_goes h =
              let D = drop i s in
              rw (
                fit,
                eq-eqb (u16_at D (6 + get_or D 4 0)) 0 (du ∙ h),
                ne_eqb (length D) 0 some_left,
                le-ltb (length D) 6 (omega (arith, length-drop i s)),
                le-ltb (length D - 6) (get_or D 4 0) (omega (arith, length-drop i s, dn)),
                le-ltb 3 (get_or D 5 0) (omega (arith, dk)),
                le-ltb (length D) (up4 (6 + get_or D 4 0)) (omega (arith, up, length-drop i s)),
              )
              (sym up ∙ stride_drop D (up4 (6 + get_or D 4 0)) (omega (arith, up, length-drop i s)))

-- ---- inlinees

module _ (x : Bool) (s : List ℕ) (i : ℕ) (h₀ : i < length s) where
  abbrev inlinee_r : ℕ
  inlinee_r = stride (drop i s) (inlinee_bite x (drop i s))

  some_left' : length (drop i s) ≡ 0 → ⊥
  some_left' e = omega (arith, length-drop i s)

  pub inlinee_short : length s - i < 12 → 0 ≡ inlinee_r
  unfolding inlinee_bite
  inlinee_short h =
      let D = drop i s in
      none_as D (inlinee_bite x D) (told why.Cut) (rw (ne_eqb (length D) 0 some_left', lt-ltb (length D) 12 (omega (arith, length-drop i s))))

  module _ (h₁ : 12 ≤ length s - i) where
    on_extra : stride (drop i s) (extra_bite x (drop i s)) ≡ inlinee_r
    unfolding inlinee_bite
    on_extra = let D = drop i s in rw (ne_eqb (length D) 0 some_left', le-ltb (length D) 12 (omega (arith, length-drop i s)))

    pub inlinee_bare : x ≡ false → 12 ≡ inlinee_r
    inlinee_bare e =
        let D = drop i s in
        stride_drop D 12 (omega (arith, length-drop i s)) ∙ ap (λ (t : Bool). stride D (extra_bite t D)) (sym e) ∙ on_extra

    module _ (ex : x ≡ true) where
      with_extra : stride (drop i s) (extra_bite true (drop i s)) ≡ inlinee_r
      with_extra = ap (λ (t : Bool). stride (drop i s) (extra_bite t (drop i s))) (sym ex) ∙ on_extra

      pub inlinee_low : length s - i < 16 → 0 ≡ inlinee_r
      inlinee_low h =
          let D = drop i s in
          none_as D (extra_bite true D) (told why.Cut) (rw (lt-ltb (length D) 16 (omega (arith, length-drop i s)))) ∙ with_extra

      module _ (h₂ : 16 ≤ length s - i) (n : ℕ) (en : n ≡ u32_at s (i + 12)) where
        pub inlinee_cut : length s - i - 16 < 4 * n → 0 ≡ inlinee_r
        inlinee_cut h =
            let D = drop i s in
            none_as D (extra_bite true D) (told why.Cut)
            (rw (
              le-ltb (length D) 16 (omega (arith, length-drop i s)),
              lt-ltb (length D - 16) (4 * u32_at D 12) (omega (arith, length-drop i s, u32_drop s i 12)),
            ))
            ∙ with_extra

        pub inlinee_goes : 4 * n ≤ length s - i - 16 → 16 + 4 * n ≡ inlinee_r
        inlinee_goes h =
            let D = drop i s in
            let d : u32_at D 12 ≡ n = u32_drop s i 12 ∙ sym en in
            ap (λ (k : ℕ). 16 + 4 * k) (sym d)
            ∙ (rw (le-ltb (length D) 16 (omega (arith, length-drop i s)), le-ltb (length D - 16) (4 * u32_at D 12) (omega (arith, length-drop i s)))
            (stride_drop D (16 + 4 * u32_at D 12) (omega (arith, length-drop i s))))
            ∙ with_extra

-- ---- modules

module _ (s : List ℕ) (i : ℕ) (h₀ : i < length s) where
  abbrev module_r : ℕ
  module_r = stride (drop i s) (module_bite (drop i s))

  some_left'' : length (drop i s) ≡ 0 → ⊥
  some_left'' e = omega (arith, length-drop i s)

  pub module_short : length s - i < 8 → 0 ≡ module_r
  unfolding module_bite
  module_short h =
      let D = drop i s in
      none_as D (module_bite D) (told why.Cut) (rw (ne_eqb (length D) 0 some_left'', lt-ltb (length D) 8 (omega (arith, length-drop i s))))

  module _ (h₁ : 8 ≤ length s - i) (n : ℕ) (en : n ≡ u32_at s (i + 4)) where
    pub module_cut : length s - i - 8 < 4 * n → 0 ≡ module_r
    unfolding module_bite
    module_cut h =
        let D = drop i s in
        none_as D (module_bite D) (told why.Cut)
        (rw (
          ne_eqb (length D) 0 some_left'',
          le-ltb (length D) 8 (omega (arith, length-drop i s)),
          lt-ltb (length D - 8) (4 * u32_at D 4) (omega (arith, length-drop i s, u32_drop s i 4)),
        ))

    pub module_goes : 4 * n ≤ length s - i - 8 → 8 + 4 * n ≡ module_r
    unfolding module_bite
    module_goes h =
        let D = drop i s in
        let d : u32_at D 4 ≡ n = u32_drop s i 4 ∙ sym en in
        ap (λ (k : ℕ). 8 + 4 * k) (sym d)
        ∙ (rw (
          ne_eqb (length D) 0 some_left'',
          le-ltb (length D) 8 (omega (arith, length-drop i s)),
          le-ltb (length D - 8) (4 * u32_at D 4) (omega (arith, length-drop i s)),
        )
        (stride_drop D (8 + 4 * u32_at D 4) (omega (arith, length-drop i s))))

-- ---- opaque kinds

module _ (k : ℕ) where
  -- the known kinds that have no entries of their own are the opaque ones
  module _ (a : k ≡ LINES → ⊥) (b : k ≡ FILE_CHECKSUMS → ⊥) (d : k ≡ INLINEE_LINES → ⊥) (e : k ≡ CROSS_SCOPE_IMPORTS → ⊥)
      (f : k ≡ CROSS_SCOPE_EXPORTS → ⊥) where
    pub known_opaque : among k known_kinds ≡ is_opaque k
    unfolding is_opaque
    known_opaque =
        among_but k LINES (SYMBOLS ∷ []) (drop 2 known_kinds) a
        ∙ among_but k FILE_CHECKSUMS (SYMBOLS ∷ STRING_TABLE ∷ []) (drop 4 known_kinds) b
        ∙ among_but k INLINEE_LINES (SYMBOLS ∷ STRING_TABLE ∷ FRAME_DATA ∷ []) (drop 6 known_kinds) d
        ∙ among_but k CROSS_SCOPE_IMPORTS (SYMBOLS ∷ STRING_TABLE ∷ FRAME_DATA ∷ []) (drop 7 known_kinds) e
        ∙ among_but k CROSS_SCOPE_EXPORTS (SYMBOLS ∷ STRING_TABLE ∷ FRAME_DATA ∷ []) (drop 8 known_kinds) f

  -- the last five of the names are numbers in a row, of which the compiler makes the test of a range
  pub opaque_range : is_opaque k
      ≡ cond (eqb k SYMBOLS) true (cond (eqb k STRING_TABLE) true (cond (eqb k FRAME_DATA) true (leb IL_LINES k && leb k COFF_SYMBOL_RVA)))
  unfolding is_opaque
  opaque_range =
      ap (λ (t : Bool). cond (eqb k SYMBOLS) true (cond (eqb k STRING_TABLE) true (cond (eqb k FRAME_DATA) true t))) (among_range k 4 IL_LINES)

  -- the other three, which it tests one by one
  abbrev Single : Type 0
  Single = (k ≡ SYMBOLS) ⊎ ((k ≡ STRING_TABLE) ⊎ (k ≡ FRAME_DATA))

  pub opaque_single : Single → true ≡ is_opaque k
  unfolding is_opaque
  opaque_single (inl h) = ap is_opaque (sym h)
  opaque_single (inr (inl h)) = ap is_opaque (sym h)
  opaque_single (inr (inr h)) = ap is_opaque (sym h)

  module _ (n : Single → ⊥) where
    rest_range : (leb IL_LINES k && leb k COFF_SYMBOL_RVA) ≡ is_opaque k
    rest_range =
        simp (opaque_range, ne_eqb k SYMBOLS (λ e. n (inl e)), ne_eqb k STRING_TABLE (λ e. n (inr (inl e))), ne_eqb k FRAME_DATA (λ e. n (inr (inr e))))

    pub opaque_below : k < IL_LINES → false ≡ is_opaque k
    opaque_below h = simp (← rest_range, tests)

    module _ (h : IL_LINES ≤ k) where
      pub opaque_above : COFF_SYMBOL_RVA < k → false ≡ is_opaque k
      opaque_above l = simp (← rest_range, tests)

      pub opaque_high : k ≤ COFF_SYMBOL_RVA → true ≡ is_opaque k
      opaque_high l = simp (← rest_range, tests)
