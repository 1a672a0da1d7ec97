-- Laws of a module's stream: a law for each way out of the code, where a part lies, and what is lent to a call on it.
use Rattle.std.specs.Prelude.{ℕ, ◌+◌, ◌-◌, ◌<◌, ◌≤◌, ◌≡◌, List, [], Result, Ok, Err, length, take, drop, ltb}
use Rattle.std.proofs.Math.Path.{sym, subst⁻¹}
use Rattle.std.proofs.Common.{ap, ◌∙◌, arith, ltb-false}
use Rattle.std.proofs.Math.Nat.{add-sub_cancel_left}
use Rattle.word.specs.Word.{u32_at}
use Rattle.walk.specs.Cases.{tests, by_cases}
use Rattle.walk.specs.Listing.{Reply, gave, nothing, refused}
use Rattle.walk.specs.Pick.{or_else, map_reply}
use Rattle.walk.specs.PickLaws.{Gives}
use Rattle.refusal.specs.Told.{Told, told, longest}
use Rattle.refusal.specs.declared.Refusal.{Refusal}
use Rattle.refusal.specs.declared.Refusal.TheVariants as why
use Rattle.find.specs.Find.{same, Span, bytes_at}
use Rattle.find.specs.declared as found
use Rattle.modi.specs.declared.ModuleSizes.{ModuleSizes}
use Rattle.modi.specs.Told.{told_part}
use Rattle.modi.specs.Modi.{module_symbols, module_span, tables_span, lines_span, tables_area, lines_area}

module _ (z : ModuleSizes) (s : List ℕ) where
  -- ---- the tests of `module_symbols`

  pub symbols_long : longest < length s → refused (told why.TooLong) ≡ module_symbols z s
  unfolding module_symbols
  symbols_long h = simp tests

  module _ (h₀ : length s ≤ longest) where
    pub symbols_past : length s < z.symbols → refused (told why.Cut) ≡ module_symbols z s
    unfolding module_symbols
    symbols_past h = simp tests

    module _ (h₁ : z.symbols ≤ length s) where
      pub symbols_none : z.symbols ≡ 0 → gave tt ≡ module_symbols z s
      unfolding module_symbols
      symbols_none h = simp tests

      module _ (h₂ : z.symbols ≡ 0 → ⊥) where
        pub symbols_short : z.symbols < 4 → refused (told why.Cut) ≡ module_symbols z s
        unfolding module_symbols
        symbols_short h = simp tests

        module _ (h₃ : 4 ≤ z.symbols) (v : ℕ) (e : v ≡ u32_at s 0) where
          pub symbols_yes : v ≡ 4 → gave tt ≡ module_symbols z s
          unfolding module_symbols
          symbols_yes d = let h : u32_at s 0 ≡ 4 = sym e ∙ d in simp tests

          pub symbols_other : (v ≡ 4 → ⊥) → refused (told why.OldFormat) ≡ module_symbols z s
          unfolding module_symbols
          symbols_other d = let h : (u32_at s 0 ≡ 4 → ⊥) = λ x. d (e ∙ x) in simp tests

    -- ---- the tests of `module_area`

    pub span_c11 : 0 < z.c11 → nothing ≡ module_span z s
    unfolding module_span
    span_c11 h = simp tests

    module _ (h₁ : z.c11 ≤ 0) where
      pub span_past : length s < z.symbols + z.c13 → refused (told why.ModuleSizes) ≡ module_span z s
      unfolding module_span
      span_past h = simp tests

      pub span_inside : z.symbols + z.c13 ≤ length s → gave (record { start = z.symbols; len = z.c13 }) ≡ module_span z s
      unfolding module_span
      span_inside h = simp tests

  pub span_long : longest < length s → refused (told why.TooLong) ≡ module_span z s
  unfolding module_span
  span_long h = simp tests

-- ---- where a part lies

abbrev Inside : List ℕ → Reply Span Told → Type 0
Inside s = Gives (λ (a : Span). a.start + a.len ≤ length s)

span_lies : (z : ModuleSizes) (s : List ℕ) → Inside s (module_span z s)
unfolding module_span
span_lies z s =
    by_cases (Inside s) (ltb longest (length s)) (λ d. tt)
    (λ d. by_cases (Inside s) (ltb 0 z.c11) (λ e. tt)
    (λ e. by_cases (Inside s) (ltb (length s) (z.symbols + z.c13)) (λ f. tt) (λ f. ltb-false (length s) (z.symbols + z.c13) f)))

or_lies : (s : List ℕ) (x y : Reply Span Told) → Inside s x → Inside s y → Inside s (or_else x y)
or_lies s (gave a) y hx hy = hx
or_lies s nothing y hx hy = hy
or_lies s (refused t) y hx hy = tt

pub span_in : (z : ModuleSizes) (s : List ℕ) (a : Span) → gave a ≡ module_span z s → a.start + a.len ≤ length s
span_in z s a e = subst⁻¹ (Inside s) e (span_lies z s)

-- as the code has it in hand: y is the answer that says where the part is
module _ (z : ModuleSizes) (s : List ℕ) where
  pub tables_in : {y : Result found.Span.Span Refusal} {a : found.Span.Span} → y ≡ Ok a → told_part y ≡ tables_span z s → a.start + a.len ≤ length s
  tables_in h e =
      subst⁻¹ (Inside s) (ap told_part (sym h) ∙ e) (or_lies s (module_span z s) (gave (record { start = 0; len = 0 })) (span_lies z s) (omega arith))

  pub lines_in : {y : Result found.Span.Span Refusal} {a : found.Span.Span} → y ≡ Ok a → told_part y ≡ lines_span z s → a.start + a.len ≤ length s
  lines_in h e = subst⁻¹ (Inside s) (ap told_part (sym h) ∙ e) (or_lies s (module_span z s) (refused (told why.OldFormat)) (span_lies z s) tt)

-- ---- `tables_part` and `lines_part`: x is what `module_area` answers

module _ (z : ModuleSizes) (s : List ℕ) (x : Reply Span Told) (e : x ≡ module_span z s) where
  pub tables_of_lem : or_else x (gave (record { start = 0; len = 0 })) ≡ tables_span z s
  tables_of_lem = ap (λ (y : Reply Span Told). or_else y (gave (record { start = 0; len = 0 }))) e

  pub lines_of : or_else x (refused (told why.OldFormat)) ≡ lines_span z s
  lines_of = ap (λ (y : Reply Span Told). or_else y (refused (told why.OldFormat))) e

-- ---- the areas as the sizes have them

module _ (z : ModuleSizes) (s : List ℕ) (h₀ : length s ≤ longest) where
  module _ (h₁ : z.c11 ≤ 0) where
    pub tables_c13 : z.symbols + z.c13 ≤ length s → gave (take z.c13 (drop z.symbols s)) ≡ tables_area z s
    tables_c13 h = ap (map_reply (bytes_at s) same) (tables_of_lem z s _ (span_inside z s h₀ h₁ h))

    pub lines_c13 : z.symbols + z.c13 ≤ length s → gave (take z.c13 (drop z.symbols s)) ≡ lines_area z s
    lines_c13 h = ap (map_reply (bytes_at s) same) (lines_of z s _ (span_inside z s h₀ h₁ h))

    pub tables_past : length s < z.symbols + z.c13 → refused (told why.ModuleSizes) ≡ tables_area z s
    tables_past h = ap (map_reply (bytes_at s) same) (tables_of_lem z s _ (span_past z s h₀ h₁ h))

    pub lines_past : length s < z.symbols + z.c13 → refused (told why.ModuleSizes) ≡ lines_area z s
    lines_past h = ap (map_reply (bytes_at s) same) (lines_of z s _ (span_past z s h₀ h₁ h))

  pub tables_c11 : 0 < z.c11 → gave [] ≡ tables_area z s
  tables_c11 h = ap (map_reply (bytes_at s) same) (tables_of_lem z s _ (span_c11 z s h₀ h))

  pub lines_c11 : 0 < z.c11 → refused (told why.OldFormat) ≡ lines_area z s
  lines_c11 h = ap (map_reply (bytes_at s) same) (lines_of z s _ (span_c11 z s h₀ h))

-- ---- THE LAW of a call on a module: y is what `tables_part` or `lines_part` answers. The bytes that are lent, from the part's start on, are the
-- definition's area, and a refused part is the definition's refusal: so the area's own call on that part is the call on the module

module _ (s : List ℕ) (x : Reply Span Told) where
  lent : {y : Result found.Span.Span Refusal} {a : found.Span.Span} → y ≡ Ok a → told_part y ≡ x
      → gave (take (a.start + a.len - a.start) (drop a.start s)) ≡ map_reply (bytes_at s) same x
  lent {y} {a} h e =
      ap (λ (k : ℕ). gave (take k (drop a.start s))) (add-sub_cancel_left a.start a.len) ∙ ap (map_reply (bytes_at s) same) (ap told_part (sym h) ∙ e)

  not_lent : {y : Result found.Span.Span Refusal} {r : Refusal} → y ≡ Err r → told_part y ≡ x → refused (told r) ≡ map_reply (bytes_at s) same x
  not_lent h e = ap (map_reply (bytes_at s) same) (ap told_part (sym h) ∙ e)

module _ (z : ModuleSizes) (s : List ℕ) {y : Result found.Span.Span Refusal} where
  pub tables_lent : {a : found.Span.Span} → y ≡ Ok a → told_part y ≡ tables_span z s → gave (take (a.start + a.len - a.start) (drop a.start s)) ≡ tables_area z s
  tables_lent = lent s (tables_span z s)

  pub tables_refused : {r : Refusal} → y ≡ Err r → told_part y ≡ tables_span z s → refused (told r) ≡ tables_area z s
  tables_refused = not_lent s (tables_span z s)

  pub lines_lent : {a : found.Span.Span} → y ≡ Ok a → told_part y ≡ lines_span z s → gave (take (a.start + a.len - a.start) (drop a.start s)) ≡ lines_area z s
  lines_lent = lent s (lines_span z s)

  pub lines_refused : {r : Refusal} → y ≡ Err r → told_part y ≡ lines_span z s → refused (told r) ≡ lines_area z s
  lines_refused = not_lent s (lines_span z s)
