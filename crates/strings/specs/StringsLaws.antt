-- Laws of string tables: one for each way out of the code, where a name lies, and that its bytes are those before the zero.
use Rattle.std.specs.Prelude.{ℕ, zero, suc, ◌+◌, ◌-◌, ◌≤◌, ◌<◌, ◌≡◌, refl, List, [], ◌∷◌, Bool, true, false, cond, ◌||◌, take, drop, get_or, ltb, eqb}
use Rattle.std.proofs.Math.Path.{sym, subst⁻¹}
use Rattle.std.proofs.Common.{ap, ◌∙◌, add_assoc, length-drop, drop_of_length-le, length-take-le, drop-cons, get_or-drop, get_or-take}
use native.Mathlib.Omega.{arith}
use Rattle.std.proofs.Math.Numerals.{add-one}
use Rattle.std.proofs.Math.ListN.{length}
use Rattle.std.specs.Borrow.{Bor}
use borrow.Author.Tests.{eqb-true, eqb-false, ltb-true, ltb-false, lt-ltb, ne_eqb, eq-eqb}
use Rattle.word.specs.PartLaws.{part_bytes}
use Rattle.walk.specs.Cases.{by_cases, tests}
use Rattle.walk.specs.Listing.{Reply, gave, nothing, refused}
use Rattle.walk.specs.Pick.{on_gave}
use Rattle.refusal.specs.Told.{Told, told, longest}
use Rattle.refusal.specs.declared.Refusal.TheVariants as why
use Rattle.find.specs.Find.{Span, held_span, HandsSpan}
use Rattle.strings.specs.Strings.{signature, version, names_size, names_of, until_zero, names, names_from, name_in, name_at}

-- a part of the stream
abbrev part : ℕ → ℕ → Reply Span Told
part start len = gave (record { start = start; len = len })

-- ---- the tests of `string_table`

one_or_two : (v : ℕ) → 1 ≤ v → v ≤ 2 → (eqb v 1 || eqb v 2) ≡ true
one_or_two v l h = by (eqb v 1) refl
  where
    by : (t : Bool) → eqb v 1 ≡ t → (t || eqb v 2) ≡ true
    by true e = refl
    by false e = eq-eqb v 2 (omega (arith, eqb-false))

module _ (s : List ℕ) where
  pub table_long : longest < length s → refused (told why.TooLong) ≡ names_of s
  unfolding names_of
  table_long h = simp tests

  module _ (h₀ : length s ≤ longest) where
    pub table_short : length s < 12 → refused (told why.Cut) ≡ names_of s
    unfolding names_of
    table_short h = simp tests

    module _ (h₁ : 12 ≤ length s) where
      pub table_signature : (signature s ≡ 0xEFFE_EFFE → ⊥) → refused (told why.NoStringTable) ≡ names_of s
      unfolding names_of
      table_signature h = simp tests

      module _ (h₂ : signature s ≡ 0xEFFE_EFFE) where
        pub table_cut : length s < 24 + names_size s → refused (told why.Cut) ≡ names_of s
        unfolding names_of
        table_cut h = simp tests

        module _ (h₃ : 24 + names_size s ≤ length s) where
          pub table_known : 1 ≤ version s → version s ≤ 2 → (n : ℕ) → n ≡ names_size s → part 12 n ≡ names_of s
          unfolding names_of
          table_known l h n e = simp (tests, one_or_two (version s) l h, e)

          pub table_version : (version s ≡ 1 → ⊥) → (version s ≡ 2 → ⊥) → refused (told why.HashVersion) ≡ names_of s
          unfolding names_of
          table_version d h = simp tests

-- ---- what a table that passes says of the stream

abbrev pub Stands : List ℕ → Reply Span Told → Type 0
Stands s (gave a) = (a.start ≡ 12) × (a.len ≡ names_size s) × (24 + a.len ≤ length s)
Stands s nothing = Unit {0}
Stands s (refused t) = Unit {0}

pub names_stand : (s : List ℕ) → Stands s (names_of s)
unfolding names_of
names_stand s =
    by_cases (Stands s) (ltb longest (length s)) (λ a. tt)
    (λ a. by_cases (Stands s) (ltb (length s) 12) (λ b. tt)
    (λ b. by_cases (Stands s) (eqb (signature s) 0xEFFE_EFFE)
    (λ d. by_cases (Stands s) (ltb (length s) (24 + names_size s)) (λ e. tt)
    (λ e. by_cases (Stands s) (eqb (version s) 1 || eqb (version s) 2) (λ f. (refl, refl, ltb-false (length s) (24 + names_size s) e)) (λ f. tt)))
    (λ d. tt)))

pub names_part : (s : List ℕ) (start len : ℕ) → part start len ≡ names_of s → Stands s (part start len)
names_part s start len e = subst⁻¹ (Stands s) e (names_stand s)

-- ---- the loop of `zero_from`: what is before the zero from i on

module _ (l : List ℕ) (i : ℕ) where
  pub zero_end : length l ≤ i → i ≡ i + length (until_zero (drop i l))
  unfolding until_zero
  zero_end h = rw (drop_of_length-le l h) (omega arith)

  module _ (h : i < length l) where
    pub zero_here : get_or l i 0 ≡ 0 → i ≡ i + length (until_zero (drop i l))
    unfolding until_zero
    zero_here e = rw (drop-cons l i 0 h, eq-eqb (get_or l i 0) 0 e) (omega arith)

    pub zero_later : (get_or l i 0 ≡ 0 → ⊥) → i + 1 + length (until_zero (drop (i + 1) l)) ≡ i + length (until_zero (drop i l))
    unfolding until_zero
    zero_later e = rw (drop-cons l i 0 h, ne_eqb (get_or l i 0) 0 e, add-one i) (omega arith)

-- ---- the ways out of `name_at`, from what its two calls answer

module _ (s : List ℕ) (offset start len k end : ℕ) (table : part start len ≡ names_of s) (all : k ≡ len)
    (ends : end ≡ offset + length (until_zero (drop offset (take k (drop start s))))) where
  -- how many bytes of the names there are from the offset on, and how many before the zero
  left : length (names_from s offset) ≡ len - offset
  left =
      let w = names_part s start len table in
      simp (length-drop) (omega (arith, length-take-le (names_size s) (drop 12 s) (simp length-drop (omega arith))))

  until : end ≡ offset + length (until_zero (names_from s offset))
  until =
      let w = names_part s start len table in
      ends ∙ (λ i. offset + length (until_zero (drop offset (take ((all ∙ w.1) i) (drop (w.0 i) s)))))

  in_table : name_in s offset ≡ name_at s offset
  in_table = ap (on_gave (λ (a : Span). name_in s offset)) table

  pub name_found : end < len → part (start + offset) (end - offset) ≡ name_at s offset
  unfolding name_in
  name_found h =
      let w = names_part s start len table in
      let u = until in
      let l = left in
      let e : end - offset ≡ length (until_zero (names_from s offset)) = omega arith in
      let b : start + offset ≡ 12 + offset = omega arith in
      (λ i. part (b i) (e i))
      ∙ sym (rw (lt-ltb offset (names_size s) (omega arith), lt-ltb (length (until_zero (names_from s offset))) (length (names_from s offset)) (omega arith)))
      ∙ in_table

  pub name_cut : len ≤ end → refused (told why.Cut) ≡ name_at s offset
  unfolding name_in
  name_cut h =
      let w = names_part s start len table in
      by_cases (λ (o : Reply Span Told). refused (told why.Cut) ≡ o) (ltb offset (names_size s))
      (λ d. by_cases (λ (o : Reply Span Told). refused (told why.Cut) ≡ o) (ltb (length (until_zero (names_from s offset))) (length (names_from s offset)))
      (λ e. let u = until in let l = left in absurd (omega (arith, ltb-true)))
      (λ e. refl))
      (λ d. refl)
      ∙ in_table

pub name_refused : (s : List ℕ) (offset : ℕ) (t : Told) → refused t ≡ names_of s → refused t ≡ name_at s offset
name_refused s offset t e = ap (on_gave (λ (a : Span). name_in s offset)) e

-- ---- the bytes before the first zero

pub until_take : (l : List ℕ) → take (length (until_zero l)) l ≡ until_zero l
unfolding until_zero
until_take [] = refl
until_take (b ∷ l) = by_cases (λ (x : List ℕ). take (length x) (b ∷ l) ≡ x) (eqb b 0) (λ e. refl) (λ e. ap (λ (x : List ℕ). b ∷ x) (until_take l))

-- behind them stands a zero, if anything does
pub until_zero_lem : (l : List ℕ) → get_or l (length (until_zero l)) 0 ≡ 0
unfolding until_zero
until_zero_lem [] = refl
until_zero_lem (b ∷ l) = by_cases (λ (x : List ℕ). get_or (b ∷ l) (length x) 0 ≡ 0) (eqb b 0) (λ e. eqb-true b 0 e) (λ e. until_zero_lem l)

-- and none among them
pub until_free : (l : List ℕ) (i : ℕ) → i < length (until_zero l) → get_or l i 0 ≡ 0 → ⊥
unfolding until_zero
until_free [] i h e = omega arith
until_free (b ∷ l) i h e = by (eqb b 0) refl i h e (until_free l)
  where
    by : (t : Bool) → eqb b 0 ≡ t → (i : ℕ) → i < length (cond t [] (b ∷ until_zero l)) → get_or (b ∷ l) i 0 ≡ 0
        → ((k : ℕ) → k < length (until_zero l) → get_or l k 0 ≡ 0 → ⊥) → ⊥
    by true q i h e ih = omega arith
    by false q zero h e ih = eqb-false b 0 q e
    by false q (suc i) h e ih = ih i (omega arith) e

-- ---- where a name lies, and what it is

-- a name stands at its offset in the names, and its zero too; its bytes are those before the first zero
abbrev pub Named : List ℕ → ℕ → Reply Span Told → Type 0
Named s offset (gave a) =
    (a.start ≡ 12 + offset) × (offset + a.len < names_size s) × (24 + names_size s ≤ length s)
    × (take a.len (drop a.start s) ≡ until_zero (names_from s offset)) × (get_or s (a.start + a.len) 0 ≡ 0)
Named s offset nothing = Unit {0}
Named s offset (refused t) = Unit {0}

name_stands : (s : List ℕ) (offset : ℕ) → 24 + names_size s ≤ length s → Named s offset (name_in s offset)
unfolding name_in
name_stands s offset h =
    by_cases (Named s offset) (ltb offset (names_size s))
    (λ d. by_cases (Named s offset) (ltb (length (until_zero (names_from s offset))) (length (names_from s offset)))
    (λ e.
    let n = length (until_zero (names_from s offset)) in
    let x = drop 12 s in
    let a : offset < names_size s = ltb-true offset (names_size s) d in
    let m : names_size s ≤ length x = simp length-drop (omega arith) in
    let f : length (names_from s offset) ≡ names_size s - offset = length-drop offset (names s) ∙ ap (λ (k : ℕ). k - offset) (length-take-le (names_size s) x m) in
    let b : n < names_size s - offset = omega (arith, ltb-true n (length (names_from s offset)) e) in (
      refl,
      omega arith,
      h,
      part_bytes s 12 (names_size s) offset n (omega arith) ∙ until_take (names_from s offset),
      ap (λ (k : ℕ). get_or s k 0) (add_assoc 12 offset n) ∙ sym (get_or-drop 12 s (offset + n) 0) ∙ sym (get_or-take (names_size s) x (offset + n) 0 (omega arith))
          ∙ sym (get_or-drop offset (names s) n 0) ∙ until_zero_lem (names_from s offset),
    ))
    (λ e. tt))
    (λ d. tt)

pub name_is : (s : List ℕ) (offset : ℕ) → Named s offset (name_at s offset)
name_is s offset = by (names_of s) (names_stand s)
  where
    by : (o : Reply Span Told) → Stands s o → Named s offset (on_gave (λ (a : Span). name_in s offset) o)
    by (gave a) w = name_stands s offset (omega arith)
    by nothing w = tt
    by (refused t) w = tt

pub name_part : (s : List ℕ) (offset start len : ℕ) → part start len ≡ name_at s offset → Named s offset (part start len)
name_part s offset start len e = subst⁻¹ (Named s offset) e (name_is s offset)

-- the two calls agree: what is handed back stands where the name is told to stand, is as long, and is the bytes before the first zero
pub agree : (s r : Bor (List ℕ)) (offset start len : ℕ) → part start len ≡ name_at s.now offset → HandsSpan s (held_span (name_at s.now offset)) r
    → (r.ref_ptr.1 ≡ s.ref_ptr.1 + start) × (length r.now ≡ len) × (r.now ≡ until_zero (names_from s.now offset))
agree s r offset start len e h =
    let w = name_part s.now offset start len e in
    let b : r.now ≡ take len (drop start s.now) = h.2 ∙ (λ i. take (held_span (sym e i)).len (drop (held_span (sym e i)).start s.now)) in (
      h.1 ∙ ap (λ (o : Reply Span Told). s.ref_ptr.1 + (held_span o).start) (sym e),
      ap length b ∙ length-take-le len (drop start s.now) (simp length-drop (omega arith)),
      b ∙ w.3,
    )
