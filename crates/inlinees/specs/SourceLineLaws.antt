-- Laws of the entries of an inlinee body: a law for each way out of the code, one step of the whole, and what the entries are in the bytes.
use Prim.Native.Nat.{ℕ, ◌+◌, ◌-◌, ◌*◌, ◌<◌, ◌≤◌}
use Rattle.std.specs.Prelude.{◌≡◌, refl, List, Bool, true, false, cond, drop, ltb, eqb}
use Rattle.std.proofs.Math.Path.{sym, ap, subst⁻¹}
use Rattle.std.proofs.Common.{◌∙◌, arith, add_assoc, drop-drop}
use Rattle.std.proofs.Math.Nat.{add-zero}
use Rattle.std.proofs.Math.ListN.{length, length-drop}
use borrow.Author.Tests.{eq-eqb, ne_eqb, eqb-true, ltb-true, ltb-false}
use Rattle.word.specs.Word.{u32_at}
use Rattle.word.specs.WordLaws.{u32_drop}
use Rattle.walk.specs.Cases.{by_cases, tests}
use Rattle.walk.specs.Listing.{Move, item, pass, over, fail, Listing, more, fails, mapped, on_move, moved, Answer, gives, none, refuses, calls, replies}
use Rattle.walk.specs.ListingLaws.{To, Every, all_step, all_ind, all_every, calls_are}
use Rattle.walk.specs.WithinLaws.{Within, within_to, within_holds}
use Rattle.refusal.specs.Told.{Told, told}
use Rattle.refusal.specs.declared.Refusal.TheVariants as why
use Rattle.find.specs.Find.{same}
use Rattle.body.specs.Words.{words_in}
use Rattle.body.specs.WordsLaws.{words_length}
use Rattle.body.specs.Inlinees.{Inlinee, extended, extra_bite, inlinee_bite, inlinees}
use Rattle.inlinees.specs.Inlinees.{SourceLine, head_size, inlinee_placed, entry_place, source_line_at, source_lines_from, inlinee_spelt, inlinees_of}

-- ---- the tests of the code

-- an entry whose words stand at p of b
abbrev pub line_at : List ℕ → ℕ → ℕ → ℕ → SourceLine
line_at b p extra count = record { inlinee = u32_at b p; file = u32_at b (p + 4); line = u32_at b (p + 8); extra = extra; count = count }

pub place_first : (p : ℕ) → p < 4 → 4 ≡ entry_place p
unfolding entry_place
place_first p h = simp tests

pub place_is : (p : ℕ) → 4 ≤ p → p ≡ entry_place p
unfolding entry_place
place_is p h = simp tests

-- the words that were read
pub line_words_lem : (b : List ℕ) (p extra count x i f l : ℕ) → i ≡ u32_at b p → f ≡ u32_at b (p + 4) → l ≡ u32_at b (p + 8)
    → ◌≡◌ {A = Answer ℕ SourceLine Told} (gives (record { inlinee = i; file = f; line = l; extra = extra; count = count }) x) (gives (line_at b p extra count) x)
line_words_lem b p extra count x i f l ei ef el = λ j. gives (record { inlinee = ei j; file = ef j; line = el j; extra = extra; count = count }) x

-- an extended entry whose first three words are there
unfoldable pub extended_at : List ℕ → ℕ → Answer ℕ SourceLine Told
extended_at b p = inlinee_placed true p (extra_bite true (drop p b))

module _ (b : List ℕ) (p : ℕ) where
  pub extra_short : length b - p < 16 → refuses (told why.Cut) ≡ extended_at b p
  unfolding extended_at
  extra_short h = simp (length-drop, tests)

  module _ (h₁ : 16 ≤ length b - p) where
    pub extra_cut : length b - p - 16 < 4 * u32_at b (p + 12) → refuses (told why.Cut) ≡ extended_at b p
    unfolding extended_at
    extra_cut h = simp (length-drop, u32_drop, tests)

    pub extra_whole : 4 * u32_at b (p + 12) ≤ length b - p - 16 → (n : ℕ) → n ≡ u32_at b (p + 12)
        → gives (line_at b p (p + 16) n) (p + 16 + 4 * n) ≡ extended_at b p
    unfolding extended_at
    extra_whole h n e = simp (length-drop, u32_drop, add-zero, words_length, tests, e)

module _ (b : List ℕ) (p : ℕ) where
  pub line_unsigned : length b < 4 → refuses (told why.Cut) ≡ source_line_at b p
  unfolding source_line_at
  line_unsigned h = simp tests

  module _ (h₀ : 4 ≤ length b) (q : ℕ) (e : q ≡ entry_place p) where
    pub line_past : length b < q → refuses (told why.Cut) ≡ source_line_at b p
    unfolding source_line_at
    line_past h = simp (← e, tests)

    module _ (h₁ : q ≤ length b) where
      pub line_none : length b - q ≡ 0 → none ≡ source_line_at b p
      unfolding source_line_at inlinee_bite
      line_none h = simp (← e, length-drop, tests)

      module _ (h₂ : length b - q ≡ 0 → ⊥) where
        pub line_short : length b - q < 12 → refuses (told why.Cut) ≡ source_line_at b p
        unfolding source_line_at inlinee_bite
        line_short h = simp (← e, length-drop, tests)

        module _ (h₃ : 12 ≤ length b - q) where
          pub line_extended : u32_at b 0 ≡ 1 → extended_at b q ≡ source_line_at b p
          unfolding source_line_at inlinee_bite extended_at
          line_extended h = simp (← e, length-drop, eq-eqb (u32_at b 0) 1 h, tests)

          pub line_plain : (u32_at b 0 ≡ 1 → ⊥) → gives (line_at b q (q + 12) 0) (q + 12 + 4 * 0) ≡ source_line_at b p
          unfolding source_line_at inlinee_bite
          line_plain h = simp (← e, length-drop, u32_drop, add-zero, ne_eqb (u32_at b 0) 1 h, tests)

-- ---- where an entry's numbers lie

-- what a bite says of the bytes
abbrev Bitten : Bool → List ℕ → Move (List ℕ) Inlinee Told → Type 0
Bitten x s (item e t) =
    (head_size x + 4 * length e.extra ≤ length s) × (t ≡ drop (head_size x + 4 * length e.extra) s)
    × (e.extra ≡ words_in (length e.extra) (drop (head_size x) s))
Bitten x s (pass t) = ⊥
Bitten x s over = length s ≡ 0
Bitten x s (fail r) = Unit {0}

extra_bitten : (x : Bool) (s : List ℕ) → 12 ≤ length s → Bitten x s (extra_bite x s)
unfolding words_in
extra_bitten false s h = (omega arith, refl, refl)
extra_bitten true s h =
    by_cases (Bitten true s) (ltb (length s) 16) (λ a. tt)
    (λ a. by_cases (Bitten true s) (ltb (length s - 16) (4 * u32_at s 12)) (λ c. tt)
    (λ c.
    let n = u32_at s 12 in
    let e : length (words_in n (drop 16 s)) ≡ n = words_length n (drop 16 s) in
    (omega (arith, ltb-false), ap (λ (k : ℕ). drop (16 + 4 * k) s) (sym e), ap (λ (k : ℕ). words_in k (drop 16 s)) (sym e))))

bitten : (x : Bool) (s : List ℕ) → Bitten x s (inlinee_bite x s)
unfolding inlinee_bite
bitten x s =
    by_cases (Bitten x s) (eqb (length s) 0) (λ a. omega (arith, eqb-true))
    (λ a. by_cases (Bitten x s) (ltb (length s) 12) (λ c. tt) (λ c. extra_bitten x s (ltb-false (length s) 12 c)))

head_some : (x : Bool) → 12 ≤ head_size x
head_some false = omega arith
head_some true = omega arith

abbrev pub LineLies : ℕ → SourceLine → ℕ → Type 0
LineLies q e x = e.extra + 4 * e.count ≡ x

abbrev pub LineWithin : ℕ → ℕ → Answer ℕ SourceLine Told → Type 0
LineWithin m q a = Within 12 LineLies m q (moved a)

placed_within : (x : Bool) (b : List ℕ) (q : ℕ) → q ≤ length b → (u : Move (List ℕ) Inlinee Told) → Bitten x (drop q b) u → LineWithin (length b) q (inlinee_placed x q u)
placed_within x b q h (item e t) w = (refl, omega (arith, head_some x), omega (arith, length-drop q b))
placed_within x b q h (pass t) w = absurd w
placed_within x b q h over w = omega (arith, length-drop q b)
placed_within x b q h (fail r) w = tt

pub line_within : (b : List ℕ) (p : ℕ) → LineWithin (length b) (entry_place p) (source_line_at b p)
unfolding source_line_at
line_within b p =
    let x = extended (u32_at b 0) in
    let q = entry_place p in
    by_cases (LineWithin (length b) q) (ltb (length b) 4) (λ a. tt)
    (λ a. by_cases (LineWithin (length b) q) (ltb (length b) q) (λ c. tt)
    (λ c. placed_within x b q (ltb-false (length b) q c) (inlinee_bite x (drop q b)) (bitten x (drop q b))))

-- what an answer of `source_line_at` says
pub line_lies : (b : List ℕ) (p : ℕ) (e : SourceLine) (x : ℕ) → gives e x ≡ source_line_at b p → LineWithin (length b) (entry_place p) (gives e x)
line_lies b p e x q = subst⁻¹ (LineWithin (length b) (entry_place p)) q (line_within b p)

-- ---- one step of the whole

falls : (b : List ℕ) (p : ℕ) → To (moved (source_line_at b p)) (λ t. length b - entry_place t < length b - entry_place p)
falls b p =
    within_to 12 LineLies (length b) (entry_place p) (λ (t : ℕ). length b - entry_place t < length b - entry_place p) (λ x h i. omega (arith, place_is x (omega arith)))
    (moved (source_line_at b p)) (line_within b p)

pub lines_step : (b : List ℕ) (p : ℕ) → source_lines_from b p ≡ on_move (source_lines_from b) (moved (source_line_at b p))
unfolding source_lines_from
lines_step b p = all_step (λ (q : ℕ). moved (source_line_at b q)) (λ (q : ℕ). length b - entry_place q) (falls b) p

-- each entry's extra files lie in the body
abbrev pub In : ℕ → SourceLine → Type 0
In n e = e.extra + 4 * e.count ≤ n

pub lines_in : (b : List ℕ) (p : ℕ) → Every (In (length b)) (source_lines_from b p)
unfolding source_lines_from
lines_in b = all_every (λ (q : ℕ). moved (source_line_at b q)) (λ (q : ℕ). length b - entry_place q) (falls b) (In (length b))
    (λ p. within_holds 12 LineLies (length b) (entry_place p) (In (length b)) (λ e x w h. omega arith) (moved (source_line_at b p)) (line_within b p))

-- THE WALK over a body: n calls of `source_line_at`, each at the place that the call before handed on, answer the entries in order, and then the
-- end, or the same refusal, again and again
pub lines_are : (b : List ℕ) (n p : ℕ) → calls (source_line_at b) n p ≡ replies n (source_lines_from b p)
lines_are b = calls_are (source_line_at b) (source_lines_from b) (lines_step b)

-- ---- the entries are what the bytes of the body say

bite_falls : (x : Bool) (s : List ℕ) (u : Move (List ℕ) Inlinee Told) → Bitten x s u → To u (λ t. length t < length s)
bite_falls x s (item e t) w = omega (arith, head_some x, ap length w.1 ∙ length-drop (head_size x + 4 * length e.extra) s)
bite_falls x s (pass t) w = absurd w
bite_falls x s over w = tt
bite_falls x s (fail r) w = tt

inlinees_step : (x : Bool) (s : List ℕ) → inlinees x s ≡ on_move (inlinees x) (inlinee_bite x s)
unfolding inlinees
inlinees_step x s = all_step (inlinee_bite x) length (λ t. bite_falls x t (inlinee_bite x t) (bitten x t)) s

module _ (b : List ℕ) (signed : 4 ≤ length b) where
  abbrev x : Bool
  x = extended (u32_at b 0)

  abbrev Same : ℕ → Listing SourceLine Told → Type 0
  Same p l = entry_place p ≤ length b → mapped (inlinee_spelt b) same l ≡ inlinees x (drop (entry_place p) b)

  turn : (q : ℕ) → 4 ≤ q → (u : Move (List ℕ) Inlinee Told) → Bitten x (drop q b) u → q ≤ length b
      → To (moved (inlinee_placed x q u)) (λ t. Same t (source_lines_from b t))
      → mapped (inlinee_spelt b) same (on_move (source_lines_from b) (moved (inlinee_placed x q u))) ≡ on_move (inlinees x) u
  turn q h (item e t) w i f =
      let n = length e.extra in
      let y = q + head_size x + 4 * n in
      let ey : entry_place y ≡ y = sym (place_is y (omega (arith, head_some x))) in
      let words : words_in n (drop (q + head_size x) b) ≡ e.extra = ap (words_in n) (sym (drop-drop (head_size x) q b)) ∙ sym w.2 in
      let rest : mapped (inlinee_spelt b) same (source_lines_from b y) ≡ inlinees x t =
      f (omega (arith, length-drop q b))
      ∙ ap (inlinees x) (ap (λ (j : ℕ). drop j b) (ey ∙ add_assoc q (head_size x) (4 * n)) ∙ sym (w.1 ∙ drop-drop (head_size x + 4 * n) q b)) in
      λ j. more (record { inlinee = e.inlinee; file = e.file; line = e.line; extra = words j }) (rest j)
  turn q h (pass t) w i f = absurd w
  turn q h over w i f = refl
  turn q h (fail r) w i f = refl

  -- a place past the signature and inside
  line_placed : (p : ℕ) → entry_place p ≤ length b → inlinee_placed x (entry_place p) (inlinee_bite x (drop (entry_place p) b)) ≡ source_line_at b p
  unfolding source_line_at
  line_placed p h = simp tests

  place_behind_lem : (p : ℕ) → 4 ≤ entry_place p
  unfolding entry_place
  place_behind_lem p = by_cases (λ (q : ℕ). 4 ≤ q) (ltb p 4) (λ a. omega arith) (λ a. ltb-false p 4 a)

  from_first : Same 0 (source_lines_from b 0)
  unfolding source_lines_from
  from_first =
      all_ind (λ (p : ℕ). moved (source_line_at b p)) (λ (p : ℕ). length b - entry_place p) (falls b) Same
      (λ p f h.
      let q = entry_place p in
      let e = line_placed p h in
      ap (λ (a : Answer ℕ SourceLine Told). mapped (inlinee_spelt b) same (on_move (source_lines_from b) (moved a))) (sym e)
      ∙ turn q (place_behind_lem p) (inlinee_bite x (drop q b)) (bitten x (drop q b)) h
      (subst⁻¹ (λ (a : Answer ℕ SourceLine Told). To (moved a) (λ t. Same t (source_lines_from b t))) e f)
      ∙ sym (inlinees_step x (drop q b)))
      0

-- THE THEOREM for a body: the entries of a new walk, with their extra files, are what the body says
pub lines_mean : (b : List ℕ) → mapped (inlinee_spelt b) same (source_lines_from b 0) ≡ inlinees_of b
unfolding inlinees_of
lines_mean b = go (ltb (length b) 4) refl
  where
    go : (t : Bool) → ltb (length b) 4 ≡ t
        → mapped (inlinee_spelt b) same (source_lines_from b 0) ≡ cond t (fails (told why.Cut)) (inlinees (extended (u32_at b 0)) (drop 4 b))
    go true e =
        ap (mapped (inlinee_spelt b) same) (lines_step b 0 ∙ ap (λ (a : Answer ℕ SourceLine Told). on_move (source_lines_from b) (moved a)) (sym (line_unsigned b 0 (ltb-true (length b) 4 e))))
    go false e =
        let h : 4 ≤ length b = ltb-false (length b) 4 e in
        let q : 4 ≡ entry_place 0 = place_first 0 (omega arith) in
        from_first b h (omega arith) ∙ ap (λ (j : ℕ). inlinees (extended (u32_at b 0)) (drop j b)) (sym q)
