-- Laws for a loop over the records of a body: how far a step goes, and one law for each way of the loop. They hold for every kind of record.
use Rattle.std.specs.Prelude.{ℕ, ◌+◌, ◌-◌, ◌<◌, ◌≤◌, ◌≡◌, refl, Bool, true, false}
use Rattle.std.proofs.Math.Path.{sym, ap}
use Rattle.std.proofs.Common.{◌∙◌, arith, length-drop, drop_of_length-le, drop-drop}
use mathlib.Core.List.{List, []}
use Rattle.std.proofs.Math.ListN.{length, drop}
use Rattle.walk.specs.Listing.{Move, item, pass, over, fail, on_move, all}
use Rattle.walk.specs.ListingLaws.{all_step}
use Rattle.refusal.specs.Told.{Told}
use Rattle.body.specs.RunLaws.{Sound, sound_falls}
use Rattle.plain.specs.Plain.{strict, ends_whole, wholly}

-- how many bytes a step's record has; 0 where there is no record
abbrev pub stride : {B : Type 0} → List ℕ → Move (List ℕ) B Told → ℕ
stride s (item b t) = length s - length t
stride s (pass t) = 0
stride s over = 0
stride s (fail r) = 0

pub stride_in : {B : Type 0} (s : List ℕ) (u : Move (List ℕ) B Told) → stride s u ≤ length s
stride_in s (item b t) = omega arith
stride_in s (pass t) = omega arith
stride_in s over = omega arith
stride_in s (fail r) = omega arith

pub stride_drop : (s : List ℕ) (n : ℕ) → n ≤ length s → n ≡ length s - length (drop n s)
stride_drop s n h = omega (arith, length-drop n s)

pub strict_none : {B : Type 0} (s : List ℕ) (u : Move (List ℕ) B Told) → 0 ≡ stride s (strict false u)
strict_none s (item b t) = refl
strict_none s (pass t) = refl
strict_none s over = refl
strict_none s (fail r) = refl

pub strict_sound : {B : Type 0} (s : List ℕ) (t : Bool) (u : Move (List ℕ) B Told) → Sound s u → Sound s (strict t u)
strict_sound s true (item b x) w = w
strict_sound s false (item b x) w = tt
strict_sound s t (pass x) w = w
strict_sound s t over w = w
strict_sound s t (fail r) w = w

-- what a loop that stands at i of s has to know: `far` is how many bytes the record in front has, 0 where there is none, and `whole` whether bytes are
-- records to their end
pub record Scan (far : List ℕ → ℕ) (whole : List ℕ → Bool) (s : List ℕ) (i : ℕ) : Type 0 where
  pub end : length s ≤ i → true ≡ whole (drop i s)
  pub stuck : (n : ℕ) → i < length s → n ≡ far (drop i s) → n ≡ 0 → false ≡ whole (drop i s)
  pub next : (n : ℕ) → n ≡ far (drop i s) → (n ≡ 0 → ⊥) → whole (drop (i + n) s) ≡ whole (drop i s)
  pub inside : (n : ℕ) → n ≡ far (drop i s) → n ≤ length s - i

module _ {B : Type 0} (step : List ℕ → Move (List ℕ) B Told) (sound : (s : List ℕ) → Sound s (step s)) (ended : step [] ≡ over) where
  turn : (s : List ℕ) → wholly step s ≡ ends_whole (on_move (all step length) (step s))
  unfolding wholly
  turn s = ap ends_whole (all_step step length (λ x. sound_falls x (step x) (sound x)) s)

  module _ (s : List ℕ) (i : ℕ) where
    whole_end : length s ≤ i → true ≡ wholly step (drop i s)
    whole_end h = sym (ap (wholly step) (drop_of_length-le s {i = i} h) ∙ turn [] ∙ ap (λ u. ends_whole (on_move (all step length) u)) ended)

    whole_stuck : (n : ℕ) → i < length s → n ≡ stride (drop i s) (step (drop i s)) → n ≡ 0 → false ≡ wholly step (drop i s)
    whole_stuck n h e z = sym (turn (drop i s) ∙ by (step (drop i s)) (sound (drop i s)) (sym z ∙ e))
      where
        by : (u : Move (List ℕ) B Told) → Sound (drop i s) u → 0 ≡ stride (drop i s) u → ends_whole (on_move (all step length) u) ≡ false
        by (item b t) w q = absurd (omega (arith, w.0))
        by (pass t) w q = absurd w
        by over w q = absurd (omega (arith, length-drop i s))
        by (fail r) w q = refl

    whole_next : (n : ℕ) → n ≡ stride (drop i s) (step (drop i s)) → (n ≡ 0 → ⊥) → wholly step (drop (i + n) s) ≡ wholly step (drop i s)
    unfolding wholly
    whole_next n e z = by (step (drop i s)) (sound (drop i s)) e ∙ sym (turn (drop i s))
      where
        by : (u : Move (List ℕ) B Told) → Sound (drop i s) u → n ≡ stride (drop i s) u → wholly step (drop (i + n) s) ≡ ends_whole (on_move (all step length) u)
        by (item b t) w q =
            let d : drop (i + n) s ≡ t = sym (drop-drop n i s) ∙ ap (λ (k : ℕ). drop k (drop i s)) q ∙ sym w.1 in
            ap (λ (x : List ℕ). ends_whole (all step length x)) d
        by (pass t) w q = absurd (z q)
        by over w q = absurd (z q)
        by (fail r) w q = absurd (z q)

    whole_in : (n : ℕ) → n ≡ stride (drop i s) (step (drop i s)) → n ≤ length s - i
    whole_in n e = omega (arith, stride_in (drop i s) (step (drop i s)), length-drop i s)

    pub scan : Scan (λ t. stride t (step t)) (wholly step) s i
    scan = record { end = whole_end; stuck = whole_stuck; next = whole_next; inside = whole_in }
