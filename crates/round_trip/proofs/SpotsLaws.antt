-- A walk that also tests the bytes at which each record stands, and the same walk without: the one goes to its end exactly where the other does and all
-- these bytes pass.
use Rattle.std.specs.Prelude.{ℕ, ◌<◌, ◌≡◌, Bool}
use Rattle.std.proofs.Math.Path.{refl, ap}
use Rattle.std.proofs.Common.{sym, ◌∙◌, subst, inl, inr, arith}
use mathlib.Core.List.{List}
use Rattle.std.proofs.Math.Bool.{true, false}
use Rattle.std.proofs.Math.ListN.{length}
use Rattle.walk.specs.Listing.{Move, item, pass, over, fail, Listing, on_move, all}
use Rattle.walk.specs.ListingLaws.{To, all_step, all_ind}
use Rattle.refusal.specs.Told.{Told}
use Rattle.body.specs.RunLaws.{Sound, sound_falls}
use Rattle.plain.specs.Plain.{strict, ends_whole, wholly}
use Rattle.plain.specs.WalkLaws.{strict_sound}
use Rattle.round_trip.specs.InWords.{Lists, stands_at, records_at}

no_end : {A : Type 0} → ◌≡◌ {A = Bool} false true → A
no_end e = let z : ◌≡◌ {A = ℕ} 0 1 = cc in absurd (omega arith)

module _ {B : Type 0} (step : List ℕ → Move (List ℕ) B Told) (test : List ℕ → Bool) (sound : (s : List ℕ) → Sound s (step s)) where
  abbrev tried : List ℕ → Move (List ℕ) B Told
  tried s = strict (test s) (step s)

  falls : (s : List ℕ) → To (step s) (λ t. length t < length s)
  falls s = sound_falls s (step s) (sound s)

  tried_falls : (s : List ℕ) → To (tried s) (λ t. length t < length s)
  tried_falls s = sound_falls s (tried s) (strict_sound s (test s) (step s) (sound s))

  stands_falls : (s : List ℕ) (u : Move (List ℕ) B Told) → To u (λ t. length t < length s) → To (stands_at s u) (λ t. length t < length s)
  stands_falls s (item b t) f = f
  stands_falls s (pass t) f = f
  stands_falls s over f = tt
  stands_falls s (fail r) f = tt

  at_turn : (s : List ℕ) → records_at step s ≡ on_move (records_at step) (stands_at s (step s))
  unfolding records_at
  at_turn s = all_step (λ (x : List ℕ). stands_at x (step x)) length (λ x. stands_falls x (step x) (falls x)) s

  tried_turn : (s : List ℕ) → all tried length s ≡ on_move (all tried length) (tried s)
  tried_turn s = all_step tried length tried_falls s

  abbrev Passed : List ℕ → Type 0
  Passed s = (u : List ℕ) → Lists (records_at step s) u → test u ≡ true

  pub all_pass : (s : List ℕ) → wholly tried s ≡ true → Passed s
  unfolding wholly
  all_pass s = all_ind tried length tried_falls (λ x l. ends_whole l ≡ true → Passed x) one s
    where
      by : (x : List ℕ) (t : Bool) → test x ≡ t → (v : Move (List ℕ) B Told) → To (strict t v) (λ y. ends_whole (all tried length y) ≡ true → Passed y)
          → ends_whole (on_move (all tried length) (strict t v)) ≡ true → (u : List ℕ) → Lists (on_move (records_at step) (stands_at x v)) u → test u ≡ true
      by x true e (item b y) f q u (inl w) = ap test (sym w) ∙ e
      by x true e (item b y) f q u (inr w) = f q u w
      by x false e (item b y) f q u w = no_end q
      by x t e (pass y) f q u w = f q u w
      by x t e over f q u w = absurd w
      by x t e (fail r) f q u w = absurd w

      one : (x : List ℕ) → To (tried x) (λ y. ends_whole (all tried length y) ≡ true → Passed y) → ends_whole (on_move (all tried length) (tried x)) ≡ true
          → Passed x
      one x f q u w = by x (test x) refl (step x) f q u (subst (λ (l : Listing (List ℕ) Told). Lists l u) (at_turn x) w)

  -- what is asked of the bytes u of a record b
  abbrev Passes : List ℕ → Listing B Told → Type 0
  Passes s l = (u : List ℕ) (b : B) (t : List ℕ) → Lists (records_at step s) u → step u ≡ item b t → Lists l b → test u ≡ true

  pub pass_all : (s : List ℕ) → wholly step s ≡ true → Passes s (all step length s) → wholly tried s ≡ true
  unfolding wholly
  pass_all s = all_ind step length falls (λ x l. ends_whole l ≡ true → Passes x l → ends_whole (all tried length x) ≡ true) one s
    where
      by : (x : List ℕ) (v : Move (List ℕ) B Told) → step x ≡ v → To v (λ y. ends_whole (all step length y) ≡ true → Passes y (all step length y)
          → ends_whole (all tried length y) ≡ true)
          → ends_whole (on_move (all step length) v) ≡ true
          → ((u : List ℕ) (b : B) (t : List ℕ) → Lists (on_move (records_at step) (stands_at x v)) u → step u ≡ item b t
          → Lists (on_move (all step length) v) b → test u ≡ true)
          → ends_whole (on_move (all tried length) (strict (test x) v)) ≡ true
      by x (item b y) e f q g = rw (g x b y (inl refl) e (inl refl)) (f q (λ u d t w h z. g u d t (inr w) h (inr z)))
      by x (pass y) e f q g = f q g
      by x over e f q g = refl
      by x (fail r) e f q g = q

      one : (x : List ℕ) → To (step x) (λ y. ends_whole (all step length y) ≡ true → Passes y (all step length y) → ends_whole (all tried length y) ≡ true)
          → ends_whole (on_move (all step length) (step x)) ≡ true → Passes x (on_move (all step length) (step x)) → ends_whole (all tried length x) ≡ true
      one x f q g =
          ap ends_whole (tried_turn x)
          ∙ by x (step x) refl f q (λ u b t w h z. g u b t (subst (λ (l : Listing (List ℕ) Told). Lists l u) (sym (at_turn x)) w) h z)
