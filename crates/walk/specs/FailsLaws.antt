-- Why a listing can fail: what holds of each refusal that a step can give, and of those of the listings that it is made of, holds of its own.
use Prim.Native.Nat.{ℕ, zero, suc}
use Rattle.walk.specs.Listing.{Move, item, pass, over, fail, Listing, more, ends, fails, on_move, mapped, and_then, run, all, spread}

-- Q holds of the refusal of a step, and of that of a listing, if there is one
abbrev pub StepFailsBy : {S B R : Type 0} → (R → Type 0) → Move S B R → Type 0
StepFailsBy Q (item b t) = Unit {0}
StepFailsBy Q (pass t) = Unit {0}
StepFailsBy Q over = Unit {0}
StepFailsBy Q (fail r) = Q r

abbrev pub FailsBy : {B R : Type 0} → (R → Type 0) → Listing B R → Type 0
FailsBy Q (more b l) = FailsBy Q l
FailsBy Q ends = Unit {0}
FailsBy Q (fails r) = Q r

module _ {R : Type 0} (Q : R → Type 0) where
  -- a walk, by its steps
  module _ {S B : Type 0} (step : S → Move S B R) (h : (s : S) → StepFailsBy Q (step s)) where
    run_by : (k : ℕ) (s : S) → FailsBy Q (run step k s)
    unfolding run
    run_by zero s = tt
    run_by (suc k) s = by (run_by k) (step s) (h s)
      where
        by : ((t : S) → FailsBy Q (run step k t)) → (u : Move S B R) → StepFailsBy Q u → FailsBy Q (on_move (run step k) u)
        by ih (item b t) q = ih t
        by ih (pass t) q = ih t
        by ih over q = tt
        by ih (fail r) q = q

    pub all_by : (μ : S → ℕ) (s : S) → FailsBy Q (all step μ s)
    unfolding all
    all_by μ s = run_by (suc (μ s)) s

  -- other records
  pub mapped_by : {B C : Type 0} (f : B → C) (l : Listing B R) → FailsBy Q l → FailsBy Q (mapped f (λ (r : R). r) l)
  mapped_by f (more b l) h = mapped_by f l h
  mapped_by f ends h = tt
  mapped_by f (fails r) h = h

  -- one behind the other
  pub then_by : {B : Type 0} (k l : Listing B R) → FailsBy Q k → FailsBy Q l → FailsBy Q (and_then k l)
  then_by (more b k) l p q = then_by k l p q
  then_by ends l p q = q
  then_by (fails r) l p q = p

  pub spread_by : {B C : Type 0} (f : B → Listing C R) → ((b : B) → FailsBy Q (f b)) → (l : Listing B R) → FailsBy Q l → FailsBy Q (spread f l)
  spread_by f h (more b l) q = then_by (f b) (spread f l) (h b) (spread_by f h l q)
  spread_by f h ends q = tt
  spread_by f h (fails r) q = q
