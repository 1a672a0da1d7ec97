-- Laws of the parts of bytes: one step, what it says of the bytes, and induction.
use Rattle.std.specs.Prelude.{ℕ, ◌+◌, ◌-◌, ◌<◌, ◌≤◌, ◌≡◌, refl, List, take, drop, ltb, eqb}
use Rattle.std.proofs.Common.{sym, ap, ◌∙◌, arith, length-drop, length-take-le, ltb-true, ltb-false, eqb-true}
use Rattle.std.proofs.Math.ListN.{length}
use Rattle.std.proofs.lemmas.Bool.{eqb-false}
use Rattle.word.specs.Word.{u32_at}
use Rattle.walk.specs.Cases.{by_cases}
use Rattle.walk.specs.Listing.{Move, item, pass, over, fail, on_move}
use Rattle.walk.specs.ListingLaws.{To, all_step, all_ind}
use Rattle.area.specs.Parts.{Raw, Lack, noHead, noBody, Parts, bite, parts}

-- what a bite says of the bytes
abbrev pub Bitten : List ℕ → Move (List ℕ) Raw Lack → Type 0
Bitten s (item r t) =
    (8 + length r.body ≤ length s) × (r.kind ≡ u32_at s 0) × (length r.body ≡ u32_at s 4)
    × (r.body ≡ take (length r.body) (drop 8 s)) × (t ≡ drop (8 + length r.body) s)
Bitten s (pass t) = ⊥
Bitten s over = length s ≡ 0
Bitten s (fail noHead) = (0 < length s) × (length s < 8)
Bitten s (fail noBody) = (8 ≤ length s) × (length s < 8 + u32_at s 4)

pub bitten : (s : List ℕ) → Bitten s (bite s)
unfolding bite
bitten s =
    by_cases (Bitten s) (eqb (length s) 0) (λ a. omega (arith, eqb-true))
    (λ a. by_cases (Bitten s) (ltb (length s) 8) (λ b. (omega (arith, eqb-false), omega (arith, ltb-true)))
    (λ b. by_cases (Bitten s) (ltb (length s - 8) (u32_at s 4)) (λ d. (omega (arith, ltb-false), omega (arith, ltb-true, ltb-false)))
    (λ d.
    let n = u32_at s 4 in
    let h : 8 + n ≤ length s = omega (arith, ltb-false) in
    let e : length (take n (drop 8 s)) ≡ n = length-take-le n (drop 8 s) (simp length-drop (omega arith)) in
    (omega arith, refl, e, ap (λ (k : ℕ). take k (drop 8 s)) (sym e), ap (λ (k : ℕ). drop (8 + k) s) (sym e)))))

bite_falls : (s : List ℕ) (u : Move (List ℕ) Raw Lack) → Bitten s u → To u (λ t. length t < length s)
bite_falls s (item r t) w = omega (arith, ap length w.4 ∙ length-drop (8 + length r.body) s)
bite_falls s (pass t) w = absurd w
bite_falls s over w = tt
bite_falls s (fail c) w = tt

falls : (s : List ℕ) → To (bite s) (λ t. length t < length s)
falls s = bite_falls s (bite s) (bitten s)

-- one step, and what holds of each step holds of the whole
pub parts_step : (s : List ℕ) → parts s ≡ on_move parts (bite s)
unfolding parts
parts_step s = all_step bite length falls s

module _ (P : List ℕ → Parts → Type 0) (one : (s : List ℕ) (u : Move (List ℕ) Raw Lack) → Bitten s u → To u (λ t. P t (parts t)) → P s (on_move parts u)) where
  pub parts_ind : (s : List ℕ) → P s (parts s)
  unfolding parts
  parts_ind = all_ind bite length falls P (λ s f. one s (bite s) (bitten s) f)
