-- The parts of an area from a place on, for a scan that judges kinds by itself: what a header at p says, and where the next begins.
use Rattle.std.specs.Prelude.{ℕ, ◌+◌, ◌-◌, ◌<◌, ◌≤◌, ◌≡◌, List, length}
use Rattle.std.proofs.Math.Path.{sym, ap}
use Rattle.std.proofs.Common.{◌∙◌, add_assoc, length-drop}
use Rattle.std.proofs.Math.Nat.{add-zero}
use Rattle.std.proofs.Math.ListN.{take, drop}
use Rattle.std.proofs.Math.Seq.{drop-drop}
use Rattle.word.specs.Word.{u32_at}
use Rattle.word.specs.WordLaws.{u32_drop}
use Rattle.walk.specs.Listing.{more, ends, fails}
use Rattle.walk.specs.Cases.{tests}
use Rattle.area.specs.Parts.{Raw, noHead, noBody, bite, parts}
use Rattle.area.specs.PartsLaws.{parts_step}

-- the subsection whose header stands at p
abbrev pub raw_at : List ℕ → ℕ → Raw
raw_at s p = record { kind = u32_at s p; body = take (u32_at s (p + 4)) (drop (p + 8) s) }

module _ (s : List ℕ) (p : ℕ) where
  pub rest_ends : length s - p ≡ 0 → ends ≡ parts (drop p s)
  unfolding bite
  rest_ends h = sym (parts_step (drop p s) ∙ simp (length-drop, tests))

  module _ (h₂ : length s - p ≡ 0 → ⊥) where
    pub rest_short : length s - p < 8 → fails noHead ≡ parts (drop p s)
    unfolding bite
    rest_short h = sym (parts_step (drop p s) ∙ simp (length-drop, tests))

    module _ (h₃ : 8 ≤ length s - p) where
      pub rest_cut : length s - p - 8 < u32_at s (p + 4) → fails noBody ≡ parts (drop p s)
      unfolding bite
      rest_cut h = sym (parts_step (drop p s) ∙ simp (length-drop, u32_drop, tests))

      pub rest_goes : u32_at s (p + 4) ≤ length s - p - 8 → more (raw_at s p) (parts (drop (p + 8 + u32_at s (p + 4)) s)) ≡ parts (drop p s)
      unfolding bite
      rest_goes h =
          let n = u32_at s (p + 4) in
          let e : drop 8 (drop p s) ≡ drop (p + 8) s = drop-drop 8 p s in
          let d : drop (8 + n) (drop p s) ≡ drop (p + 8 + n) s = drop-drop (8 + n) p s ∙ ap (λ (i : ℕ). drop i s) (sym (add_assoc p 8 n)) in
          sym (parts_step (drop p s) ∙ simp (length-drop, u32_drop, add-zero, tests) (λ i. more (record { kind = u32_at s p; body = take n (e i) }) (parts (d i))))
