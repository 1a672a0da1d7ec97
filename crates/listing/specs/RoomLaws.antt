-- How many slots an area can need: a line subsection has a header of 8 bytes and at least 12 bytes of body. So 3,276 slots suffice for each area
-- whose text is not refused with 11 alone.
use Rattle.std.specs.Prelude.{ℕ, ◌+◌, ◌*◌, ◌≤◌, ◌≡◌, refl, List, Bool, true, false, cond, length, ltb, eqb}
use Rattle.std.proofs.Common.{arith, ltb-false}
use Rattle.walk.specs.Listing.{Move, item, pass, over, fail, Listing, more, fails, on_move, Reply, gave, nothing, refused}
use Rattle.walk.specs.ListingLaws.{To}
use Rattle.walk.specs.WithinLaws.{Within}
use Rattle.walk.specs.Pick.{only}
use Rattle.refusal.specs.Told.{Told, told}
use Rattle.refusal.specs.declared.Refusal.TheVariants as why
use Rattle.kinds.specs.Kind.{LINES, Sort}
use Rattle.area.specs.Subs.{Sub, subs_from}
use Rattle.area.specs.SubsLaws.{SubLies, subs_ind}
use Rattle.find.specs.Find.{is}
use Rattle.lines.specs.Lines.{headed, plus, count_of, count_lines}

module _ (rule : ℕ → Sort) (s : List ℕ) where
  -- n line subsections from p on take 20 bytes each
  Took : ℕ → Listing Sub Told → Type 0
  Took p l = (n : ℕ) → gave n ≡ count_of (headed (only (is LINES) l)) → p ≤ length s → p + 20 * n ≤ length s

  one_more : (p x n : ℕ) (y : Reply ℕ Told) → p + 20 ≤ x → ((m : ℕ) → gave m ≡ y → x + 20 * m ≤ length s) → gave n ≡ plus 1 y → p + 20 * n ≤ length s
  one_more p x n (gave m) h f e = let q : n ≡ 1 + m = cc in omega (arith, f m refl)
  one_more p x n nothing h f e = let z : ◌≡◌ {A = ℕ} 0 1 = cc in absurd (omega arith)
  one_more p x n (refused t) h f e = let z : ◌≡◌ {A = ℕ} 0 1 = cc in absurd (omega arith)

  took : (p : ℕ) (u : Move ℕ Sub Told) → Within 8 SubLies (length s) p u → To u (λ t. Took t (subs_from rule s t)) → Took p (on_move (subs_from rule s) u)
  unfolding Took headed only count_of
  took p (item b x) w f n e h = by (eqb b.kind LINES) e
    where
      k : Listing Sub Told
      k = only (is LINES) (subs_from rule s x)

      -- a line subsection: its body has at least 12 bytes, or the tests fail
      long : (d : Bool) → ltb b.len 12 ≡ d → gave n ≡ count_of (cond d (fails (told why.Cut)) (more b (headed k))) → p + 20 * n ≤ length s
      long true q e = let z : ◌≡◌ {A = ℕ} 0 1 = cc in absurd (omega arith)
      long false q e = one_more p x n (count_of (headed k)) (omega (arith, ltb-false)) (λ m g. f m g (omega arith)) e

      by : (t : Bool) → gave n ≡ count_of (headed (cond t (more b k) k)) → p + 20 * n ≤ length s
      by true e = long (ltb b.len 12) refl e
      by false e = omega (arith, f n e (omega arith))
  took p (pass x) w f n e h = omega (arith, f n e (omega arith))
  took p over w f n e h = let z : n ≡ 0 = cc in omega arith
  took p (fail t) w f n e h = let z : ◌≡◌ {A = ℕ} 0 1 = cc in absurd (omega arith)

  pub room_taken : (n : ℕ) → gave n ≡ count_lines rule s → 20 * n ≤ length s
  unfolding Took
  room_taken n e = omega (arith, subs_ind rule s Took took 0 n e (omega arith))
