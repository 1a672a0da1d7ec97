-- Where a line subsection begins a search for its body may begin, too: 8 bytes before the body, which is what the search looks at first.
use Rattle.std.specs.Prelude.{ℕ, ◌+◌, ◌-◌, ◌<◌, ◌≤◌, ◌≡◌, refl, List, map, length, eqb}
use Rattle.std.proofs.Common.{sym, ◌∙◌}
use Rattle.std.proofs.Math.Path.{ap, subst⁻¹}
use Rattle.std.proofs.Math.Logic.{⊎_elim}
use native.Mathlib.Omega.{arith}
use Rattle.walk.specs.Cases.{by_cases}
use Rattle.walk.specs.Listing.{Move, item, pass, over, fail, on_move, Listing, more, ends, fails}
use Rattle.walk.specs.ListingLaws.{To}
use Rattle.walk.specs.WithinLaws.{Within}
use Rattle.walk.specs.Pick.{only}
use Rattle.refusal.specs.Told.{Told}
use Rattle.kinds.specs.Kind.{LINES, Sort}
use Rattle.area.specs.Subs.{Sub, subs_from}
use Rattle.area.specs.SubsLaws.{SubLies, Chained, subs_ind, subs_chained}
use Rattle.find.specs.Find.{is}
use Rattle.lines.specs.Slots.{body_in, body_from, Scans}
use Rattle.lines.specs.SlotsLaws.{body_passed}
use Rattle.body_list.specs.BodyList.{listed, sub_start, starts_from}
use Rattle.body_list.specs.HalvingLaws.{In}

module _ (rule : ℕ → Sort) (s : List ℕ) where
  -- ---- what a walk finds first from p on stands 8 bytes before its body

  abbrev Heads : Listing Sub Told → Type 0
  Heads (more b l) = more b l ≡ subs_from rule s (b.start - 8)
  Heads ends = Unit {0}
  Heads (fails t) = Unit {0}

  abbrev Stands : ℕ → Listing Sub Told → Type 0
  Stands p l = l ≡ subs_from rule s p → Heads l

  stand : (p : ℕ) (u : Move ℕ Sub Told) → Within 8 SubLies (length s) p u → To u (λ t. Stands t (subs_from rule s t))
      → Stands p (on_move (subs_from rule s) u)
  stand p (item b x) w f = λ e. let q : p ≡ b.start - 8 = omega arith in e ∙ ap (subs_from rule s) q
  stand p (pass x) w f = λ e. f refl
  stand p over w f = λ e. tt
  stand p (fail r) w f = λ e. tt

  begin : (p : ℕ) (b : Sub) (l : Listing Sub Told) → more b l ≡ subs_from rule s p → more b l ≡ subs_from rule s (b.start - 8)
  begin p b l e = subst⁻¹ Heads e (subs_ind rule s Stands stand p refl)

  -- ---- a search that begins at q finds each body behind q that is found in l

  abbrev Finds : Listing Sub Told → ℕ → Type 0
  Finds l q = (u : ℕ) → q < u → body_from rule s q u ≡ body_in u l

  finds_passed : (b : Sub) (l : Listing Sub Told) (q : ℕ) → b.start ≤ q → Finds l q → Finds (more b l) q
  finds_passed b l q h f u k = f u k ∙ body_passed b l u (λ g. omega arith)

  chained : (p : ℕ) (b : Sub) (l : Listing Sub Told) → more b l ≡ subs_from rule s p → Chained rule s p (more b l)
  chained p b l e = subst⁻¹ (Chained rule s p) e (subs_chained rule s p)

  abbrev Begins : Listing Sub Told → ℕ → ℕ → Type 0
  Begins l p v = (p + 8 ≤ v) × Finds l (v - 8)

  begins : (l : Listing Sub Told) (p : ℕ) → l ≡ subs_from rule s p → (v : ℕ) → In v (map sub_start (listed (only (is LINES) l))) → Begins l p v
  unfolding only listed
  begins (more b l) p e v =
      let x = b.start + b.len in
      let c = chained p b l e in
      let g = begin p b l e in
      let later : In v (map sub_start (listed (only (is LINES) l))) → Begins (more b l) p v
      = λ m. let f = begins l x c.0 v m in (omega arith, finds_passed b l (v - 8) (omega arith) f.1) in
      let here : v ≡ b.start → Begins (more b l) p v
      = λ q. (omega arith, λ u h. ap (λ k. body_from rule s (k - 8) u) q ∙ ap (body_in u) (sym g)) in
      by_cases (λ (k : Listing Sub Told). In v (map sub_start (listed k)) → Begins (more b l) p v) (eqb b.kind LINES)
      (λ t m. ⊎_elim here later m) (λ t. later)
  begins ends p e v = λ m. absurd m
  begins (fails t) p e v = λ m. absurd m

  -- THE THEOREM: where the area's list has a body, a search may begin at its header
  pub list_scans : (v : ℕ) → In v (starts_from rule s 0) → Scans rule s (v - 8)
  list_scans v m = (begins (subs_from rule s 0) 0 refl v m).1
