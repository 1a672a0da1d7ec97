-- Laws of the line subsections: one for each way of a loop over the area, on an answer of `sub_at`, and how they are counted.
use Rattle.std.specs.Prelude.{ℕ, ◌+◌, ◌<◌, ◌≤◌, ◌≡◌, refl, length, List}
use Rattle.std.proofs.Common.{sym, ◌∙◌, ⊎_elim, add_assoc, zero-add}
use Rattle.std.proofs.Math.Path.{ap}
use native.Mathlib.Omega.{arith}
use borrow.Author.Tests.{eq-eqb, ne_eqb, lt-ltb, le-ltb}
use Rattle.walk.specs.Cases.{le_or_gt}
use Rattle.walk.specs.Listing.{Listing, more, ends, fails, Reply, gave, nothing, refused, gives, none, refuses}
use Rattle.walk.specs.Pick.{only}
use Rattle.refusal.specs.Told.{Told, told, longest}
use Rattle.refusal.specs.declared.Refusal.TheVariants as why
use Rattle.kinds.specs.Kind.{LINES, Sort}
use Rattle.area.specs.Subs.{Sub, step_at}
use Rattle.area.specs.SubsLaws.{sub_next, sub_end, sub_refused, subs_long}
use Rattle.find.specs.Find.{is}
use Rattle.lines.specs.Lines.{headed, lines_from, plus, count_of, count_lines}

module _ (rule : ℕ → Sort) (s : List ℕ) (p : ℕ) where
  module _ (b : Sub) (x : ℕ) (q : gives b x ≡ step_at rule s p) where
    pub line_other : (b.kind ≡ LINES → ⊥) → lines_from rule s x ≡ lines_from rule s p
    unfolding only
    line_other h = rw (← (sub_next rule s p b x q).is, ne_eqb b.kind LINES h)

    module _ (h₁ : b.kind ≡ LINES) where
      pub line_short : b.len < 12 → fails (told why.Cut) ≡ lines_from rule s p
      unfolding only headed
      line_short h = rw (← (sub_next rule s p b x q).is, eq-eqb b.kind LINES h₁, lt-ltb b.len 12 h)

      pub line_more : 12 ≤ b.len → more b (lines_from rule s x) ≡ lines_from rule s p
      unfolding only headed
      line_more h = rw (← (sub_next rule s p b x q).is, eq-eqb b.kind LINES h₁, le-ltb b.len 12 h)

  pub line_end : none ≡ step_at rule s p → ends ≡ lines_from rule s p
  unfolding only headed
  line_end q = rw (← sub_end rule s p q)

  pub line_refused : (t : Told) → refuses t ≡ step_at rule s p → fails t ≡ lines_from rule s p
  unfolding only headed
  line_refused t q = rw (← sub_refused rule s p t q)

-- ---- counting: n so far, and those of l

plus_plus : {R : Type 0} (n m : ℕ) (x : Reply ℕ R) → plus (n + m) x ≡ plus n (plus m x)
plus_plus n m (gave k) = ap gave (add_assoc n m k)
plus_plus n m nothing = refl
plus_plus n m (refused r) = refl

pub plus_none : {R : Type 0} (x : Reply ℕ R) → plus 0 x ≡ x
plus_none (gave k) = ap gave (zero-add k)
plus_none nothing = refl
plus_none (refused r) = refl

module _ {B R : Type 0} (n : ℕ) (l : Listing B R) where
  pub count_more : (b : B) (k : Listing B R) → more b k ≡ l → plus (n + 1) (count_of k) ≡ plus n (count_of l)
  unfolding count_of
  count_more b k e = plus_plus n 1 (count_of k) ∙ ap (λ (x : Listing B R). plus n (count_of x)) e

  pub count_end : ends ≡ l → gave n ≡ plus n (count_of l)
  unfolding count_of
  count_end e = let z : n ≡ n + 0 = omega arith in ap gave z ∙ ap (λ (x : Listing B R). plus n (count_of x)) e

  pub count_refused : (r : R) → fails r ≡ l → refused r ≡ plus n (count_of l)
  unfolding count_of
  count_refused r e = ap (λ (x : Listing B R). plus n (count_of x)) e

-- ---- number 11 comes first

pub count_long : (rule : ℕ → Sort) (s : List ℕ) → longest < length s → refused (told why.TooLong) ≡ count_lines rule s
unfolding only headed count_of
count_long rule s h = ap (λ (l : Listing Sub Told). count_of (headed (only (is LINES) l))) (sym (subs_long rule s 0 h))

pub counted_short : (rule : ℕ → Sort) (s : List ℕ) (n : ℕ) → gave n ≡ count_lines rule s → length s ≤ longest
counted_short rule s n e =
    ⊎_elim (λ (m : length s ≤ longest). m)
    (λ (m : longest < length s). let q = e ∙ sym (count_long rule s m) in let z : ◌≡◌ {A = ℕ} 0 1 = cc in absurd (omega arith))
    (le_or_gt (length s) longest)
