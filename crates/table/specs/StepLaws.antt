-- A step of a walk over a table, as its code comes to it: q is the place where the record is looked for, and the body there is lent from its start on. One law for every table, which each of them cites.
use Rattle.std.specs.Prelude.{ℕ, ◌+◌, ◌-◌, ◌≤◌, ◌≡◌, List, length, take, drop}
use Rattle.std.proofs.Common.{sym, ap, ◌∙◌, arith, length-take}
use Rattle.std.proofs.Math.Path.{subst⁻¹}
use Rattle.std.proofs.Math.Nat.{add-sub_cancel_left}
use Rattle.walk.specs.Listing.{Answer, Reply, gave}
use Rattle.refusal.specs.Told.{Told, longest}
use Rattle.find.specs.Find.{Span}
use Rattle.table.specs.Table.{Place, spot_of, shifted, read_at, table_step}
use Rattle.table.specs.TableLaws.{Finds, Inside, spot_lies}
use Rattle.table.specs.declared.TableWalk.{TableWalk}

-- the body that is lent
abbrev pub lent_at : List ℕ → ℕ → ℕ → List ℕ
lent_at s start len = take (start + len - start) (drop start s)

-- what a step's code has to show, `out` being what the step is: f finds the table, and `step` reads its body
pub record Steps {B C : Type 0} (step : List ℕ → ℕ → Answer ℕ B Told) (show : ℕ → B → C) (f : Reply Span Told) (s : List ℕ) (w : TableWalk)
    (out : Answer TableWalk C Told) : Type 0 where
  -- what is lent lies in the area, which is not too long
  pub lies : {q : Place} → gave q ≡ spot_of f s w
      → (q.start + q.len ≤ length s) × (q.start + length (lent_at s q.start q.len) ≤ length s) × (length s ≤ longest)
  -- what the body's crate answers there, a, is handed on
  pub read : {q : Place} {a : Answer ℕ B Told} → gave q ≡ spot_of f s w → a ≡ step (lent_at s q.start q.len) q.at → shifted show q.start q.len a ≡ out
  -- no table, or a refusal
  pub other : {r : Reply Place Told} → r ≡ spot_of f s w → read_at step show s r ≡ out

pub steps : {B C : Type 0} (step : List ℕ → ℕ → Answer ℕ B Told) (show : ℕ → B → C) (f : Reply Span Told) (s : List ℕ) (w : TableWalk)
    → Finds s f → Steps step show f s w (table_step step show f s w)
steps step show f s w finds =
    record {
      lies = λ {q} e.
          let p = subst⁻¹ (Inside s) e (spot_lies s f finds w) in
          (p.0, omega (arith, length-take (q.start + q.len - q.start) (drop q.start s)), p.1);
      read = λ {q} {a} e h.
          ap (shifted show q.start q.len) (h ∙ ap (λ (k : ℕ). step (take k (drop q.start s)) q.at) (add-sub_cancel_left q.start q.len))
          ∙ ap (read_at step show s) e;
      other = λ e. ap (read_at step show s) e;
    }
