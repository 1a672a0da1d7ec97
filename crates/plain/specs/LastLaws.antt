-- The last subsection of a plain area lies in it.
use Rattle.std.specs.Prelude.{ℕ, ◌+◌, ◌≤◌, ◌≡◌, ◌⊎◌, List, Bool, true, false, cond, length, ltb}
use Rattle.std.proofs.Common.{sym, ap, ◌∙◌, inl, inr, ⊎_elim, arith, length-drop}
use Rattle.std.proofs.Math.Option.{Option, none, some}
use Rattle.walk.specs.Listing.{Move, item, pass, over, fail, on_move}
use Rattle.walk.specs.ListingLaws.{To}
use Rattle.refusal.specs.Told.{longest}
use Rattle.area.specs.Parts.{Raw, Lack, Parts, parts}
use Rattle.area.specs.PartsLaws.{Bitten, parts_ind}
use Rattle.plain.specs.Plain.{mark_of, Last, nothing_yet, on_mark, plain_from, plain_of}

never : {A : Type 0} {x : Last} → ◌≡◌ {A = Option Last} none (some x) → A
never e = let z : ◌≡◌ {A = ℕ} 0 1 = cc in absurd (omega arith)

abbrev Lies : List ℕ → Parts → Type 0
Lies s l = (p : ℕ) (last x : Last) → plain_from p last l ≡ some x → (x ≡ last) ⊎ (x.header + 8 ≤ p + length s)

lies : (s : List ℕ) → Lies s (parts s)
unfolding plain_from
lies = parts_ind Lies one
  where
    on : (s : List ℕ) (r : Raw) (t : List ℕ) → Bitten s (item r t) → Lies t (parts t) → (p : ℕ) (x : Last) (o : Option ℕ)
        → on_mark o none (λ m. plain_from (p + 8 + length r.body) (record { header = p; kind = r.kind; mark = m }) (parts t)) ≡ some x → x.header + 8 ≤ p + length s
    on s r t w f p x none q = never q
    on s r t w f p x (some m) q =
        ⊎_elim (λ e. let z : x.header ≡ p = ap (λ (l : Last). l.header) e in omega (arith, w.0))
        (λ h. omega (arith, w.0, ap length w.4 ∙ length-drop (8 + length r.body) s))
        (f (p + 8 + length r.body) (record { header = p; kind = r.kind; mark = m }) x q)

    one : (s : List ℕ) (u : Move (List ℕ) Raw Lack) → Bitten s u → To u (λ t. Lies t (parts t)) → Lies s (on_move parts u)
    one s (item r t) w f p last x q = inr (on s r t w f p x (mark_of r.kind r.body) q)
    one s (pass t) w f p last x q = absurd w
    one s over w f p last x q = inl (let z : last ≡ x = cc in sym z)
    one s (fail c) w f p last x q = never q

pub not_long : (s : List ℕ) (l : Last) → plain_of s ≡ some l → plain_from 0 nothing_yet (parts s) ≡ some l
unfolding plain_of
not_long s l = by (ltb longest (length s))
  where
    by : (t : Bool) → cond t none (plain_from 0 nothing_yet (parts s)) ≡ some l → plain_from 0 nothing_yet (parts s) ≡ some l
    by true q = never q
    by false q = q

pub last_lies : (s : List ℕ) (l : Last) → plain_of s ≡ some l → (l.kind ≡ 0 → ⊥) → l.header + 8 ≤ length s
last_lies s l q z =
    ⊎_elim (λ e. absurd (z (ap (λ (x : Last). x.kind) e))) (λ h. omega arith) (lies s 0 nothing_yet l (not_long s l q))
