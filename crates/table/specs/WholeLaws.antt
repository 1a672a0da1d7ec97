-- Laws of tables that a step with places makes: the records spelt out of the area are those spelt out of the body alone.
use Rattle.std.specs.Prelude.{ℕ, ◌+◌, ◌≤◌, ◌≡◌, refl, List, length, take, drop}
use Rattle.std.proofs.Common.{subst, length-drop, length-take-le, arith}
use Rattle.walk.specs.Listing.{Listing, more, ends, fails, mapped, Reply, gave, nothing, refused}
use Rattle.walk.specs.ListingLaws.{Every}
use Rattle.walk.specs.Pick.{map_reply}
use Rattle.refusal.specs.Told.{Told, longest}
use Rattle.find.specs.Find.{same, Span, bytes_at}
use Rattle.table.specs.Table.{table_of, of_body}
use Rattle.table.specs.TableLaws.{Finds}

-- ---- what holds of each record

pub mapped_every : {B C : Type 0} (P : B → Type 0) (g : B → C) (Q : C → Type 0) → ((b : B) → P b → Q (g b)) → (l : Listing B Told) → Every P l
    → Every Q (mapped g same l)
mapped_every P g Q h (more b l) p = (h b p.0, mapped_every P g Q h l p.1)
mapped_every P g Q h ends p = tt
mapped_every P g Q h (fails t) p = tt

pub mapped_is : {B C D : Type 0} (P : B → Type 0) (g : B → C) (h : C → D) (k : B → D) → ((b : B) → P b → h (g b) ≡ k b) → (l : Listing B Told) → Every P l
    → mapped h same (mapped g same l) ≡ mapped k same l
mapped_is P g h k e (more b l) p = λ i. more (e b p.0 i) (mapped_is P g h k e l p.1 i)
mapped_is P g h k e ends p = refl
mapped_is P g h k e (fails t) p = refl

-- In n b: the places of the record b lie in a body of n bytes
module _ {B C : Type 0} (list : List ℕ → Listing B Told) (show : ℕ → B → C) (In : ℕ → B → Type 0)
    (lies : (b : List ℕ) → Every (In (length b)) (list b)) (s : List ℕ) where
  body_lies : (a : Span) → a.start + a.len ≤ length s → Every (In a.len) (list (bytes_at s a))
  body_lies a h =
      subst (λ (n : ℕ). Every (In n) (list (bytes_at s a)))
      (length-take-le a.len (drop a.start s) (omega (arith, length-drop a.start s))) (lies (bytes_at s a))

  -- of each record of the table
  pub table_every : (Q : C → Type 0) → ((start n : ℕ) (b : B) → start + n ≤ length s → length s ≤ longest → In n b → Q (show start b))
      → (f : Reply Span Told) → Finds s f → Every Q (table_of list show s f)
  table_every Q h (gave a) w =
      mapped_every (In a.len) (show a.start) Q (λ b p. h a.start a.len b w.0 w.1 p) (list (bytes_at s a)) (body_lies a w.0)
  table_every Q h nothing w = tt
  table_every Q h (refused t) w = tt

  -- the records spelt out of the area are those spelt out of the body
  module _ {D : Type 0} (spell : List ℕ → C → D) (own : List ℕ → B → D)
      (moves : (start n : ℕ) (b : B) → start + n ≤ length s → length s ≤ longest → In n b → spell s (show start b) ≡ own (take n (drop start s)) b) where
    pub table_means : (f : Reply Span Told) → Finds s f
        → mapped (spell s) same (table_of list show s f) ≡ of_body (λ (b : List ℕ). mapped (own b) same (list b)) (map_reply (bytes_at s) same f)
    table_means (gave a) w =
        mapped_is (In a.len) (show a.start) (spell s) (own (bytes_at s a)) (λ b p. moves a.start a.len b w.0 w.1 p) (list (bytes_at s a)) (body_lies a w.0)
    table_means nothing w = refl
    table_means (refused t) w = refl
