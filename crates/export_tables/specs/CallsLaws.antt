-- Laws of the calls on tables: only an answer changes the slots of a list; a reference is resolved or refused, and either takes two words.
use Rattle.std.specs.Prelude.{ℕ, zero, suc, ◌/◌, ◌%◌, ◌<◌, ◌≡◌, refl, List, [], ◌∷◌, length, ltb, eqb}
use Rattle.std.proofs.Common.{arith}
use Rattle.walk.specs.Cases.{by_cases}
use Rattle.walk.specs.Listing.{Answer, gives, none, refuses, Reply, gave, nothing, refused}
use Rattle.refusal.specs.Told.{Told, longest}
use Rattle.kinds.specs.Kind.{Sort}
use Rattle.table.specs.Collect.{collected, of_nth}
use Rattle.imports.specs.Imports.{Ref, ModuleAt, scope_of, id_of, if_ref, module_of, module_at}
use Rattle.imports.specs.Listed.{import_places, if_slots, slots_used, import_list, slots_with, places_after, ref_on, ref_at, resolve_listed}
use Rattle.answer_words.specs.Given.{Gives, given, refusal_given, reply_given}
use Rattle.answer_words.specs.GivenLaws.{Still, room_careful, gives_short}
use Rattle.export_tables.specs.Calls.{ref_words, list_given, places_left, listed_given}

-- THE LAW: with any status but 1 the slots are as they were
pub places_careful : (rule : ℕ → Sort) (s v o : List ℕ) {r : ℕ} {left : List ℕ} → Gives o (list_given rule s (length v) o) r left → (r ≡ 1 → ⊥)
    → places_left rule s v o ≡ v
places_careful rule s v o g z =
    room_careful o (import_list rule s (length v)) v (places_after rule s v) (still (if_slots (length v) (collected (import_places rule s)))) g z
  where
    still : (x : Reply (List ℕ) Told) → Still (slots_used x) v (slots_with v x)
    still (gave ps) = tt
    still nothing = refl
    still (refused t) = refl

-- ---- an answer or a refusal

abbrev Answers : {B : Type 0} → Reply B Told → Type 0
Answers (gave b) = Unit {0}
Answers nothing = ⊥
Answers (refused t) = Unit {0}

answers_nth : {A B : Type 0} (y : Reply B Told) (f : A → Reply B Told) → Answers y → ((a : A) → Answers (f a)) → (i : ℕ) (xs : List A)
    → Answers (of_nth i xs y f)
unfolding of_nth
answers_nth y f h g i [] = h
answers_nth y f h g zero (x ∷ xs) = g x
answers_nth y f h g (suc i) (x ∷ xs) = answers_nth y f h g i xs

module _ (s v : List ℕ) (index : ℕ) where
  answers_on : (a : Answer ℕ ModuleAt Told) → Answers (ref_on s index a)
  answers_on (gives m x) = answers_nth _ _ tt (λ w. tt) (id_of index) (module_of s m).words
  answers_on none = tt
  answers_on (refuses t) = tt

  answers_listed : Answers (resolve_listed s v index)
  unfolding resolve_listed if_ref
  answers_listed =
      by_cases Answers (ltb longest (length s)) (λ a. tt)
      (λ a. by_cases Answers (eqb (index / 0x8000_0000 % 2) 1) (λ b. answers_nth _ (ref_at s index) tt (λ p. answers_on (module_at s p)) (scope_of index) v)
      (λ b. tt))

  -- without two words nothing is put
  pub listed_short : (o : List ℕ) → length o < 2 → Gives o (listed_given s v index) 3 o
  listed_short o h = by (resolve_listed s v index) answers_listed
    where
      by : (x : Reply Ref Told) → Answers x → Gives o (reply_given ref_words x) 3 o
      by (gave r) q = gives_short o (given 1 0 (ref_words r)) (omega arith)
      by nothing q = absurd q
      by (refused t) q = gives_short o (refusal_given 0 t) (omega arith)
