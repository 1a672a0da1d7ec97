-- Back from the document's numbers to the cases of the code: what is told determines the refusal, so that no second one tells the same.
use Rattle.std.specs.Prelude.{ℕ, ◌≡◌, refl, List, [], ◌∷◌, get_or}
use Rattle.std.proofs.Common.{sym, ap, ◌∙◌}
use Rattle.std.specs.Prelude.{Option, None, Some, Result, Ok, Err}
use Rattle.walk.specs.Listing.{Answer, gives, none, refuses, Reply, gave, nothing, refused}
use Rattle.refusal.specs.Told.{Told, told, number_of, carried_of}
use Rattle.refusal.specs.Answers.{told_result, told_reply, told_answer}
use Rattle.refusal.specs.declared.Refusal.{Refusal}
use Rattle.refusal.specs.declared.Refusal.TheVariants as why

abbrev first : List ℕ → ℕ
first [] = 0
first (k ∷ ks) = k

-- the cases in the order of their numbers, from 0 on; no refusal has the number 0
abbrev cases : ℕ → List Refusal
cases k =
    why.Cut
    ∷ why.Cut
    ∷ why.UnknownKind k
    ∷ why.UnknownChecksumKind k
    ∷ why.ExportLength
    ∷ why.NotACrossModuleRef k
    ∷ why.CrossModuleRefNotFound k
    ∷ why.BlockSize
    ∷ why.OffsetTooLarge
    ∷ why.UnsortedExports
    ∷ why.NoRoom
    ∷ why.TooLong
    ∷ why.OldFormat
    ∷ why.NoStringTable
    ∷ why.HashVersion
    ∷ why.ModuleSizes
    ∷ why.WrongPlace
    ∷ why.NotPlain
    ∷ why.NoFile k
    ∷ why.WrongSlot
    ∷ []

unfoldable pub untold : Told → Refusal
untold t = get_or (cases (first t.carries)) t.number why.Cut

pub untold_told : (r : Refusal) → untold (told r) ≡ r
unfolding untold
untold_told why.Cut = refl
untold_told (why.UnknownKind kind) = refl
untold_told (why.UnknownChecksumKind kind) = refl
untold_told why.ExportLength = refl
untold_told (why.NotACrossModuleRef index) = refl
untold_told (why.CrossModuleRefNotFound index) = refl
untold_told why.BlockSize = refl
untold_told why.OffsetTooLarge = refl
untold_told why.UnsortedExports = refl
untold_told why.NoRoom = refl
untold_told why.TooLong = refl
untold_told why.OldFormat = refl
untold_told why.NoStringTable = refl
untold_told why.HashVersion = refl
untold_told why.ModuleSizes = refl
untold_told why.WrongPlace = refl
untold_told why.NotPlain = refl
untold_told (why.NoFile index) = refl
untold_told why.WrongSlot = refl

-- Nothing is lost in what an answer tells, where nothing is lost of its record: g is the way back from what f tells of one.
module _ {A B : Type 0} (f : A → B) (g : B → A) (undo : (a : A) → g (f a) ≡ a) where
  -- a reply that is nothing tells no such answer, so that its way back may be any
  abbrev pub untold_result : Reply B Told → Result A Refusal
  untold_result (gave b) = Ok (g b)
  untold_result nothing = Err why.Cut
  untold_result (refused t) = Err (untold t)

  pub untold_result_lem : (a : Result A Refusal) → untold_result (told_result f a) ≡ a
  untold_result_lem (Ok a) = ap Ok (undo a)
  untold_result_lem (Err r) = ap Err (untold_told r)

  abbrev pub untold_reply : Reply B Told → Result (Option A) Refusal
  untold_reply (gave b) = Ok (Some (g b))
  untold_reply nothing = Ok None
  untold_reply (refused t) = Err (untold t)

  pub untold_reply_lem : (a : Result (Option A) Refusal) → untold_reply (told_reply f a) ≡ a
  untold_reply_lem (Ok (Some a)) = ap (λ x. Ok (Some x)) (undo a)
  untold_reply_lem (Ok None) = refl
  untold_reply_lem (Err r) = ap Err (untold_told r)

  abbrev pub untold_answer : {S : Type 0} → Answer S B Told → Result (Option (A × S)) Refusal
  untold_answer (gives b s) = Ok (Some (g b, s))
  untold_answer none = Ok None
  untold_answer (refuses t) = Err (untold t)

  pub untold_answer_lem : {S : Type 0} (a : Result (Option (A × S)) Refusal) → untold_answer (told_answer f a) ≡ a
  untold_answer_lem (Ok (Some (a, s))) = ap (λ x. Ok (Some (x, s))) (undo a)
  untold_answer_lem (Ok None) = refl
  untold_answer_lem (Err r) = ap Err (untold_told r)

-- one answer only, for every type A of answers that has a way back from what it tells: an answer that tells m is `back m`
pub exact : {A M : Type 0} (tell : A → M) (back : M → A) → ((a : A) → back (tell a) ≡ a) → (a : A) (m : M) → tell a ≡ m → a ≡ back m
exact tell back undo a m e = sym (undo a) ∙ ap back e

-- so two answers that tell the same are one
pub one_answer : {A M : Type 0} (tell : A → M) (back : M → A) → ((a : A) → back (tell a) ≡ a) → (a b : A) (m : M) → tell a ≡ m → tell b ≡ m → a ≡ b
one_answer tell back undo a b m e f = exact tell back undo a m e ∙ sym (exact tell back undo b m f)

-- the numbers of a refusal that is known
pub numbers_are : {r s : Refusal} → r ≡ s → (number_of (told s) ≡ number_of (told r)) × (carried_of (told s) ≡ carried_of (told r))
numbers_are e = (ap (λ w. number_of (told w)) (sym e), ap (λ w. carried_of (told w)) (sym e))
