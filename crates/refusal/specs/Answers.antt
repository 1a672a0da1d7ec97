-- What an answer of the code tells: `Err` is a refusal, `None` is no record, and in a pair a record stands before the state behind it. Source: document 01,
-- "Refusal numbers", and the values that it names for each.
-- Definitions only; a reader must believe them.
use Rattle.std.specs.Prelude.{Option, None, Some, Result, Ok, Err}
use Rattle.walk.specs.Listing.{Answer, gives, none, refuses, Reply, gave, nothing, refused}
use Rattle.refusal.specs.Told.{Told, told}
use Rattle.refusal.specs.declared.Refusal.{Refusal}

-- a record, by what f tells of it, or a refusal
abbrev pub told_result : {A B : Type 0} → (A → B) → Result A Refusal → Reply B Told
told_result f (Ok a) = gave (f a)
told_result f (Err r) = refused (told r)

-- the same, or no record
abbrev pub told_reply : {A B : Type 0} → (A → B) → Result (Option A) Refusal → Reply B Told
told_reply f (Ok (Some a)) = gave (f a)
told_reply f (Ok None) = nothing
told_reply f (Err r) = refused (told r)

-- a record and the state behind it, no record, or a refusal
abbrev pub told_answer : {A B S : Type 0} → (A → B) → Result (Option (A × S)) Refusal → Answer S B Told
told_answer f (Ok (Some (a, s))) = gives (f a) s
told_answer f (Ok None) = none
told_answer f (Err r) = refuses (told r)
