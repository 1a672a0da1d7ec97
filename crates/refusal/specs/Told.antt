-- The number of each refusal, and what it carries. Source: document 01, "Refusal numbers".
-- Definitions only; a reader must believe them.
use Rattle.std.specs.Prelude.{ℕ, List, [], ◌∷◌, get_or}
use Rattle.refusal.specs.declared.Refusal.{Refusal}
use Rattle.refusal.specs.declared.Refusal.TheVariants as why

-- a refusal as the document tells it
pub record Told : Type 0 where
  pub number : ℕ
  pub carries : List ℕ

abbrev bare : ℕ → Told
bare n = record { number = n; carries = [] }

abbrev with : ℕ → ℕ → Told
with n k = record { number = n; carries = k ∷ [] }

abbrev pub told : Refusal → Told
told why.Cut = bare 1
told (why.UnknownKind kind) = with 2 kind
told (why.UnknownChecksumKind kind) = with 3 kind
told why.ExportLength = bare 4
told (why.NotACrossModuleRef index) = with 5 index
told (why.CrossModuleRefNotFound index) = with 6 index
told why.BlockSize = bare 7
told why.OffsetTooLarge = bare 8
told why.UnsortedExports = bare 9
told why.NoRoom = bare 10
told why.TooLong = bare 11
told why.OldFormat = bare 12
told why.NoStringTable = bare 13
told why.HashVersion = bare 14
told why.ModuleSizes = bare 15
told why.WrongPlace = bare 16
told why.NotPlain = bare 17
told (why.NoFile index) = with 18 index
told why.WrongSlot = bare 19

-- the number of a refusal alone
abbrev pub number_of : Told → ℕ
number_of t = t.number

-- what a refusal carries, or 0
abbrev pub carried_of : Told → ℕ
carried_of t = get_or t.carries 0 0

-- number 11: the longest area or stream, in bytes
abbrev pub longest : ℕ
longest = 16777216
