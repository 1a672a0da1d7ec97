-- The stream of a string table, and the names in it. Source: nmt.h, string table stream (signature, hash version, size of the names; the names; a
-- hash table), and document 01, "Strings and module sizes": 11, header whole 1, signature 13, room for 24 + names size 1, hash version 14.
-- Definitions only; a reader must believe them.
use Rattle.std.specs.Prelude.{ℕ, ◌+◌, List, [], ◌∷◌, cond, ◌||◌, length, take, drop, ltb, eqb}
use Rattle.word.specs.Word.{u32_at}
use Rattle.walk.specs.Listing.{Reply, gave, refused}
use Rattle.walk.specs.Pick.{on_gave}
use Rattle.refusal.specs.Told.{Told, told, longest}
use Rattle.refusal.specs.declared.Refusal.TheVariants as why
use Rattle.find.specs.Find.{Span}

-- the header's three words
abbrev pub signature : List ℕ → ℕ
signature s = u32_at s 0

abbrev pub version : List ℕ → ℕ
version s = u32_at s 4

abbrev pub names_size : List ℕ → ℕ
names_size s = u32_at s 8

-- where the names stand in a stream
unfoldable pub names_of : List ℕ → Reply Span Told
names_of s =
    cond (ltb longest (length s)) (refused (told why.TooLong))
    (cond (ltb (length s) 12) (refused (told why.Cut))
    (cond (eqb (signature s) 0xEFFE_EFFE)
    (cond (ltb (length s) (24 + names_size s)) (refused (told why.Cut))
    (cond (eqb (version s) 1 || eqb (version s) 2) (gave (record { start = 12; len = names_size s })) (refused (told why.HashVersion))))
    (refused (told why.NoStringTable))))

-- the bytes before the first zero
unfoldable pub until_zero : List ℕ → List ℕ
until_zero [] = []
until_zero (b ∷ bs) = cond (eqb b 0) [] (b ∷ until_zero bs)

-- the bytes of the names, and those from an offset on
abbrev pub names : List ℕ → List ℕ
names s = take (names_size s) (drop 12 s)

abbrev pub names_from : List ℕ → ℕ → List ℕ
names_from s offset = drop offset (names s)

-- where the name at an offset stands, if the table passes: the offset is below the size of the names, and a zero follows in the names
unfoldable pub name_in : List ℕ → ℕ → Reply Span Told
name_in s offset =
    cond (ltb offset (names_size s))
    (cond (ltb (length (until_zero (names_from s offset))) (length (names_from s offset)))
    (gave (record { start = 12 + offset; len = length (until_zero (names_from s offset)) }))
    (refused (told why.Cut)))
    (refused (told why.Cut))

-- THE NAME at an offset
abbrev pub name_at : List ℕ → ℕ → Reply Span Told
name_at s offset = on_gave (λ (a : Span). name_in s offset) (names_of s)
