-- The body of a CROSS_SCOPE_IMPORTS subsection: modules one after the other. Source: cvinfo.h, `CrossScopeReferences` (externalScope, a name
-- offset; countOfCrossReferences; that many ids); document 01, "Cross-module tables": until the body is filled, else 1.
-- Definitions only; a reader must believe them, but for `module_bytes`: `decided` (round_trip DecidedHolds) says what it means.
use Rattle.std.specs.Prelude.{ℕ, ◌+◌, ◌-◌, ◌*◌, List, ◌++◌, cond, length, drop, ltb, eqb}
use Rattle.word.specs.Word.{u32_at, le32}
use Rattle.walk.specs.Listing.{Move, item, over, fail, Listing, all}
use Rattle.refusal.specs.Told.{Told, told}
use Rattle.refusal.specs.declared.Refusal.TheVariants as why
use Rattle.body.specs.Words.{words_in, word_bytes}

pub record Module : Type 0 where
  pub name : ℕ
  pub words : List ℕ

unfoldable pub module_bite : List ℕ → Move (List ℕ) Module Told
module_bite s =
    cond (eqb (length s) 0) over
    (cond (ltb (length s) 8) (fail (told why.Cut))
    (cond (ltb (length s - 8) (4 * u32_at s 4)) (fail (told why.Cut))
    (item (record { name = u32_at s 0; words = words_in (u32_at s 4) (drop 8 s) }) (drop (8 + 4 * u32_at s 4) s))))

unfoldable pub modules : List ℕ → Listing Module Told
modules = all module_bite length

-- the bytes of a module
abbrev pub module_bytes : Module → List ℕ
module_bytes m = le32 m.name ++ (le32 (length m.words) ++ word_bytes m.words)
