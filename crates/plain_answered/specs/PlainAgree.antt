-- The plain predicate and the calls on a whole area: what a plain area promises who reads it. That the tables are those of the full reading is said by
-- the crate `reading_agrees`, wherever that refuses nothing. Source: document 01, "Writer and plain areas".
-- Definitions only; no public contract cites them.
use Rattle.std.specs.Prelude.{ℕ, ◌≡◌, List}
use Rattle.walk.specs.Listing.{Reply, gave, nothing, refused}
use Rattle.walk.specs.Pick.{failure}
use Rattle.kinds.specs.Kind.{Sort}
use Rattle.lines.specs.Lines.{count_lines}
use Rattle.files.specs.Files.{files_in}
use Rattle.inlinees.specs.Inlinees.{inlinees_in}
use Rattle.imports.specs.Imports.{imports_of}
use Rattle.exports.specs.Exports.{pairs_of, resolve_export}
use Rattle.reading.specs.Reading.{reading}

abbrev pub NotRefused : {B R : Type 0} → Reply B R → Type 0
NotRefused (gave b) = Unit {0}
NotRefused nothing = Unit {0}
NotRefused (refused r) = ⊥

-- by a rule for kinds, the full reading refuses nothing, nor do the tests before the lines, nor any table; and a lookup in its exports never finds
-- them unordered
pub record Answered (rule : ℕ → Sort) (s : List ℕ) : Type 0 where
  pub items : failure (reading rule s) ≡ nothing
  pub lines : NotRefused (count_lines rule s)
  pub files : failure (files_in rule s) ≡ nothing
  pub inlinees : failure (inlinees_in rule s) ≡ nothing
  pub imports : failure (imports_of rule s) ≡ nothing
  pub exports : failure (pairs_of rule s) ≡ nothing
  pub lookup : (n : ℕ) → NotRefused (resolve_export rule s n)
