-- The bytes of subsections: what a writer makes. `parts` undoes it (`parts_whole` of JoinLaws). Source: cvinfo.h, `CV_DebugSSubsectionHeader_t`;
-- document 01, "Area and subsections": a subsection is kind u32, length u32, body.
-- Definitions only; no public contract cites them.
use Rattle.std.specs.Prelude.{List, [], ◌∷◌, ◌++◌, ℕ, length}
use Rattle.word.specs.Word.{header}
use Rattle.area.specs.Parts.{Raw}

-- the bytes of a subsection, and of several
abbrev pub bytes_of : Raw → List ℕ
bytes_of r = header r.kind (length r.body) ++ r.body

unfoldable pub join : List Raw → List ℕ
join [] = []
join (r ∷ rs) = bytes_of r ++ join rs
