-- The kinds of subsection, by name, and which of them are known. Source: cvinfo.h, `DEBUG_S_SUBSECTION_TYPE` and `DEBUG_S_IGNORE`; document 01, "Area
-- and subsections": known, skipped with its body, all else refused. The names are those of the crate's `DebugSubsectionKind`, in capitals; where
-- cvinfo.h spells one otherwise behind `DEBUG_S_`, that is said.
-- Definitions only; a reader must believe them.
use Rattle.std.specs.Prelude.{ℕ, List, [], ◌∷◌, Bool, true, false, cond, eqb}

abbrev pub SYMBOLS : ℕ
SYMBOLS = 0xf1

abbrev pub LINES : ℕ
LINES = 0xf2

-- in cvinfo.h: STRINGTABLE
abbrev pub STRING_TABLE : ℕ
STRING_TABLE = 0xf3

-- in cvinfo.h: FILECHKSMS
abbrev pub FILE_CHECKSUMS : ℕ
FILE_CHECKSUMS = 0xf4

-- in cvinfo.h: FRAMEDATA
abbrev pub FRAME_DATA : ℕ
FRAME_DATA = 0xf5

-- in cvinfo.h: INLINEELINES
abbrev pub INLINEE_LINES : ℕ
INLINEE_LINES = 0xf6

-- in cvinfo.h: CROSSSCOPEIMPORTS
abbrev pub CROSS_SCOPE_IMPORTS : ℕ
CROSS_SCOPE_IMPORTS = 0xf7

-- in cvinfo.h: CROSSSCOPEEXPORTS
abbrev pub CROSS_SCOPE_EXPORTS : ℕ
CROSS_SCOPE_EXPORTS = 0xf8

abbrev pub IL_LINES : ℕ
IL_LINES = 0xf9

abbrev pub FUNC_MDTOKEN_MAP : ℕ
FUNC_MDTOKEN_MAP = 0xfa

abbrev pub TYPE_MDTOKEN_MAP : ℕ
TYPE_MDTOKEN_MAP = 0xfb

-- in cvinfo.h: MERGED_ASSEMBLYINPUT
abbrev pub MERGED_ASSEMBLY_INPUT : ℕ
MERGED_ASSEMBLY_INPUT = 0xfc

abbrev pub COFF_SYMBOL_RVA : ℕ
COFF_SYMBOL_RVA = 0xfd

abbrev pub IGNORE : ℕ
IGNORE = 0x8000_0000

-- all but the last, in their order
abbrev pub known_kinds : List ℕ
known_kinds =
    SYMBOLS ∷ LINES ∷ STRING_TABLE ∷ FILE_CHECKSUMS ∷ FRAME_DATA ∷ INLINEE_LINES ∷ CROSS_SCOPE_IMPORTS ∷ CROSS_SCOPE_EXPORTS ∷ IL_LINES
    ∷ FUNC_MDTOKEN_MAP ∷ TYPE_MDTOKEN_MAP ∷ MERGED_ASSEMBLY_INPUT ∷ COFF_SYMBOL_RVA ∷ []

-- whether a number is one of a list
abbrev pub among : ℕ → List ℕ → Bool
among k [] = false
among k (n ∷ l) = cond (eqb k n) true (among k l)

pub data Sort : Type 0 where
  known skipped unknown : Sort

abbrev pub on_sort : {A : Type 0} → Sort → A → A → A → A
on_sort known a b c = a
on_sort skipped a b c = b
on_sort unknown a b c = c

-- the crate's rule
unfoldable pub crate_rule : ℕ → Sort
crate_rule k = cond (among k known_kinds) known (cond (eqb k IGNORE) skipped unknown)
