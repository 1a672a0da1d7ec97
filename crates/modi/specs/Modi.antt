-- A module's stream: symbols with their signature in front, then C11 lines or a C13 area. Source: document 01, "Strings and module sizes" (with C11
-- lines, line calls give 12 and the other three tables are empty; else the area is the C13 size behind the symbols, or 15; symbols are tested
-- alone: 1, then, if there are any, 1 below 4 bytes, and 12 for another signature than 4) and the sentence on number 11.
-- Definitions only; a reader must believe them.
use Rattle.std.specs.Prelude.{ℕ, ◌+◌, List, cond, length, ltb, eqb}
use Rattle.word.specs.Word.{u32_at}
use Rattle.walk.specs.Listing.{Reply, gave, nothing, refused}
use Rattle.walk.specs.Pick.{or_else, map_reply}
use Rattle.refusal.specs.Told.{Told, told, longest}
use Rattle.refusal.specs.declared.Refusal.TheVariants as why
use Rattle.find.specs.Find.{same, Span, bytes_at}
use Rattle.modi.specs.declared.ModuleSizes.{ModuleSizes}

-- whether a module's symbols can be read
unfoldable pub module_symbols : ModuleSizes → List ℕ → Reply (Unit {0}) Told
module_symbols z s =
    cond (ltb longest (length s)) (refused (told why.TooLong))
    (cond (ltb (length s) z.symbols) (refused (told why.Cut))
    (cond (eqb z.symbols 0) (gave tt)
    (cond (ltb z.symbols 4) (refused (told why.Cut))
    (cond (eqb (u32_at s 0) 4) (gave tt) (refused (told why.OldFormat))))))

-- where a module's area stands in its stream; nothing with C11 lines
unfoldable pub module_span : ModuleSizes → List ℕ → Reply Span Told
module_span z s =
    cond (ltb longest (length s)) (refused (told why.TooLong))
    (cond (ltb 0 z.c11) nothing
    (cond (ltb (length s) (z.symbols + z.c13)) (refused (told why.ModuleSizes))
    (gave (record { start = z.symbols; len = z.c13 }))))

-- the part of the stream that the tables are read from: with C11 lines, the empty one
abbrev pub tables_span : ModuleSizes → List ℕ → Reply Span Told
tables_span z s = or_else (module_span z s) (gave (record { start = 0; len = 0 }))

-- the part of the stream that lines and files are read from: with C11 lines, refused with 12
abbrev pub lines_span : ModuleSizes → List ℕ → Reply Span Told
lines_span z s = or_else (module_span z s) (refused (told why.OldFormat))

-- THE AREAS: the bytes that a call on a table, and one on lines or files, reads
abbrev pub tables_area : ModuleSizes → List ℕ → Reply (List ℕ) Told
tables_area z s = map_reply (bytes_at s) same (tables_span z s)

abbrev pub lines_area : ModuleSizes → List ℕ → Reply (List ℕ) Told
lines_area z s = map_reply (bytes_at s) same (lines_span z s)
