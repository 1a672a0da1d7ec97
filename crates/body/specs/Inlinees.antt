-- The body of an INLINEE_LINES subsection: a signature, and entries one after the other. Source: cvinfo.h,
-- `CV_INLINEE_SOURCE_LINE_SIGNATURE` 0 and `_EX` 1, `InlineeSourceLine` (inlinee, fileId, sourceLineNum), `InlineeSourceLineEx` (inlinee, fileId,
-- sourceLineNum, countOfExtraFiles and that many fileIds); document 01, "Checksums, inlinees": whatever is cut is 1, and only the signature 1 has
-- extra files.
-- Definitions only; a reader must believe them, but for `extra_bytes`, `inlinee_bytes`: `decided` (round_trip DecidedHolds) says what these mean; for
-- `extra_length`: contracts of inner calls alone cite it.
use Rattle.std.specs.Prelude.{ℕ, ◌+◌, ◌-◌, ◌*◌, List, [], ◌++◌, Bool, true, false, cond, length, drop, ltb, eqb}
use Rattle.word.specs.Word.{u32_at, le32}
use Rattle.walk.specs.Listing.{Move, item, over, fail, Listing, all}
use Rattle.refusal.specs.Told.{Told, told}
use Rattle.refusal.specs.declared.Refusal.TheVariants as why
use Rattle.body.specs.Words.{words_in, word_bytes}

pub record Inlinee : Type 0 where
  pub inlinee : ℕ
  pub file : ℕ
  pub line : ℕ
  pub extra : List ℕ

abbrev pub extended : ℕ → Bool
extended signature = eqb signature 1

-- an entry whose inlinee, file and line are there: behind these the count and the words, if the entries are extended
abbrev pub extra_bite : Bool → List ℕ → Move (List ℕ) Inlinee Told
extra_bite false s = item (record { inlinee = u32_at s 0; file = u32_at s 4; line = u32_at s 8; extra = [] }) (drop 12 s)
extra_bite true s =
    cond (ltb (length s) 16) (fail (told why.Cut))
    (cond (ltb (length s - 16) (4 * u32_at s 12)) (fail (told why.Cut))
    (item (record { inlinee = u32_at s 0; file = u32_at s 4; line = u32_at s 8; extra = words_in (u32_at s 12) (drop 16 s) })
    (drop (16 + 4 * u32_at s 12) s)))

unfoldable pub inlinee_bite : Bool → List ℕ → Move (List ℕ) Inlinee Told
inlinee_bite x s = cond (eqb (length s) 0) over (cond (ltb (length s) 12) (fail (told why.Cut)) (extra_bite x s))

unfoldable pub inlinees : Bool → List ℕ → Listing Inlinee Told
inlinees x = all (inlinee_bite x) length

-- the bytes of an entry
abbrev pub extra_bytes : Bool → List ℕ → List ℕ
extra_bytes false ws = []
extra_bytes true ws = le32 (length ws) ++ word_bytes ws

abbrev pub inlinee_bytes : Bool → Inlinee → List ℕ
inlinee_bytes x e = le32 e.inlinee ++ (le32 e.file ++ (le32 e.line ++ extra_bytes x e.extra))

-- how many bytes come behind inlinee, file and line, with n extra files
abbrev pub extra_length : Bool → ℕ → ℕ
extra_length false n = 0
extra_length true n = 4 + 4 * n
