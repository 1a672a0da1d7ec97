-- Exports by their body alone: where it stands in an area, after all tests of a lookup; and of a body that is lent, whatever its bytes are, the export at an
-- index and the global index of a local one. Source: document 01, "Cross-module tables" (a lookup tests 9 over all pairs), number 4, number 11, "each look
-- at the middle leaves a shorter span", and "Area and subsections" (without such a subsection the answer is empty).
-- Definitions only; a reader must believe them, but for `if_short` to `global_in`: `body_exports`, `body_resolves` (exports FoundBodyLaws) say what these mean.
use Rattle.std.specs.Prelude.{ℕ, zero, suc, ◌+◌, ◌-◌, ◌*◌, ◌/◌, ◌%◌, List, cond, length, ltb, leb, eqb}
use Rattle.walk.specs.Listing.{Reply, gave, nothing, refused}
use Rattle.refusal.specs.Told.{Told, told, longest}
use Rattle.refusal.specs.declared.Refusal.TheVariants as why
use Rattle.word.specs.Word.{u32_at}
use Rattle.walk.specs.Pick.{on_gave}
use Rattle.kinds.specs.Kind.{CROSS_SCOPE_EXPORTS, Sort}
use Rattle.find.specs.Find.{Span, first_sub, bytes_at}
use Rattle.body.specs.Exports.{Pair, pairs}
use Rattle.table.specs.Collect.{collected, of_nth}
use Rattle.exports.specs.Exports.{Export, export_of, ascends}

-- a place, if the body there has the tests of a lookup behind it: else 4, then 9
unfoldable pub if_ascending : Span → List Pair → Reply Span Told
if_ascending a ps = cond (ascends ps) (gave a) (refused (told why.UnsortedExports))

abbrev pub lookup_body : List ℕ → Reply Span Told → Reply Span Told
lookup_body s (gave a) = on_gave (if_ascending a) (collected (pairs (bytes_at s a)))
lookup_body s nothing = gave (record { start = 0; len = 0 })
lookup_body s (refused t) = refused t

-- THE BODY for lookups: the first of its kind; the empty one where there is none
abbrev pub export_body : (ℕ → Sort) → List ℕ → Reply Span Told
export_body rule s = lookup_body s (first_sub rule CROSS_SCOPE_EXPORTS s)

-- x of a body that is not too long
unfoldable pub if_short : {A : Type 0} → List ℕ → Reply A Told → Reply A Told
if_short b x = cond (ltb longest (length b)) (refused (told why.TooLong)) x

-- THE EXPORT at an index of a body
abbrev pub export_at : List ℕ → ℕ → Reply Export Told
export_at b i = if_short b (on_gave (λ (ps : List Pair). of_nth i ps nothing (λ (p : Pair). gave (export_of p))) (collected (pairs b)))

-- a look for n at the middle of the pairs a to e of a body, and then f of the half that is left
abbrev pub middle_pair : ℕ → ℕ → ℕ
middle_pair a e = a + (e - a) / 2

unfoldable pub look_pair : List ℕ → ℕ → (ℕ → ℕ → Reply ℕ Told) → ℕ → ℕ → Reply ℕ Told
look_pair b n f a e =
    cond (leb e a) nothing
    (cond (eqb (u32_at b (8 * middle_pair a e)) n) (gave (u32_at b (8 * middle_pair a e + 4)))
    (cond (ltb (u32_at b (8 * middle_pair a e)) n) (f (middle_pair a e + 1) e) (f a (middle_pair a e))))

-- by halving: in at most k looks, and in as many as it takes
unfoldable pub pair_halved_in : List ℕ → ℕ → ℕ → ℕ → ℕ → Reply ℕ Told
pair_halved_in b n zero a e = nothing
pair_halved_in b n (suc k) a e = look_pair b n (pair_halved_in b n k) a e

unfoldable pub pair_halved : List ℕ → ℕ → ℕ → ℕ → Reply ℕ Told
pair_halved b n a e = pair_halved_in b n (suc (e - a)) a e

-- THE GLOBAL INDEX of a local one in a body, by halving; in a body that does not ascend one may be missed
unfoldable pub global_in : List ℕ → ℕ → Reply ℕ Told
global_in b n =
    if_short b (cond (eqb (length b % 8) 0) (pair_halved b n 0 (length b / 8)) (refused (told why.ExportLength)))
