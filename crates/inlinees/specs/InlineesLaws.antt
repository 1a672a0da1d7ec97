-- Laws of the inlinees of an area: a step, the walk, and what the inlinees and their extra files are in the bytes.
use Rattle.std.specs.Prelude.{ℕ, ◌+◌, ◌≤◌, ◌≡◌, List, length, take, drop}
use Rattle.std.proofs.Common.{ap, ◌∙◌, arith}
use Rattle.walk.specs.Listing.{Listing, mapped, gave, nothing, calls, replies}
use Rattle.walk.specs.ListingLaws.{Every}
use Rattle.refusal.specs.Told.{Told, longest}
use Rattle.kinds.specs.Kind.{INLINEE_LINES, Sort}
use Rattle.find.specs.Find.{same, first_sub, first_bytes}
use Rattle.table.specs.StepLaws.{Steps, steps}
use Rattle.table.specs.TableLaws.{first_finds, table_walk_lem}
use Rattle.table.specs.Table.{of_body, word_in}
use Rattle.table.specs.WholeLaws.{table_every, table_means}
use Rattle.table.specs.declared.TableWalk.{TableWalk}
use Rattle.table.specs.declared.TableWalk.TheVariants as walk
use Rattle.body.specs.Words.{words_in}
use Rattle.body.specs.Inlinees.{Inlinee}
use Rattle.table.specs.Collect.{of_nth}
use Rattle.table.specs.WordsLaws.{words_part, word_of}
use Rattle.inlinees.specs.Inlinees.{SourceLine, source_line_at, source_lines_from, show, inlinee_step, inlinees_in, inlinee_spelt, inlinees_of}
use Rattle.inlinees.specs.SourceLineLaws.{lines_step, In, lines_in, lines_mean}

-- ---- a walk over the inlinees of an area

pub inlinee_steps : (rule : ℕ → Sort) (s : List ℕ) (w : TableWalk) → Steps source_line_at show (first_sub rule INLINEE_LINES s) s w
    (inlinee_step rule s w)
unfolding inlinee_step
inlinee_steps rule s w = steps source_line_at show (first_sub rule INLINEE_LINES s) s w (first_finds rule INLINEE_LINES s)

-- THE WALK: n calls from a new walk on answer the inlinees in order, and then the end, or the same refusal, again and again
pub inlinees_walk : (rule : ℕ → Sort) (s : List ℕ) (n : ℕ) → calls (inlinee_step rule s) n walk.New ≡ replies n (inlinees_in rule s)
unfolding inlinee_step
inlinees_walk rule s n =
    table_walk_lem source_line_at show source_lines_from lines_step s (first_sub rule INLINEE_LINES s) (first_finds rule INLINEE_LINES s) n

-- ---- the words of extra files

-- THE THEOREM: the inlinees of an area, with their extra files, are what the bytes of its first inlinee body say
pub inlinees_mean : (rule : ℕ → Sort) (s : List ℕ) → mapped (inlinee_spelt s) same (inlinees_in rule s) ≡ of_body inlinees_of (first_bytes rule INLINEE_LINES s)
inlinees_mean rule s =
    table_means (λ (b : List ℕ). source_lines_from b 0) show In (λ b. lines_in b 0) s inlinee_spelt inlinee_spelt moves (first_sub rule INLINEE_LINES s)
    (first_finds rule INLINEE_LINES s)
    ∙ ap (λ (f : List ℕ → Listing Inlinee Told). of_body f (first_bytes rule INLINEE_LINES s)) (λ i b. lines_mean b i)
  where
    moves : (start n : ℕ) (e : SourceLine) → start + n ≤ length s → length s ≤ longest → In n e → inlinee_spelt s (show start e) ≡ inlinee_spelt (take n (drop start s)) e
    moves start n e h m q =
        let words : words_in e.count (drop (start + e.extra) s) ≡ words_in e.count (drop e.extra (take n (drop start s)))
        = words_part s start n e.extra e.count q in
        λ i. record { inlinee = e.inlinee; file = e.file; line = e.line; extra = words i }

-- and `table::word_in`, asked for each inlinee of an area, hands out its extra files in order, and nothing behind them
pub extra_files : (rule : ℕ → Sort) (s : List ℕ)
    → Every (λ (e : SourceLine). (i : ℕ) → word_in s e.extra e.count i ≡ of_nth i (inlinee_spelt s e).extra nothing gave) (inlinees_in rule s)
extra_files rule s =
    table_every (λ (b : List ℕ). source_lines_from b 0) show In (λ b. lines_in b 0) s
    (λ (e : SourceLine). (i : ℕ) → word_in s e.extra e.count i ≡ of_nth i (inlinee_spelt s e).extra nothing gave)
    (λ start n e h m q i. word_of s (start + e.extra) e.count i m (omega arith))
    (first_sub rule INLINEE_LINES s) (first_finds rule INLINEE_LINES s)
