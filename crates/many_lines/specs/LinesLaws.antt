-- THE LAWS of many lines at once: the records given, and the steps behind them, are the records of the definition; over a list left as it was built those of
-- the area alone.
use Rattle.std.specs.Prelude.{ℕ, ◌+◌, ◌≡◌, List, length}
use Rattle.std.proofs.Common.{sym, ◌∙◌}
use Rattle.walk.specs.Listing.{calls, replies, gave}
use Rattle.walk.specs.Many.{many}
use Rattle.walk.specs.ManyLaws.{gave_all, many_calls}
use Rattle.kinds.specs.Kind.{Sort}
use Rattle.order.specs.Order.{ordered, slots_after}
use Rattle.line_record.specs.declared.EndLines.{EndLines}
use Rattle.line_step.specs.declared.LineWalk.TheVariants.{New}
use Rattle.line_walk.specs.Meaning.{records_of, area_records}
use Rattle.line_walk.specs.Next.{next_of}
use Rattle.line_walk.proofs.WalkLaws.{walk_is}
use Rattle.line_walk.proofs.AreaLaws.{walk_built}

module _ (how : EndLines) (rule : ℕ → Sort) (s v : List ℕ) (k j : ℕ) where
  -- k records at once, and j steps behind them
  pub many_lines_lem : gave_all (many (next_of rule s v) k (New how)).records (calls (next_of rule s v) j (many (next_of rule s v) k (New how)).next)
      ≡ replies (length (many (next_of rule s v) k (New how)).records + j) (records_of how rule s v)
  many_lines_lem = sym (many_calls (next_of rule s v) k j (New how)) ∙ walk_is rule s v how (length (many (next_of rule s v) k (New how)).records + j)

-- over the list that `order_list` made in slots that held xs
module _ (how : EndLines) (rule : ℕ → Sort) (s xs : List ℕ) (n : ℕ) (e : gave n ≡ ordered rule s (length xs)) (k j : ℕ) where
  pub many_built : gave_all (many (next_of rule s (slots_after rule s xs)) k (New how)).records (calls (next_of rule s (slots_after rule s xs)) j (many (next_of rule s (slots_after rule s xs)) k (New how)).next)
      ≡ replies (length (many (next_of rule s (slots_after rule s xs)) k (New how)).records + j) (area_records how rule s)
  many_built =
      sym (many_calls (next_of rule s (slots_after rule s xs)) k j (New how))
      ∙ walk_built rule s n how xs e (length (many (next_of rule s (slots_after rule s xs)) k (New how)).records + j)
