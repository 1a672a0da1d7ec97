-- Laws of the order list: each way out of the call.
use Rattle.std.specs.Prelude.{ℕ, ◌≡◌, List, ◌++◌, length, take, drop}
use Rattle.std.proofs.Common.{sym, ap, ◌∙◌}
use Rattle.walk.specs.Listing.{gave, refused}
use Rattle.refusal.specs.Told.{Told}
use Rattle.kinds.specs.Kind.{Sort}
use Rattle.lines.specs.Lines.{count_lines}
use Rattle.body_list.specs.BodyList.{starts_from, body_list, slots_holding, bodies_after}
use Rattle.body_list.specs.BodyListLaws.{counted_starts, listed_counted}
use Rattle.slot_key.specs.Sort.{sort_by}
use Rattle.slot_key.specs.SortLaws.{filled}
use Rattle.slot_key.specs.Rank.{rank}
use Rattle.order.specs.Order.{order_of, ordered, slots_after}

-- ys as `body_list` leaves the slots
module _ (rule : ℕ → Sort) (s xs ys : List ℕ) (f : ys ≡ bodies_after rule s xs) where
  pub order_refused : (t : Told) → refused t ≡ body_list rule s (length xs) → (refused t ≡ ordered rule s (length xs)) × (ys ≡ slots_after rule s xs)
  order_refused t e = (e, f ∙ ap (slots_holding (starts_from rule s 0) xs) (sym e) ∙ ap (slots_holding (order_of rule s) xs) e)

  -- zs as the sort does
  pub order_all : (n : ℕ) → gave n ≡ body_list rule s (length xs) → (zs : List ℕ) → zs ≡ sort_by (rank s) (take n ys) ++ drop n ys
      → (gave n ≡ ordered rule s (length xs)) × (zs ≡ slots_after rule s xs)
  order_all n e zs g =
      let k = counted_starts rule s n (listed_counted (length xs) (count_lines rule s) n e) in
      (e, g ∙ filled (rank s) (starts_from rule s 0) xs ys n k (f ∙ ap (slots_holding (starts_from rule s 0) xs) (sym e)) ∙ ap (slots_holding (order_of rule s) xs) e)
