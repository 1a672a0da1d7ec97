-- The items of the walk, with words and bytes in place of where they stand, are the full reading.
use Rattle.std.specs.Prelude.{ℕ, zero, suc, ◌+◌, ◌%◌, ◌≤◌, ◌≡◌, refl, length, take, drop, ltb, eqb}
use Rattle.std.proofs.Common.{sym, ◌∙◌, arith, length-drop, length-take-le, ltb-false}
use Rattle.std.proofs.Math.Path.{ap}
use mathlib.Core.List.{List, ◌∷◌, map}
use Rattle.word.specs.Word.{u32_at}
use Rattle.walk.specs.Cases.{both_ways}
use Rattle.walk.specs.Listing.{Listing, more, ends, fails, mapped, Reply, gave, nothing, refused, calls, replies}
use Rattle.walk.specs.Pick.{map_reply}
use Rattle.walk.specs.SpreadLaws.{map_spread, spread_every}
use Rattle.kinds.specs.Kind.{LINES, FILE_CHECKSUMS, INLINEE_LINES, CROSS_SCOPE_IMPORTS, CROSS_SCOPE_EXPORTS, Sort}
use Rattle.area.specs.Subs.{Sub, subs_from}
use Rattle.area.specs.SubsLaws.{Inside, subs_inside}
use Rattle.find.specs.Find.{same}
use Rattle.body.specs.Lines.{line_head_size, line_head}
use Rattle.reading.specs.Reading.{Items, lines_items, checksums_items, inlinees_items, imports_items, exports_items, items_of, sub_items, reading}
use Rattle.reading.specs.Reading as reading
use Rattle.reading_record.specs.Item.{item_of}
use Rattle.reading_record.specs.Record.{ItemAnswer}
use Rattle.reading_record.proofs.RecordsLaws.{records_from, meant, first_at, shown, records_mean}
use Rattle.reading_record.specs.declared.ItemWalk.TheVariants as walk
use Rattle.reading_record.specs.declared.TypedBody.{TypedBody}
use Rattle.reading_record.specs.declared.TypedBody.TheVariants as typed
use Rattle.reading_walk.specs.Step.{lines_opened, inlinees_opened, exports_opened, opened, item_step}
use Rattle.reading_walk.proofs.WalkLaws.{opened_items, items_at, from_subs, items_are}

module _ (rule : ℕ → Sort) (s : List ℕ) where
  -- ---- a subsection's items are what its body is read as

  abbrev opens : ItemAnswer → Items
  opens a = shown s (opened_items rule s a)

  module _ (start : ℕ) (b : List ℕ) (here : b ≡ take (length b) (drop start s)) where
    into : (k : TypedBody) → first_at k ≤ length b → shown s (records_from k (take (length b) (drop start s)) start (first_at k)) ≡ meant k b
    into k h = ap (λ (x : List ℕ). shown s (records_from k x start (first_at k))) (sym here) ∙ records_mean s start b here k h

    lines_mean : opens (lines_opened b start) ≡ lines_items b
    unfolding lines_opened lines_items
    lines_mean =
        both_ways opens (ltb (length b) line_head_size) (λ e. refl)
        (λ e. ap (more (reading.open_lines (line_head b))) (into typed.Lines (ltb-false (length b) line_head_size e)))

    inlinees_mean : opens (inlinees_opened b start) ≡ inlinees_items b
    unfolding inlinees_opened inlinees_items
    inlinees_mean =
        both_ways opens (ltb (length b) 4) (λ e. refl)
        (λ e. ap (more (reading.open_inlinees (u32_at b 0))) (into typed.Inlinees (ltb-false (length b) 4 e)))

    exports_mean : opens (exports_opened b start) ≡ exports_items b
    unfolding exports_opened exports_items
    exports_mean = both_ways opens (eqb (length b % 8) 0) (λ e. ap (more reading.open_exports) (into typed.Exports (omega arith))) (λ e. refl)

    opened_mean : (kind end : ℕ) → opens (opened b kind start end) ≡ items_of (record { kind = kind; body = b })
    unfolding opened items_of checksums_items imports_items
    opened_mean kind end =
        both_ways opens (eqb kind LINES) (λ e. lines_mean)
        (λ e. both_ways opens (eqb kind FILE_CHECKSUMS) (λ e. ap (more reading.open_checksums) (into typed.Checksums (omega arith)))
        (λ e. both_ways opens (eqb kind INLINEE_LINES) (λ e. inlinees_mean)
        (λ e. both_ways opens (eqb kind CROSS_SCOPE_IMPORTS) (λ e. ap (more reading.open_imports) (into typed.Imports (omega arith)))
        (λ e. both_ways opens (eqb kind CROSS_SCOPE_EXPORTS) (λ e. exports_mean)
        (λ e. ap (λ (x : List ℕ). more (reading.opaque kind x) ends) (sym here))))))

  -- ---- the items of all subsections are the reading

  sub_means : (b : Sub) → Inside (length s) b → shown s (items_at rule s b) ≡ sub_items s b
  sub_means b h =
      let body : List ℕ = take b.len (drop b.start s) in
      let n : length body ≡ b.len = length-take-le b.len (drop b.start s) (omega (arith, length-drop b.start s)) in
      opened_mean b.start body (ap (λ (k : ℕ). take k (drop b.start s)) (sym n)) b.kind (b.start + b.len)

  -- THE THEOREM: the items from the area's start on are the full reading
  pub items_read : mapped (item_of s) same (from_subs rule s 0) ≡ reading rule s
  unfolding reading
  items_read =
      map_spread (item_of s) (items_at rule s) (subs_from rule s 0)
      ∙ spread_every (Inside (length s)) (λ (b : Sub). shown s (items_at rule s b)) (sub_items s) sub_means (subs_from rule s 0) (subs_inside rule s 0)

-- the replies that a listing asks for, under a map of its records
replies_map : {B C R : Type 0} (f : B → C) (n : ℕ) (l : Listing B R)
    → map (map_reply f (λ (r : R). r)) (replies n l) ≡ replies n (mapped f (λ (r : R). r) l)
unfolding replies
replies_map f zero l = refl
replies_map f (suc n) (more b l) = ap (λ (x : List (Reply _ _)). gave (f b) ∷ x) (replies_map f n l)
replies_map f (suc n) ends = ap (λ (x : List (Reply _ _)). nothing ∷ x) (replies_map f n ends)
replies_map f (suc n) (fails r) = ap (λ (x : List (Reply _ _)). refused r ∷ x) (replies_map f n (fails r))

-- THE WALK: n steps from a new walk on, each at the state that the step before handed on, answer the items of the full reading in order, and then
-- the end, or the same refusal, again and again
pub walk_reads : (rule : ℕ → Sort) (s : List ℕ) (n : ℕ)
    → map (map_reply (item_of s) same) (calls (item_step rule s) n (walk.Between 0)) ≡ replies n (reading rule s)
walk_reads rule s n =
    ap (map (map_reply (item_of s) same)) (items_are rule s n (walk.Between 0))
    ∙ replies_map (item_of s) n (from_subs rule s 0)
    ∙ ap (replies n) (items_read rule s)
