-- Laws of a record, one for each way out of the code: what a body's own crate answers, handed on as an item.
use Rattle.std.specs.Prelude.{ℕ, ◌+◌, ◌-◌, ◌*◌, ◌≤◌, ◌≡◌, List, Bool, length, take, drop, get_or}
use Rattle.std.proofs.Common.{sym, ap, ◌∙◌, arith, length-take, length-drop, length-take-le}
use Rattle.std.proofs.Math.Path.{subst⁻¹}
use Rattle.walk.specs.Listing.{Answer, gives, Reply, gave}
use Rattle.refusal.specs.Told.{Told, longest}
use Rattle.table.specs.Table.{Place, spot_in}
use Rattle.table.specs.TableLaws.{Inside, in_inside}
use Rattle.lines.specs.Blocks.{LineBlock, block_at}
use Rattle.checksums.specs.Entry.{Entry, entry_at}
use Rattle.reading_record.specs.Item.{ToldColumns, ToldItem, block, checksum}
use Rattle.reading_record.specs.Record.{ItemAnswer, as_item, with_columns, columns_from, block_item, checksum_item, record_at, in_walk, record_in_body}
use Rattle.reading_record.specs.declared.ItemWalk.TheVariants as walk
use Rattle.reading_record.specs.declared.TypedBody.{TypedBody}
use Rattle.reading_record.specs.declared.TypedBody.TheVariants as typed

-- the record at a place of a body that is lent whole, which starts at start
abbrev pub record_of : TypedBody → List ℕ → ℕ → ℕ → ItemAnswer
record_of k b start at = in_walk k start (length b) (record_at k b start at)

-- THE LAW of every kind of body: x is the answer that was given, r what the code has in hand, and `tell` what it tells
pub hands : {E B : Type 0} (k : TypedBody) (start len : ℕ) (tell : E → Answer ℕ B Told) (f : B → ToldItem) {x r : E} {a : Answer ℕ B Told} → x ≡ r → tell x ≡ a
    → in_walk k start len (as_item f (tell r)) ≡ in_walk k start len (as_item f a)
hands k start len tell f e q = ap (λ (y : Answer _ _ _). in_walk k start len (as_item f y)) (ap tell (sym e) ∙ q)

module _ (b : List ℕ) (start at : ℕ) where
  -- a block, under the columns c that the code has read
  pub block_is : (a : Answer ℕ LineBlock Told) (c : Bool) → a ≡ block_at c b at → c ≡ with_columns b
      → in_walk typed.Lines start (length b) (as_item (block_item b start) a) ≡ record_of typed.Lines b start at
  block_is a c e ec =
      ap (λ (y : Answer ℕ LineBlock Told). in_walk typed.Lines start (length b) (as_item (block_item b start) y)) (e ∙ ap (λ (x : Bool). block_at x b at) ec)

  -- its columns as the code tells them
  pub block_gives : (k : LineBlock) (x : ℕ) (c : Bool) (d : ToldColumns) → gives k x ≡ block_at c b at → c ≡ with_columns b
      → d ≡ columns_from c (start + k.start + 8 * k.count)
      → gives (block k.file k.count (start + k.start) d) (walk.In typed.Lines start (length b) x) ≡ record_of typed.Lines b start at
  block_gives k x c d q ec ed =
      ap (λ (y : ToldColumns). gives (block k.file k.count (start + k.start) y) (walk.In typed.Lines start (length b) x))
      (ed ∙ ap (λ (y : Bool). columns_from y (start + k.start + 8 * k.count)) ec)
      ∙ block_is (gives k x) c q ec

  pub checksum_is : (a : Answer ℕ Entry Told) → a ≡ entry_at b at
      → in_walk typed.Checksums start (length b) (as_item (checksum_item b start) a) ≡ record_of typed.Checksums b start at
  checksum_is a e = ap (λ (y : Answer ℕ Entry Told). in_walk typed.Checksums start (length b) (as_item (checksum_item b start) y)) e

  -- a checksum, its kind and its size as the code reads them
  pub checksum_gives : (e : Entry) (x k n : ℕ) → gives e x ≡ entry_at b at → k ≡ e.kind → n ≡ get_or b (e.start - 2) 0
      → gives (checksum e.name k (start + e.start) n) (walk.In typed.Checksums start (length b) x) ≡ record_of typed.Checksums b start at
  checksum_gives e x k n q ek en =
      (λ i. gives (checksum e.name (ek i) (start + e.start) (en i)) (walk.In typed.Checksums start (length b) x))
      ∙ checksum_is (gives e x) q

  -- of the kind j that a body k is
  pub record_of_lem : (k j : TypedBody) (a : ItemAnswer) → k ≡ j → a ≡ record_of j b start at → a ≡ record_of k b start at
  record_of_lem k j a e q = q ∙ ap (λ (x : TypedBody). record_of x b start at) (sym e)

-- ---- the body that is lent: q is where it was found to lie, and it is lent n long

module _ (s : List ℕ) (start len at : ℕ) where
  pub spot_lies : (q : Place) → gave q ≡ spot_in s start len at → (q.start + q.len ≤ length s) × (length s ≤ longest)
  spot_lies q e = subst⁻¹ (Inside s) e (in_inside s start len at)

  pub lent_fits : (q : Place) (n : ℕ) → gave q ≡ spot_in s start len at → n ≡ q.len → q.start + length (take n (drop q.start s)) ≤ longest
  lent_fits q n e en = omega (arith, length-take n (drop q.start s), spot_lies q e)

  pub lent_is : (k : TypedBody) (q : Place) (n : ℕ) (a : ItemAnswer) → gave q ≡ spot_in s start len at → n ≡ q.len
      → a ≡ record_of k (take n (drop q.start s)) q.start q.at → a ≡ record_in_body s k (spot_in s start len at)
  lent_is k q n a e en h =
      let m : length (take q.len (drop q.start s)) ≡ q.len = length-take-le q.len (drop q.start s) (omega (arith, length-drop q.start s, spot_lies q e)) in
      h
      ∙ ap (λ (j : ℕ). record_of k (take j (drop q.start s)) q.start q.at) en
      ∙ ap (λ (j : ℕ). in_walk k q.start j (record_at k (take q.len (drop q.start s)) q.start q.at)) m
      ∙ ap (record_in_body s k) e

  pub other_is : (k : TypedBody) (x : Reply Place Told) → x ≡ spot_in s start len at → record_in_body s k x ≡ record_in_body s k (spot_in s start len at)
  other_is k x e = ap (record_in_body s k) e
