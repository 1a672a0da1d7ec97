-- Laws of the files of an area: a law for each way out of the code, the walk, the file at an index, and what the files are in the bytes.
use Prim.Native.Nat.{ℕ, ◌+◌, ◌-◌, ◌≤◌, ◌<◌}
use Rattle.std.specs.Prelude.{◌≡◌, refl, List, drop, ltb}
use Rattle.std.proofs.Math.Path.{sym, ap, subst⁻¹}
use Rattle.std.proofs.Common.{◌∙◌}
use native.Mathlib.Omega.{arith}
use Rattle.std.proofs.Math.ListN.{length, take, length-take, length-drop}
use Rattle.std.proofs.Math.Seq.{length-take-le}
use Rattle.word.specs.PartLaws.{part_bytes}
use Rattle.walk.specs.Cases.{tests, by_cases}
use Rattle.walk.specs.Listing.{Listing, mapped, Answer, gives, none, refuses, Reply, gave, nothing, refused, calls, replies}
use Rattle.walk.specs.ListingLaws.{Every}
use Rattle.walk.specs.Pick.{map_reply, on_gave}
use Rattle.refusal.specs.Told.{Told, told, longest}
use Rattle.refusal.specs.declared.Refusal.TheVariants as why
use Rattle.kinds.specs.Kind.{FILE_CHECKSUMS, Sort}
use Rattle.find.specs.Find.{same, Span, last_sub, bytes_at}
use Rattle.table.specs.Table.{Place, spot_in, spot_of, shifted, read_at, table_of, of_body}
use Rattle.table.specs.StepLaws.{Steps, steps}
use Rattle.table.specs.TableLaws.{Finds, Inside, in_inside, spot_lies, spot_inside, last_finds, table_walk_lem}
use Rattle.table.specs.WholeLaws.{mapped_every, table_means}
use Rattle.table.specs.declared.TableWalk.{TableWalk}
use Rattle.table.specs.declared.TableWalk.TheVariants as walk
use Rattle.body.specs.Checksums.{Checksum, checksums}
use Rattle.checksums.specs.Entry.{Entry, entry_at, entries_from, shown}
use Rattle.checksums.specs.Entry as entry
use Rattle.checksums.specs.EntryLaws.{EntryWithin, entry_within, entry_none, entry_lies, entries_step, entries_mean, In, entries_in, Stands, entries_stand}
use Rattle.lines.specs.Lines.{count_lines}
use Rattle.files.specs.Files.{File, entry_moved, file_of, files_sub, file_step, files_in}
use Rattle.files.specs.Files.{at_index, file_in, or_empty, checksum_part, file_in_part, file_at, held, part_of, file_spelt}

-- ---- the checksum body

module _ (rule : ℕ → Sort) (s : List ℕ) where
  pub body_passed : (n : ℕ) → gave n ≡ count_lines rule s → last_sub rule FILE_CHECKSUMS s ≡ files_sub rule s
  unfolding files_sub
  body_passed n e = ap (on_gave (λ (n : ℕ). last_sub rule FILE_CHECKSUMS s)) e

  pub body_refused : (t : Told) → refused t ≡ count_lines rule s → refused t ≡ files_sub rule s
  unfolding files_sub
  body_refused t e = ap (on_gave (λ (n : ℕ). last_sub rule FILE_CHECKSUMS s)) e

  -- what is found lies in the area
  pub files_finds : Finds s (files_sub rule s)
  unfolding files_sub
  files_finds = by (count_lines rule s)
    where
      by : (x : Reply ℕ Told) → Finds s (on_gave (λ (n : ℕ). last_sub rule FILE_CHECKSUMS s) x)
      by (gave n) = last_finds rule FILE_CHECKSUMS s
      by nothing = tt
      by (refused t) = tt

  pub body_in_lem : (a : Span) → gave a ≡ files_sub rule s → a.start + a.len ≤ length s
  body_in_lem a e = (subst⁻¹ (Finds s) e files_finds).0

-- ---- a walk

pub file_steps : (rule : ℕ → Sort) (s : List ℕ) (w : TableWalk) → Steps entry_at file_of (files_sub rule s) s w (file_step rule s w)
unfolding file_step
file_steps rule s w = steps entry_at file_of (files_sub rule s) s w (files_finds rule s)

-- an entry, its index being its place
pub file_entry : (start len at : ℕ) (b : List ℕ) (e : Entry) (x : ℕ) (out : Answer TableWalk File Told) → gives e x ≡ entry_at b at
    → shifted file_of start len (gives e x) ≡ out → gives (record { index = at; info = entry_moved start e }) (walk.In start len x) ≡ out
file_entry start len at b e x out l q =
    let i : at ≡ e.start - 6 = omega (arith, entry_lies b at e x l) in
    (λ j. gives (record { index = i j; info = entry_moved start e }) (walk.In start len x)) ∙ q

-- where a step leads: on in its body, which lies in an area that is not too long; the bytes of its file stand before that place
pub record Leads (s : List ℕ) (f : File) (t : TableWalk) : Type 0 where
  pub start : ℕ
  pub len : ℕ
  pub at : ℕ
  pub is : t ≡ walk.In start len at
  pub lies : start + len ≤ length s
  pub short : length s ≤ longest
  pub inside : at ≤ len
  pub bytes : f.info.start + f.info.len ≤ start + at

abbrev Led : List ℕ → Answer TableWalk File Told → Type 0
Led s (gives f t) = Leads s f t
Led s none = Unit {0}
Led s (refuses t) = Unit {0}

module _ (rule : ℕ → Sort) (s : List ℕ) where
  step_led : (w : TableWalk) → Led s (file_step rule s w)
  unfolding file_step
  step_led w = by (spot_of (files_sub rule s) s w) (spot_lies s (files_sub rule s) (files_finds rule s) w)
    where
      read : (q : Place) → Inside s (gave q) → (a : Answer ℕ Entry Told) → EntryWithin (length (take q.len (drop q.start s))) q.at a
          → Led s (shifted file_of q.start q.len a)
      read q h (gives e x) l =
          let n = length-take q.len (drop q.start s) in
          record { start = q.start; len = q.len; at = x; is = refl; lies = h.0; short = h.1; inside = omega arith; bytes = omega arith }
      read q h none l = tt
      read q h (refuses t) l = tt

      by : (x : Reply Place Told) → Inside s x → Led s (read_at entry_at file_of s x)
      by (gave q) h = let b = take q.len (drop q.start s) in read q h (entry_at b q.at) (entry_within b q.at)
      by nothing h = tt
      by (refused t) h = tt

  pub file_leads : (w : TableWalk) (f : File) (t : TableWalk) → gives f t ≡ file_step rule s w → Leads s f t
  file_leads w f t e = subst⁻¹ (Led s) e (step_led w)

  -- at the end of a body there is no file
  pub file_over : (start len : ℕ) → start + len ≤ length s → length s ≤ longest → file_step rule s (walk.In start len len) ≡ none
  unfolding file_step
  file_over start len h m =
      let b = take len (drop start s) in
      let n : length b ≡ len = length-take-le len (drop start s) (omega (arith, length-drop start s)) in
      ap (read_at entry_at file_of s) (sym (spot_inside s start len len m h))
      ∙ ap (shifted file_of start len) (sym (entry_none b len (omega arith) (omega arith)))

-- THE WALK: n calls from a new walk on answer the files in order, and then the end, or the same refusal, again and again
pub files_walk : (rule : ℕ → Sort) (s : List ℕ) (n : ℕ) → calls (file_step rule s) n walk.New ≡ replies n (files_in rule s)
unfolding file_step
files_walk rule s n = table_walk_lem entry_at file_of entries_from entries_step s (files_sub rule s) (files_finds rule s) n

-- ---- the file at an index

-- of a body that is lent alone
module _ (b : List ℕ) (i : ℕ) where
  pub in_long : longest < length b → refused (told why.TooLong) ≡ file_in b i
  unfolding file_in
  in_long h = simp tests

  pub in_read : length b ≤ longest → (u : Answer ℕ Entry Told) → u ≡ entry_at b i → at_index i u ≡ file_in b i
  unfolding file_in
  in_read h u e = ap (at_index i) e ∙ sym (simp tests)

  -- the bytes of its checksum lie in the body
  abbrev InfoIn : Reply Entry Told → Type 0
  InfoIn (gave f) = f.start + f.len ≤ length b
  InfoIn nothing = Unit {0}
  InfoIn (refused t) = Unit {0}

  pub in_lies : (f : Entry) → gave f ≡ file_in b i → f.start + f.len ≤ length b
  unfolding file_in
  in_lies f e =
      subst⁻¹ InfoIn e
      (by_cases InfoIn (ltb longest (length b)) (λ t. tt) (λ t. by (entry_at b i) (entry_within b i)))
    where
      by : (u : Answer ℕ Entry Told) → EntryWithin (length b) i u → InfoIn (at_index i u)
      by (gives e x) l = omega arith
      by none l = tt
      by (refuses t) l = tt

-- of the body of len bytes at start, a part of the area
module _ (s : List ℕ) (start len i : ℕ) where
  pub part_read : (k : ℕ) (u : Reply Entry Told) → u ≡ file_in (take k (drop start s)) i → k ≡ len
      → map_reply (entry_moved start) same u ≡ file_in_part s i (gave (record { start = start; len = len }))
  part_read k u e ek = ap (map_reply (entry_moved start) same) (e ∙ ap (λ (j : ℕ). file_in (take j (drop start s)) i) ek)

  pub part_lies : start + len ≤ length s → (k : ℕ) (f : Entry) → gave f ≡ file_in (take k (drop start s)) i → k ≡ len → start + f.start ≤ length s
  part_lies h k f e ek = omega (arith, in_lies (take k (drop start s)) i f e, length-take k (drop start s))

-- the part that is the checksum body, by what was found
module _ (rule : ℕ → Sort) (s : List ℕ) where
  pub part_found : (a : Span) → gave a ≡ files_sub rule s → gave a ≡ checksum_part rule s
  unfolding checksum_part
  part_found a e = ap or_empty e

  pub part_none : nothing ≡ files_sub rule s → gave (record { start = 0; len = 0 }) ≡ checksum_part rule s
  unfolding checksum_part
  part_none e = ap or_empty e

  pub part_refused : (t : Told) → refused t ≡ files_sub rule s → refused t ≡ checksum_part rule s
  unfolding checksum_part
  part_refused t e = ap or_empty e

  -- it lies in the area, and is not too long
  abbrev PartIn : Reply Span Told → Type 0
  PartIn (gave a) = (a.start + a.len ≤ length s) × (a.len ≤ longest)
  PartIn nothing = Unit {0}
  PartIn (refused t) = Unit {0}

  pub part_in_area : (a : Span) → gave a ≡ checksum_part rule s → (a.start + a.len ≤ length s) × (a.len ≤ longest)
  unfolding checksum_part
  part_in_area a e = subst⁻¹ PartIn e (by (files_sub rule s) (files_finds rule s))
    where
      by : (x : Reply Span Told) → Finds s x → PartIn (or_empty x)
      by (gave a) h = (h.0, omega arith)
      by nothing h = (omega arith, omega arith)
      by (refused t) h = tt

module _ (rule : ℕ → Sort) (s : List ℕ) (i : ℕ) where
  -- THE LAW: on the part that is the checksum body `file_in` answers what `file_at` answers, but for the place, which counts from the part's start
  pub file_in_lem : (a : Span) → gave a ≡ checksum_part rule s → map_reply (entry_moved a.start) same (file_in (bytes_at s a) i) ≡ file_at rule s i
  unfolding file_at
  file_in_lem a e = ap (file_in_part s i) e

  pub file_refused : (t : Told) → refused t ≡ checksum_part rule s → refused t ≡ file_at rule s i
  unfolding file_at
  file_refused t e = ap (file_in_part s i) e

-- the index of each file of a walk finds that file
pub files_indexed : (rule : ℕ → Sort) (s : List ℕ) → Every (λ (f : File). file_at rule s f.index ≡ gave f.info) (files_in rule s)
unfolding file_at checksum_part
files_indexed rule s = by (files_sub rule s) (files_finds rule s)
  where
    by : (x : Reply Span Told) → Finds s x
        → Every (λ (f : File). file_in_part s f.index (or_empty x) ≡ gave f.info) (table_of (λ (b : List ℕ). entries_from b 0) file_of s x)
    by (gave a) h =
        let b = bytes_at s a in
        let short : length b ≤ longest = omega (arith, length-take a.len (drop a.start s)) in
        mapped_every (Stands b) (file_of a.start) (λ (f : File). file_in_part s f.index (gave a) ≡ gave f.info)
        (λ e q. ap (map_reply (entry_moved a.start) same) (sym (in_read b (e.start - 6) short _ q.is))) (entries_from b 0) (entries_stand b 0)
    by nothing h = tt
    by (refused t) h = tt

-- ---- the bytes of a checksum

pub part_in : (s : List ℕ) (start len : ℕ) (o : Place) → gave o ≡ spot_in s start len 0 → o.start + o.len ≤ length s
part_in s start len o e = (subst⁻¹ (Inside s) e (in_inside s start len 0)).0

-- a part that lies in an area
pub part_inside : (s : List ℕ) (start len : ℕ) → length s ≤ longest → start + len ≤ length s → part_of s start len ≡ record { start = start; len = len }
unfolding part_of
part_inside s start len m h = ap held (sym (spot_inside s start len 0 m h))

-- THE THEOREM: the files of an area, with their checksums' bytes as `checksum_bytes` hands them back, are what the bytes of its last checksum body
-- say, but for what kind 0 drops
pub files_mean : (rule : ℕ → Sort) (s : List ℕ)
    → mapped (file_spelt s) same (files_in rule s) ≡ of_body (λ (b : List ℕ). mapped shown same (checksums b)) (map_reply (bytes_at s) same (files_sub rule s))
files_mean rule s =
    table_means (λ (b : List ℕ). entries_from b 0) file_of In (λ b. entries_in b 0) s file_spelt entry.entry_spelt moves (files_sub rule s) (files_finds rule s)
    ∙ ap (λ (f : List ℕ → Listing Checksum Told). of_body f (map_reply (bytes_at s) same (files_sub rule s))) (λ i b. entries_mean b i)
  where
    moves : (start n : ℕ) (e : Entry) → start + n ≤ length s → length s ≤ longest → In n e → file_spelt s (file_of start e) ≡ entry.entry_spelt (take n (drop start s)) e
    moves start n e h m q =
        let bytes : bytes_at s (part_of s (start + e.start) e.len) ≡ take e.len (drop e.start (take n (drop start s)))
        = ap (bytes_at s) (part_inside s (start + e.start) e.len m (omega arith))
        ∙ part_bytes s start n e.start e.len q in
        λ i. record { name = e.name; kind = e.kind; bytes = bytes i }
