-- Laws of the entries of a checksum body: a law for each way out of the code, one step of the whole, and what the entries are in the bytes.
use Prim.Native.Nat.{ℕ, ◌+◌, ◌-◌, ◌%◌, ◌<◌, ◌≤◌}
use Rattle.std.proofs.Math.Path.{◌≡◌, refl, ap, subst⁻¹}
use Rattle.std.proofs.Common.{sym, ◌∙◌, arith, add-zero, length-drop, drop-drop}
use Rattle.std.specs.Prelude.{List, [], Bool, true, false, cond, take, drop, ltb, eqb}
use Rattle.std.proofs.Math.ListN.{length, get_or}
use Rattle.std.proofs.Math.Seq.{get_or-drop}
use borrow.Author.Tests.{lt-ltb, le-ltb, ltb-true, ltb-false, eqb-true}
use Rattle.word.specs.Word.{u32_at}
use Rattle.word.specs.WordLaws.{u32_drop}
use Rattle.walk.specs.Cases.{by_cases, tests}
use Rattle.walk.specs.Listing.{Move, Listing, more, mapped, on_move, moved, Answer, gives, none, refuses, Reply, gave, refused, calls, replies}
use Rattle.walk.specs.ListingLaws.{To, Holds, Every, all_step, all_ind, all_every, calls_are}
use Rattle.walk.specs.WithinLaws.{Within, within_falls, within_holds}
use Rattle.refusal.specs.Told.{Told, told}
use Rattle.refusal.specs.declared.Refusal.TheVariants as why
use Rattle.body.specs.Checksums.{Checksum, up4, checksum_bite, checksums}
use Rattle.checksums.specs.Entry.{Entry, checksum_kind, kept_of, closed_as, entry_at, entries_from, entry_spelt, shown}

-- ---- the tests of `parse_kind` and `kept`

module _ (k : ℕ) where
  pub kind_known : k ≤ 3 → (j : ℕ) → j ≡ k → gave j ≡ checksum_kind k
  unfolding checksum_kind
  kind_known h j e = simp (tests, e)

  pub kind_unknown : 3 < k → refused (told (why.UnknownChecksumKind k)) ≡ checksum_kind k
  unfolding checksum_kind
  kind_unknown h = simp tests

  -- what its answer says
  pub kind_gave : (j : ℕ) → gave j ≡ checksum_kind k → (j ≡ k) × (k ≤ 3)
  unfolding checksum_kind
  kind_gave j = by_cases (λ (x : Reply ℕ Told). gave j ≡ x → (j ≡ k) × (k ≤ 3)) (ltb 3 k)
      (λ a e. let z : ◌≡◌ {A = ℕ} 0 1 = cc in absurd (omega arith))
      (λ a e. (cc, ltb-false 3 k a))

  pub kind_refused : (t : Told) → refused t ≡ checksum_kind k → (t ≡ told (why.UnknownChecksumKind k)) × (3 < k)
  unfolding checksum_kind
  kind_refused t = by_cases (λ (x : Reply ℕ Told). refused t ≡ x → (t ≡ told (why.UnknownChecksumKind k)) × (3 < k)) (ltb 3 k)
      (λ a e. (cc, ltb-true 3 k a))
      (λ a e. let z : ◌≡◌ {A = ℕ} 0 1 = cc in absurd (omega arith))

pub kept_none : (k n : ℕ) → k ≡ 0 → 0 ≡ kept_of k n
unfolding kept_of
kept_none k n h = simp tests

pub kept_all : (k n : ℕ) → (k ≡ 0 → ⊥) → n ≡ kept_of k n
unfolding kept_of
kept_all k n h = simp tests

-- ---- the tests of `closed`

module _ (m name kind start size : ℕ) where
  pub closed_kind : (t : Told) → refused t ≡ checksum_kind kind → refuses t ≡ closed_as m name kind start size
  unfolding closed_as
  closed_kind t e =
      let h = kind_refused kind t e in
      rw (lt-ltb 3 kind h.1) (ap refuses h.0)

  module _ (j : ℕ) (e : gave j ≡ checksum_kind kind) where
    pub closed_cut : m < up4 (start + size) → refuses (told why.Cut) ≡ closed_as m name kind start size
    unfolding closed_as
    closed_cut h = rw (le-ltb 3 kind (kind_gave kind j e).1, lt-ltb m (up4 (start + size)) h)

    pub closed_entry : up4 (start + size) ≤ m → (n : ℕ) → n ≡ kept_of j size
        → gives (record { name = name; kind = j; start = start; len = n }) (up4 (start + size)) ≡ closed_as m name kind start size
    unfolding closed_as
    closed_entry h n en =
        let q = kind_gave kind j e in
        rw (le-ltb 3 kind q.1, le-ltb m (up4 (start + size)) h, en, q.0)

-- ---- the tests of `entry_at`

module _ (b : List ℕ) (p : ℕ) where
  pub entry_past : length b < p → refuses (told why.Cut) ≡ entry_at b p
  unfolding entry_at
  entry_past h = simp tests

  module _ (h₁ : p ≤ length b) where
    pub entry_none : length b - p ≡ 0 → none ≡ entry_at b p
    unfolding entry_at
    entry_none h = simp tests

    module _ (h₂ : length b - p ≡ 0 → ⊥) where
      pub entry_short : length b - p < 6 → refuses (told why.Cut) ≡ entry_at b p
      unfolding entry_at
      entry_short h = simp tests

      module _ (h₃ : 6 ≤ length b - p) where
        pub entry_cut : length b - p - 6 < get_or b (p + 4) 0 → refuses (told why.Cut) ≡ entry_at b p
        unfolding entry_at
        entry_cut h = simp tests

        pub entry_closed : get_or b (p + 4) 0 ≤ length b - p - 6 → (i k n : ℕ) → i ≡ u32_at b p → k ≡ get_or b (p + 5) 0 → n ≡ get_or b (p + 4) 0
            → closed_as (length b) i k (p + 6) n ≡ entry_at b p
        unfolding entry_at
        entry_closed h i k n ei ek en = simp (tests, ei, ek, en)

-- ---- where an entry's numbers lie

abbrev pub EntryLies : ℕ → Entry → ℕ → Type 0
EntryLies p e x = (e.start ≡ p + 6) × (e.start + e.len ≤ x)

abbrev pub EntryWithin : ℕ → ℕ → Answer ℕ Entry Told → Type 0
EntryWithin m p a = Within 6 EntryLies m p (moved a)

kept_below : (k n : ℕ) → kept_of k n ≤ n
unfolding kept_of
kept_below k n = by_cases (λ (j : ℕ). j ≤ n) (eqb k 0) (λ e. omega arith) (λ e. omega arith)

closed_within : (m name kind p n : ℕ) → EntryWithin m p (closed_as m name kind (p + 6) n)
unfolding closed_as
closed_within m name kind p n =
    by_cases (EntryWithin m p) (ltb 3 kind) (λ e. tt)
    (λ e. by_cases (EntryWithin m p) (ltb m (up4 (p + 6 + n))) (λ f. tt) (λ f. ((refl, omega (arith, kept_below kind n)), omega arith, omega (arith, ltb-false))))

pub entry_within : (b : List ℕ) (p : ℕ) → EntryWithin (length b) p (entry_at b p)
unfolding entry_at
entry_within b p =
    by_cases (EntryWithin (length b) p) (ltb (length b) p) (λ a. tt)
    (λ a. by_cases (EntryWithin (length b) p) (eqb (length b - p) 0) (λ c. omega (arith, ltb-false, eqb-true))
    (λ c. by_cases (EntryWithin (length b) p) (ltb (length b - p) 6) (λ d. tt)
    (λ d. by_cases (EntryWithin (length b) p) (ltb (length b - p - 6) (get_or b (p + 4) 0)) (λ e. tt)
    (λ e. closed_within (length b) (u32_at b p) (get_or b (p + 5) 0) p (get_or b (p + 4) 0)))))

-- what an answer of `entry_at` says
pub entry_lies : (b : List ℕ) (p : ℕ) (e : Entry) (x : ℕ) → gives e x ≡ entry_at b p → EntryWithin (length b) p (gives e x)
entry_lies b p e x q = subst⁻¹ (EntryWithin (length b) p) q (entry_within b p)

-- ---- one step of the whole

falls : (b : List ℕ) (p : ℕ) → To (moved (entry_at b p)) (λ t. length b - t < length b - p)
falls b p = within_falls 6 EntryLies (length b) p (omega arith) (moved (entry_at b p)) (entry_within b p)

pub entries_step : (b : List ℕ) (p : ℕ) → entries_from b p ≡ on_move (entries_from b) (moved (entry_at b p))
unfolding entries_from
entries_step b p = all_step (λ (q : ℕ). moved (entry_at b q)) (λ (q : ℕ). length b - q) (falls b) p

-- each entry's bytes lie in the body
abbrev pub In : ℕ → Entry → Type 0
In n e = e.start + e.len ≤ n

pub entries_in : (b : List ℕ) (p : ℕ) → Every (In (length b)) (entries_from b p)
unfolding entries_from
entries_in b = all_every (λ (q : ℕ). moved (entry_at b q)) (λ (q : ℕ). length b - q) (falls b) (In (length b))
    (λ p. within_holds 6 EntryLies (length b) p (In (length b)) (λ e x w h. omega arith) (moved (entry_at b p)) (entry_within b p))

-- and the entry stands 6 before them
pub record Stands (b : List ℕ) (e : Entry) : Type 0 where
  pub next : ℕ
  pub is : gives e next ≡ entry_at b (e.start - 6)

pub entries_stand : (b : List ℕ) (p : ℕ) → Every (Stands b) (entries_from b p)
unfolding entries_from
entries_stand b = all_every (λ (q : ℕ). moved (entry_at b q)) (λ (q : ℕ). length b - q) (falls b) (Stands b) (λ p. by p (entry_at b p) refl)
  where
    by : (p : ℕ) (a : Answer ℕ Entry Told) → a ≡ entry_at b p → Holds (Stands b) (moved a)
    by p (gives e x) q =
        let w : e.start - 6 ≡ p = omega (arith, entry_lies b p e x q) in
        record { next = x; is = q ∙ ap (entry_at b) (sym w) }
    by p none q = tt
    by p (refuses t) q = tt

-- THE WALK: n calls of `entry_at`, each at the place that the call before handed on, answer the entries in order, and then the end, or the same
-- refusal, again and again
pub entries_are : (b : List ℕ) (n p : ℕ) → calls (entry_at b) n p ≡ replies n (entries_from b p)
entries_are b = calls_are (entry_at b) (entries_from b) (entries_step b)

-- ---- the entries are what the bytes of the body say

bite_falls : (s : List ℕ) → To (checksum_bite s) (λ t. length t < length s)
unfolding checksum_bite
bite_falls s =
    by_cases Falls (eqb (length s) 0) (λ a. tt)
    (λ a. by_cases Falls (ltb (length s) 6) (λ c. tt)
    (λ c. by_cases Falls (ltb (length s - 6) n) (λ d. tt)
    (λ d. by_cases Falls (ltb 3 (get_or s 5 0)) (λ e. tt)
    (λ e. by_cases Falls (ltb (length s) (up4 (6 + n))) (λ f. tt)
    (λ f. simp length-drop (omega (arith, ltb-false)))))))
  where
    n : ℕ
    n = get_or s 4 0

    Falls : Move (List ℕ) Checksum Told → Type 0
    Falls u = To u (λ t. length t < length s)

checksums_step : (s : List ℕ) → checksums s ≡ on_move checksums (checksum_bite s)
unfolding checksums
checksums_step s = all_step checksum_bite length bite_falls s

-- the bytes that are kept
kept_bytes : (k n : ℕ) (s : List ℕ) → take (kept_of k n) s ≡ cond (eqb k 0) [] (take n s)
unfolding kept_of
kept_bytes k n s = by (eqb k 0)
  where
    by : (t : Bool) → take (cond t 0 n) s ≡ cond t [] (take n s)
    by true = refl
    by false = refl

-- the entry whose head stands at p, as an answer tells it, and as its bytes say
abbrev pub entry_of : List ℕ → ℕ → Entry
entry_of b p = record { name = u32_at b p; kind = get_or b (p + 5) 0; start = p + 6; len = kept_of (get_or b (p + 5) 0) (get_or b (p + 4) 0) }

abbrev pub checksum_of : List ℕ → ℕ → Checksum
checksum_of b p = record { name = u32_at b p; kind = get_or b (p + 5) 0; bytes = take (get_or b (p + 4) 0) (drop (p + 6) b) }

-- f of an entry is g of its bytes, wherever its bytes are there
module _ (b : List ℕ) {C : Type 0} (f : Entry → C) (g : Checksum → C)
    (agrees : (p : ℕ) → p + 6 + get_or b (p + 4) 0 ≤ length b → f (entry_of b p) ≡ g (checksum_of b p)) where
  abbrev told_as : Listing Entry Told → Listing C Told
  told_as = mapped f (λ (t : Told). t)

  abbrev read_as : Listing Checksum Told → Listing C Told
  read_as = mapped g (λ (t : Told). t)

  -- from a place on that the padding leads to
  abbrev Same : ℕ → Listing Entry Told → Type 0
  Same p l = p ≤ length b → p % 4 ≡ 0 → told_as l ≡ read_as (checksums (drop p b))

  -- an answer at p, with the entries behind it, is a bite of the bytes from p on, with those behind it
  abbrev Turns : ℕ → Answer ℕ Entry Told → Type 0
  Turns p a =
      To (moved a) (λ t. Same t (entries_from b t))
      → told_as (on_move (entries_from b) (moved a)) ≡ read_as (on_move checksums (checksum_bite (drop p b)))

  turn : (p : ℕ) → p ≤ length b → p % 4 ≡ 0 → Turns p (entry_at b p)
  unfolding entry_at closed_as checksum_bite
  turn p inside aligned =
      by_cases (Turns p) (ltb (length b) p) (λ a. absurd (omega (arith, ltb-true)))
      (λ a. by_cases (Turns p) (eqb (length b - p) 0) (λ c h. simp (length-drop, c))
      (λ c. by_cases (Turns p) (ltb (length b - p) 6) (λ d h. simp (length-drop, c, d))
      (λ d. by_cases (Turns p) (ltb (length b - p - 6) n) (λ e h. simp (length-drop, get_or-drop, c, d, e))
      (λ e. by_cases (Turns p) (ltb 3 k) (λ j h. simp (length-drop, get_or-drop, c, d, e, j))
      (λ j. by_cases (Turns p) (ltb (length b) (up4 (p + 6 + n)))
      (λ q h. simp (length-drop, get_or-drop, c, d, e, j, lt-ltb (length b - p) (up4 (6 + n)) (omega (arith, ltb-true))))
      (λ q h. simp (length-drop, get_or-drop, c, d, e, j, le-ltb (length b - p) (up4 (6 + n)) (omega (arith, ltb-false)))
      (λ i. more (one (omega (arith, ltb-false)) i) (rest h (omega (arith, ltb-false)) i))))))))
    where
      n : ℕ
      n = get_or b (p + 4) 0

      k : ℕ
      k = get_or b (p + 5) 0

      word : u32_at b p ≡ u32_at (drop p b) 0
      word = sym (u32_drop b p 0 ∙ ap (u32_at b) (add-zero p))

      one : p + 6 + n ≤ length b → f (entry_of b p) ≡ g (record { name = u32_at (drop p b) 0; kind = k; bytes = take n (drop 6 (drop p b)) })
      one h = agrees p h ∙ (λ i. g (record { name = word i; kind = k; bytes = take n (sym (drop-drop 6 p b) i) }))

      -- the padding counts the same from p on, since p is a multiple of 4
      padded : up4 (p + 6 + n) ≡ p + up4 (6 + n)
      padded = omega arith

      rest : Same (up4 (p + 6 + n)) (entries_from b (up4 (p + 6 + n))) → up4 (p + 6 + n) ≤ length b
          → told_as (entries_from b (up4 (p + 6 + n))) ≡ read_as (checksums (drop (up4 (6 + n)) (drop p b)))
      rest h q =
          h q (omega arith)
          ∙ ap (λ (s : List ℕ). read_as (checksums s)) (ap (λ (i : ℕ). drop i b) padded ∙ sym (drop-drop (up4 (6 + n)) p b))

  -- THE THEOREM: the entries from the start on are those of the body
  pub entries_as : told_as (entries_from b 0) ≡ read_as (checksums b)
  unfolding entries_from
  entries_as =
      all_ind (λ (p : ℕ). moved (entry_at b p)) (λ (p : ℕ). length b - p) (falls b) Same
      (λ p h inside aligned. turn p inside aligned h ∙ ap read_as (sym (checksums_step (drop p b))))
      0 (omega arith) refl

-- so with their bytes they are those of the body, but for what kind 0 drops
pub entries_mean : (b : List ℕ) → mapped (entry_spelt b) (λ (t : Told). t) (entries_from b 0) ≡ mapped shown (λ (t : Told). t) (checksums b)
entries_mean b =
    entries_as b (entry_spelt b) shown
    (λ p h. λ i. record { name = u32_at b p; kind = get_or b (p + 5) 0; bytes = kept_bytes (get_or b (p + 5) 0) (get_or b (p + 4) 0) (drop (p + 6) b) i })
