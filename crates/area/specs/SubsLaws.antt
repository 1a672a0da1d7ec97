-- Laws of an area from a place on, as code reads it: one step (`head_at`), the whole, where its numbers lie, and the bodies at its places.
use Prim.Native.Nat.{ℕ, ◌+◌, ◌-◌, ◌<◌, ◌≤◌}
use Rattle.std.specs.Prelude.{◌≡◌, List, Bool, take, drop}
use Rattle.std.proofs.Math.Path.{refl, ap, subst⁻¹}
use Rattle.std.proofs.Common.{sym, ◌∙◌, arith, add_assoc, drop-drop, ltb-true, ltb-false}
use Rattle.std.proofs.Math.Bool.{true, false, cond}
use Rattle.std.proofs.Math.Nat.{add-zero}
use Rattle.std.proofs.Math.ListN.{length, length-drop}
use Rattle.std.proofs.Math.Seq.{length-take-le}
use Rattle.std.proofs.Math.Dec.{ltb}
use Rattle.word.specs.Word.{u32_at}
use Rattle.word.specs.WordLaws.{u32_drop}
use Rattle.walk.specs.Cases.{by_cases, tests}
use Rattle.walk.specs.Listing.{Move, item, pass, over, fail, Listing, more, ends, fails, gives, none, refuses, on_move, mapped, moved, all, calls, replies, Answer}
use Rattle.walk.specs.ListingLaws.{To, Holds, Every, every_map, all_ind, all_every, all_unique, calls_are}
use Rattle.walk.specs.WithinLaws.{Within, within_falls}
use Rattle.refusal.specs.Told.{Told, told, longest, number_of}
use Rattle.refusal.specs.declared.Refusal.TheVariants as why
use Rattle.area.specs.Parts.{Raw, Lack, Parts, bite, parts}
use Rattle.area.specs.PartsLaws.{parts_step, parts_ind, Bitten, bitten}
use Rattle.kinds.specs.Kind.{SYMBOLS, COFF_SYMBOL_RVA, IGNORE, Sort, known, skipped, unknown, on_sort, crate_rule}
use Rattle.kinds.proofs.KindLaws.{rule_range}
use Rattle.area.specs.Subs.{Sub, sub_of, placed, subs_from, first_of, step_at, bodies_in, bodies, place_behind, WalkStep, crate_step}
use Rattle.area.specs.Told.{told_step}

-- a whole subsection of kind k at p with n bytes of body
unfoldable pub whole_as : (ℕ → Sort) → ℕ → ℕ → ℕ → Move ℕ Sub Told
whole_as rule k p n =
    on_sort (rule k) (item (record { kind = k; start = p + 8; len = n }) (p + 8 + n)) (pass (p + 8 + n)) (fail (told (why.UnknownKind k)))

-- a bite at p, judged
abbrev pub judged : (ℕ → Sort) → ℕ → Move (List ℕ) Raw Lack → Move ℕ Sub Told
judged rule p (item r t) = whole_as rule r.kind p (length r.body)
judged rule p (pass t) = over
judged rule p over = over
judged rule p (fail c) = fail (told why.Cut)

-- what stands at p
unfoldable pub head_at : (ℕ → Sort) → List ℕ → ℕ → Move ℕ Sub Told
head_at rule s p =
    cond (ltb longest (length s)) (fail (told why.TooLong))
    (cond (ltb (length s) p) (fail (told why.Cut)) (judged rule p (bite (drop p s))))

-- ---- the tests of the code: a law for each way out of `whole` and of `head_at`

module _ (k p n : ℕ) where
  pub whole_low : k < SYMBOLS → (k ≡ IGNORE → ⊥) → fail (told (why.UnknownKind k)) ≡ whole_as crate_rule k p n
  unfolding whole_as
  whole_low h d = simp (rule_range, tests)

  module _ (h₁ : SYMBOLS ≤ k) where
    pub whole_known : k ≤ COFF_SYMBOL_RVA → item (record { kind = k; start = p + 8; len = n }) (p + 8 + n) ≡ whole_as crate_rule k p n
    unfolding whole_as
    whole_known h = simp (rule_range, tests)

    module _ (h₂ : COFF_SYMBOL_RVA < k) where
      pub whole_skipped : k ≡ IGNORE → pass (p + 8 + n) ≡ whole_as crate_rule k p n
      unfolding whole_as
      whole_skipped h = simp (rule_range, tests)

      pub whole_high : (k ≡ IGNORE → ⊥) → fail (told (why.UnknownKind k)) ≡ whole_as crate_rule k p n
      unfolding whole_as
      whole_high h = simp (rule_range, tests)

module _ (rule : ℕ → Sort) (s : List ℕ) (p : ℕ) where
  pub head_long : longest < length s → fail (told why.TooLong) ≡ head_at rule s p
  unfolding head_at
  head_long h = simp tests

  module _ (h₀ : length s ≤ longest) where
    pub head_past : length s < p → fail (told why.Cut) ≡ head_at rule s p
    unfolding head_at
    head_past h = simp tests

    module _ (h₁ : p ≤ length s) where
      pub head_end : length s - p ≡ 0 → over ≡ head_at rule s p
      unfolding head_at bite
      head_end h = simp (length-drop, tests)

      module _ (h₂ : length s - p ≡ 0 → ⊥) where
        pub head_short : length s - p < 8 → fail (told why.Cut) ≡ head_at rule s p
        unfolding head_at bite
        head_short h = simp (length-drop, tests)

        module _ (h₃ : 8 ≤ length s - p) where
          pub head_cut : length s - p - 8 < u32_at s (p + 4) → fail (told why.Cut) ≡ head_at rule s p
          unfolding head_at bite
          head_cut h = simp (length-drop, u32_drop, tests)

          pub head_whole : u32_at s (p + 4) ≤ length s - p - 8 → (k n : ℕ) → k ≡ u32_at s p → n ≡ u32_at s (p + 4)
              → whole_as rule k p n ≡ head_at rule s p
          unfolding head_at bite
          head_whole h k n ek en =
              let e : length (take (u32_at s (p + 4)) (drop 8 (drop p s))) ≡ u32_at s (p + 4)
              = length-take-le (u32_at s (p + 4)) (drop 8 (drop p s)) (simp length-drop (omega arith)) in
              simp (length-drop, u32_drop, add-zero, tests, e, ek, en)

-- ---- one step of the whole

pub subs_long : (rule : ℕ → Sort) (s : List ℕ) (p : ℕ) → longest < length s → subs_from rule s p ≡ fails (told why.TooLong)
unfolding subs_from
subs_long rule s p h = simp tests

pub subs_past : (rule : ℕ → Sort) (s : List ℕ) (p : ℕ) → length s ≤ longest → length s < p → subs_from rule s p ≡ fails (told why.Cut)
unfolding subs_from
subs_past rule s p m h = simp tests

pub subs_in : (rule : ℕ → Sort) (s : List ℕ) (p : ℕ) → length s ≤ longest → p ≤ length s → subs_from rule s p ≡ placed rule p (parts (drop p s))
unfolding subs_from
subs_in rule s p m h = simp tests

turn : (rule : ℕ → Sort) (s : List ℕ) (p : ℕ) → length s ≤ longest → p ≤ length s → (u : Move (List ℕ) Raw Lack) → Bitten (drop p s) u
    → placed rule p (on_move parts u) ≡ on_move (subs_from rule s) (judged rule p u)
unfolding placed whole_as
turn rule s p m h (item r t) w = by (rule r.kind)
  where
    n : ℕ
    n = length r.body

    room : p + 8 + n ≤ length s
    room = omega (arith, length-drop p s)

    rest : placed rule (p + 8 + n) (parts t) ≡ subs_from rule s (p + 8 + n)
    rest =
        ap (λ (x : List ℕ). placed rule (p + 8 + n) (parts x)) (w.4 ∙ drop-drop (8 + n) p s ∙ ap (λ (i : ℕ). drop i s) (sym (add_assoc p 8 n)))
        ∙ sym (subs_in rule s (p + 8 + n) m room)

    by : (o : Sort)
        → on_sort o (more (sub_of p r) (placed rule (p + 8 + n) (parts t))) (placed rule (p + 8 + n) (parts t)) (fails (told (why.UnknownKind r.kind)))
        ≡ on_move (subs_from rule s) (on_sort o (item (sub_of p r) (p + 8 + n)) (pass (p + 8 + n)) (fail (told (why.UnknownKind r.kind))))
    by known = ap (more (sub_of p r)) rest
    by skipped = rest
    by unknown = refl
turn rule s p m h (pass t) w = absurd w
turn rule s p m h over w = refl
turn rule s p m h (fail c) w = refl

-- THE THEOREM for code: what stands at p, then what stands behind it, and so on, is the meaning with its places
pub subs_step_lem : (rule : ℕ → Sort) (s : List ℕ) (p : ℕ) → subs_from rule s p ≡ on_move (subs_from rule s) (head_at rule s p)
unfolding head_at
subs_step_lem rule s p = go (ltb longest (length s)) refl (ltb (length s) p) refl
  where
    go : (a : Bool) → ltb longest (length s) ≡ a → (b : Bool) → ltb (length s) p ≡ b
        → subs_from rule s p ≡ on_move (subs_from rule s) (cond a (fail (told why.TooLong)) (cond b (fail (told why.Cut)) (judged rule p (bite (drop p s)))))
    go true d b e = subs_long rule s p (ltb-true longest (length s) d)
    go false d true e = subs_past rule s p (ltb-false longest (length s) d) (ltb-true (length s) p e)
    go false d false e =
        let m = ltb-false longest (length s) d in
        let h = ltb-false (length s) p e in
        subs_in rule s p m h ∙ ap (placed rule p) (parts_step (drop p s)) ∙ turn rule s p m h (bite (drop p s)) (bitten (drop p s))

pub subs_is : (rule : ℕ → Sort) (s : List ℕ) (p : ℕ) (u : Move ℕ Sub Told) → u ≡ head_at rule s p → on_move (subs_from rule s) u ≡ subs_from rule s p
subs_is rule s p u e = ap (on_move (subs_from rule s)) e ∙ sym (subs_step_lem rule s p)

-- where a subsection's numbers lie: the body begins behind the header, and ends at the next place
abbrev pub SubLies : ℕ → Sub → ℕ → Type 0
SubLies p b x = (b.start ≡ p + 8) × (x ≡ b.start + b.len)

whole_within : (rule : ℕ → Sort) (m k p n : ℕ) → p + 8 + n ≤ m → Within 8 SubLies m p (whole_as rule k p n)
unfolding whole_as
whole_within rule m k p n h = by (rule k)
  where
    by : (o : Sort) → Within 8 SubLies m p (on_sort o (item (record { kind = k; start = p + 8; len = n }) (p + 8 + n)) (pass (p + 8 + n)) (fail (told (why.UnknownKind k))))
    by known = ((refl, refl), omega arith, h)
    by skipped = omega arith
    by unknown = tt

judged_within : (rule : ℕ → Sort) (s : List ℕ) (p : ℕ) → p ≤ length s → (u : Move (List ℕ) Raw Lack) → Bitten (drop p s) u → Within 8 SubLies (length s) p (judged rule p u)
judged_within rule s p h (item r t) w = whole_within rule (length s) r.kind p (length r.body) (omega (arith, length-drop p s))
judged_within rule s p h (pass t) w = absurd w
judged_within rule s p h over w = omega (arith, length-drop p s)
judged_within rule s p h (fail c) w = tt

pub head_within : (rule : ℕ → Sort) (s : List ℕ) (p : ℕ) → Within 8 SubLies (length s) p (head_at rule s p)
unfolding head_at
head_within rule s p =
    by_cases (Within 8 SubLies (length s) p) (ltb longest (length s)) (λ d. tt)
    (λ d. by_cases (Within 8 SubLies (length s) p) (ltb (length s) p) (λ e. tt)
    (λ e. judged_within rule s p (ltb-false (length s) p e) (bite (drop p s)) (bitten (drop p s))))

abbrev pub left : List ℕ → ℕ → ℕ
left s p = length s - p

pub falls : (rule : ℕ → Sort) (s : List ℕ) (p : ℕ) → To (head_at rule s p) (λ t. left s t < left s p)
falls rule s p = within_falls 8 SubLies (length s) p (omega arith) (head_at rule s p) (head_within rule s p)

module _ (rule : ℕ → Sort) (s : List ℕ) (p : ℕ) where
  pub head_falls : (x : ℕ) → pass x ≡ head_at rule s p → length s - x < length s - p
  head_falls x e = subst⁻¹ (λ (u : Move ℕ Sub Told). To u (λ t. length s - t < length s - p)) e (falls rule s p)

  pub step_gives : (b : Sub) (x : ℕ) → item b x ≡ head_at rule s p → gives b x ≡ step_at rule s p
  step_gives b x e =
      let w = subst⁻¹ (λ (u : Move ℕ Sub Told). Within 8 SubLies (length s) p u) e (head_within rule s p) in
      ap (gives b) w.0.1 ∙ ap first_of (subs_is rule s p (item b x) e)

-- ---- the walk that the code makes, one head behind the other, is the meaning with its places; no other listing has these steps

pub subs_all : (rule : ℕ → Sort) (s : List ℕ) (p : ℕ) → subs_from rule s p ≡ all (head_at rule s) (left s) p
subs_all rule s p = all_unique (head_at rule s) (left s) (falls rule s) (subs_from rule s) (subs_step_lem rule s) p

-- what holds of each step holds of the whole
module _ (rule : ℕ → Sort) (s : List ℕ) (P : ℕ → Listing Sub Told → Type 0) where
  abbrev One : (ℕ → Listing Sub Told) → Type 0
  One L = (p : ℕ) (u : Move ℕ Sub Told) → Within 8 SubLies (length s) p u → To u (λ t. P t (L t)) → P p (on_move L u)

  pub subs_ind : One (subs_from rule s) → (p : ℕ) → P p (subs_from rule s p)
  subs_ind =
      subst⁻¹ (λ (L : ℕ → Listing Sub Told). One L → (p : ℕ) → P p (L p)) (λ i p. subs_all rule s p i)
      (λ one. all_ind (head_at rule s) (left s) (falls rule s) P (λ p f. one p (head_at rule s p) (head_within rule s p) f))

-- the subsections from p on begin behind p, and what is behind the first is those from its end on
module _ (rule : ℕ → Sort) (s : List ℕ) where
  abbrev pub Chained : ℕ → Listing Sub Told → Type 0
  Chained p (more b l) = (l ≡ subs_from rule s (b.start + b.len)) × (p + 8 ≤ b.start) × (b.start + b.len ≤ length s)
  Chained p ends = Unit {0}
  Chained p (fails r) = Unit {0}

  earlier : (p q : ℕ) (l : Listing Sub Told) → p ≤ q → Chained q l → Chained p l
  earlier p q (more b l) h w = (w.0, omega arith, w.2)
  earlier p q ends h w = tt
  earlier p q (fails r) h w = tt

  chain : (p : ℕ) (u : Move ℕ Sub Told) → Within 8 SubLies (length s) p u → To u (λ t. Chained t (subs_from rule s t)) → Chained p (on_move (subs_from rule s) u)
  chain p (item b x) w f = (ap (subs_from rule s) w.0.1, omega arith, omega arith)
  chain p (pass x) w f = earlier p x (subs_from rule s x) (omega arith) f
  chain p over w f = tt
  chain p (fail r) w f = tt

  pub subs_chained : (p : ℕ) → Chained p (subs_from rule s p)
  subs_chained = subs_ind rule s Chained chain

-- what an answer of `sub_at` says: for the loops over an area
pub record Next (rule : ℕ → Sort) (s : List ℕ) (p : ℕ) (b : Sub) (x : ℕ) : Type 0 where
  pub is : more b (subs_from rule s x) ≡ subs_from rule s p
  pub behind : p + 8 ≤ b.start
  pub end : b.start + b.len ≡ x
  pub inside : x ≤ length s

module _ (rule : ℕ → Sort) (s : List ℕ) (p : ℕ) where
  next_of : (b : Sub) (x : ℕ) (l : Listing Sub Told) → l ≡ subs_from rule s p → Chained rule s p l → gives b x ≡ first_of l → Next rule s p b x
  next_of b x (more d l) e w q =
      let eb : b ≡ d = cc in
      let ex : x ≡ d.start + d.len = cc in
      let es : b.start ≡ d.start = cc in
      let en : b.len ≡ d.len = cc in
      record {
        is = (λ i. more (eb i) (subs_from rule s (ex i))) ∙ ap (more d) (sym w.0) ∙ e;
        behind = omega arith;
        end = omega arith;
        inside = omega arith;
      }
  next_of b x ends e w q = let z : ◌≡◌ {A = ℕ} 0 1 = cc in absurd (omega arith)
  next_of b x (fails r) e w q = let z : ◌≡◌ {A = ℕ} 0 1 = cc in absurd (omega arith)

  pub sub_next : (b : Sub) (x : ℕ) → gives b x ≡ step_at rule s p → Next rule s p b x
  sub_next b x q = next_of b x (subs_from rule s p) refl (subs_chained rule s p) q

  pub sub_end : none ≡ step_at rule s p → ends ≡ subs_from rule s p
  sub_end q = by (subs_from rule s p) q
    where
      by : (l : Listing Sub Told) → none ≡ first_of l → ends ≡ l
      by (more b l) q = let z : ◌≡◌ {A = ℕ} 0 1 = cc in absurd (omega arith)
      by ends q = refl
      by (fails r) q = let z : ◌≡◌ {A = ℕ} 0 1 = cc in absurd (omega arith)

  pub sub_refused : (r : Told) → refuses r ≡ step_at rule s p → fails r ≡ subs_from rule s p
  sub_refused r q = by (subs_from rule s p) q
    where
      by : (l : Listing Sub Told) → refuses r ≡ first_of l → fails r ≡ l
      by (more b l) q = let z : ◌≡◌ {A = ℕ} 0 1 = cc in absurd (omega arith)
      by ends q = let z : ◌≡◌ {A = ℕ} 0 1 = cc in absurd (omega arith)
      by (fails t) q = ap fails (cc)

-- ---- the bodies: each place and length is that of its body in the area

abbrev pub bodied : List ℕ → Sub → Raw
bodied s b = record { kind = b.kind; body = take b.len (drop b.start s) }

module _ (rule : ℕ → Sort) (s : List ℕ) where
  abbrev Same : List ℕ → Parts → Type 0
  Same t l = (p : ℕ) → p ≤ length s → t ≡ drop p s → mapped (bodied s) number_of (placed rule p l) ≡ bodies_in rule l

  same : (t : List ℕ) (u : Move (List ℕ) Raw Lack) → Bitten t u → To u (λ v. Same v (parts v)) → Same t (on_move parts u)
  unfolding placed bodies_in
  same t (item r v) w f p h e = by (rule r.kind)
    where
      n : ℕ
      n = length r.body

      rest : mapped (bodied s) number_of (placed rule (p + 8 + n) (parts v)) ≡ bodies_in rule (parts v)
      rest =
          f (p + 8 + n) (omega (arith, ap length e, length-drop p s))
          (w.4 ∙ ap (drop (8 + n)) e ∙ drop-drop (8 + n) p s ∙ ap (λ (i : ℕ). drop i s) (sym (add_assoc p 8 n)))

      here : bodied s (sub_of p r) ≡ r
      here =
          let d : take n (drop (p + 8) s) ≡ r.body
          = ap (take n) (sym (drop-drop 8 p s) ∙ ap (drop 8) (sym e)) ∙ sym w.3 in
          λ i. record { kind = r.kind; body = d i }

      by : (o : Sort)
          → mapped (bodied s) number_of (on_sort o (more (sub_of p r) (placed rule (p + 8 + n) (parts v))) (placed rule (p + 8 + n) (parts v)) (fails (told (why.UnknownKind r.kind))))
          ≡ on_sort o (more r (bodies_in rule (parts v))) (bodies_in rule (parts v)) (fails 2)
      by known = λ i. more (here i) (rest i)
      by skipped = rest
      by unknown = refl
  same t (pass v) w f p h e = absurd w
  same t over w f p h e = refl
  same t (fail c) w f p h e = refl

  -- THE THEOREM for what is read: the bytes at the places are the bodies
  pub area_bodies : mapped (bodied s) number_of (subs_from rule s 0) ≡ bodies rule s
  unfolding bodies
  area_bodies = go (ltb longest (length s)) refl
    where
      go : (a : Bool) → ltb longest (length s) ≡ a → mapped (bodied s) number_of (subs_from rule s 0) ≡ cond a (fails 11) (bodies_in rule (parts s))
      go true e = ap (mapped (bodied s) number_of) (subs_long rule s 0 (ltb-true longest (length s) e))
      go false e =
          ap (mapped (bodied s) number_of) (subs_in rule s 0 (ltb-false longest (length s) e) (omega arith))
          ∙ parts_ind Same same s 0 (omega arith) refl

-- each lies in the area
abbrev pub Inside : ℕ → Sub → Type 0
Inside m b = b.start + b.len ≤ m

-- and, in an area that is not too long, its header stands right before its body: its kind, and the length of the body
pub record SubHead (s : List ℕ) (b : Sub) : Type 0 where
  pub short : length s ≤ longest
  pub behind : 8 ≤ b.start
  pub kind : u32_at s (b.start - 8) ≡ b.kind
  pub len : u32_at s (b.start - 4) ≡ b.len
  pub inside : Inside (length s) b

module _ (rule : ℕ → Sort) (s : List ℕ) where
  whole_headed : (k p n : ℕ) → SubHead s (record { kind = k; start = p + 8; len = n }) → Holds (SubHead s) (whole_as rule k p n)
  unfolding whole_as
  whole_headed k p n h = by (rule k)
    where
      by : (o : Sort) → Holds (SubHead s) (on_sort o (item (record { kind = k; start = p + 8; len = n }) (p + 8 + n)) (pass (p + 8 + n)) (fail (told (why.UnknownKind k))))
      by known = h
      by skipped = tt
      by unknown = tt

  judged_headed : (p : ℕ) → length s ≤ longest → p ≤ length s → (u : Move (List ℕ) Raw Lack) → Bitten (drop p s) u → Holds (SubHead s) (judged rule p u)
  judged_headed p m h (item r t) w =
      let e₀ : p + 8 - 8 ≡ p + 0 = omega arith in
      let e₄ : p + 8 - 4 ≡ p + 4 = omega arith in
      whole_headed r.kind p (length r.body) (record {
        short = m;
        behind = omega arith;
        kind = ap (u32_at s) e₀ ∙ sym (u32_drop s p 0) ∙ sym w.1;
        len = ap (u32_at s) e₄ ∙ sym (u32_drop s p 4) ∙ sym w.2;
        inside = omega (arith, length-drop p s);
      })
  judged_headed p m h (pass t) w = tt
  judged_headed p m h over w = tt
  judged_headed p m h (fail c) w = tt

  head_headed : (p : ℕ) → Holds (SubHead s) (head_at rule s p)
  unfolding head_at
  head_headed p =
      by_cases (Holds (SubHead s)) (ltb longest (length s)) (λ d. tt)
      (λ d. by_cases (Holds (SubHead s)) (ltb (length s) p) (λ e. tt)
      (λ e. judged_headed p (ltb-false longest (length s) d) (ltb-false (length s) p e) (bite (drop p s)) (bitten (drop p s))))

  pub subs_headed : (p : ℕ) → Every (SubHead s) (subs_from rule s p)
  subs_headed p = subst⁻¹ (Every (SubHead s)) (subs_all rule s p) (all_every (head_at rule s) (left s) (falls rule s) (SubHead s) head_headed p)

pub subs_inside : (rule : ℕ → Sort) (s : List ℕ) (p : ℕ) → Every (Inside (length s)) (subs_from rule s p)
subs_inside rule s p = every_map (SubHead s) (Inside (length s)) (λ b h. h.inside) (subs_from rule s p) (subs_headed rule s p)

-- ---- the walk: n steps, each at the place that the step before left, are answered by the subsections in order, and then by the end, or by
-- the same refusal, again and again

step_right : (rule : ℕ → Sort) (s : List ℕ) (p : ℕ) → subs_from rule s p ≡ on_move (subs_from rule s) (moved (step_at rule s p))
step_right rule s p = by (subs_from rule s p) (subs_chained rule s p)
  where
    by : (l : Listing Sub Told) → Chained rule s p l → l ≡ on_move (subs_from rule s) (moved (first_of l))
    by (more b l) w = ap (more b) w.0
    by ends w = refl
    by (fails r) w = refl

pub steps_are : (rule : ℕ → Sort) (s : List ℕ) (n p : ℕ) → calls (step_at rule s) n p ≡ replies n (subs_from rule s p)
steps_are rule s = calls_are (step_at rule s) (subs_from rule s) (step_right rule s)

-- a walk's step, by what it answers
pub stepped : (s : List ℕ) (p : ℕ) (a : Answer ℕ Sub Told) → a ≡ step_at crate_rule s p → record { answer = a; behind = place_behind a p } ≡ crate_step s p
unfolding crate_step
stepped s p a e = λ i. record { answer = e i; behind = place_behind (e i) p }
