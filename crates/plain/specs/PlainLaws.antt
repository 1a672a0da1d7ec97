-- Laws for the code that decides whether a body and an area are plain: one law for each way out and each turn of a loop.
use Prim.Native.Nat.{ℕ, ◌+◌, ◌-◌, ◌%◌, ◌<◌, ◌≤◌}
use Rattle.std.specs.Prelude.{◌≡◌, refl, Bool, true, false, ◌&&◌, eqb}
use Rattle.std.proofs.Math.Path.{sym, ap}
use Rattle.std.proofs.Common.{◌∙◌, arith, add-zero, drop_of_length-le}
use mathlib.Core.List.{List, []}
use Rattle.std.proofs.Math.Option.{Option, none, some}
use Rattle.std.proofs.Math.ListN.{length, take, drop, length-drop}
use Rattle.std.proofs.Math.Seq.{drop-drop, length-take-le}
use borrow.Author.Tests.{lt-ltb, le-ltb, le-leb, lt-leb, eq-eqb, ne_eqb}
use Rattle.word.specs.PartLaws.{lent, lent_is}
use Rattle.word.specs.Word.{u16_at, u32_at}
use Rattle.word.specs.WordLaws.{u32_drop}
use Rattle.walk.specs.Listing.{over, Listing, more, on_move, all}
use Rattle.walk.specs.ListingLaws.{all_step}
use Rattle.refusal.specs.Told.{Told, longest}
use Rattle.kinds.specs.Kind.{LINES, FILE_CHECKSUMS, INLINEE_LINES, CROSS_SCOPE_IMPORTS, CROSS_SCOPE_EXPORTS}
use Rattle.area.specs.Parts.{parts}
use Rattle.area.specs.RestLaws.{rest_ends, rest_short, rest_cut, rest_goes}
use Rattle.body.specs.Lines.{line_head_size, columned, block_bite}
use Rattle.body.specs.Checksums.{checksum_bite}
use Rattle.body.specs.Inlinees.{extended, inlinee_bite}
use Rattle.body.specs.Imports.{module_bite}
use Rattle.body.specs.Exports.{Pair, pair_bite, pairs}
use Rattle.body.specs.RunLaws.{Sound, sound_falls}
use Rattle.body.specs.LinesLaws.{block_sound}
use Rattle.body.specs.ChecksumsLaws.{checksum_sound}
use Rattle.body.specs.ExportsLaws.{pair_sound, pair_ended}
use Rattle.plain.specs.Plain.{block_filled, plain_block, tidy, plain_checksum, wholly, ascends_from, marked, lines_mark, inlinees_mark, is_opaque, mark_of, Last, nothing_yet, on_mark, plain_from, plain_of}
use Rattle.plain.specs.WalkLaws.{strict_sound}

-- ---- where the steps lead

pub plain_block_sound : (c : Bool) (s : List ℕ) → Sound s (plain_block c s)
plain_block_sound c s = strict_sound s (block_filled c s) (block_bite c s) (block_sound c s)

pub plain_checksum_sound : (s : List ℕ) → Sound s (plain_checksum s)
plain_checksum_sound s = strict_sound s (tidy s) (checksum_bite s) (checksum_sound s)

pub plain_block_ended : (c : Bool) → plain_block c [] ≡ over
unfolding block_bite
plain_block_ended c = refl

pub plain_checksum_ended : plain_checksum [] ≡ over
unfolding checksum_bite
plain_checksum_ended = refl

-- ---- pairs

abbrev pub pairs_from : List ℕ → ℕ → Listing Pair Told
pairs_from s i = all pair_bite length (drop i s)

pairs_turn : (s : List ℕ) → all pair_bite length s ≡ on_move (all pair_bite length) (pair_bite s)
pairs_turn = all_step pair_bite length (λ x. sound_falls x (pair_bite x) (pair_sound x))

module _ (s : List ℕ) where
  pub floor_odd : (length s % 8 ≡ 0 → ⊥) → none ≡ ascends_from 0 (pairs s)
  unfolding pairs ascends_from
  floor_odd h = rw (ne_eqb (length s % 8) 0 h)

  pub floor_first : length s % 8 ≡ 0 → ascends_from 0 (pairs_from s 0) ≡ ascends_from 0 (pairs s)
  unfolding pairs
  floor_first h = rw (eq-eqb (length s % 8) 0 h)

  module _ (i f : ℕ) where
    pub floor_end : length s ≤ i → some f ≡ ascends_from f (pairs_from s i)
    unfolding ascends_from
    floor_end h =
        sym (ap (λ (x : List ℕ). ascends_from f (all pair_bite length x)) (drop_of_length-le s {i = i} h) ∙ ap (ascends_from f) (pairs_turn []) ∙ ap (λ u. ascends_from f (on_move (all pair_bite length) u)) pair_ended)

    module _ (h : 8 ≤ length s - i) (l : ℕ) (el : l ≡ u32_at s i) where
      pair_here : pairs_from s i ≡ more (record { local = u32_at (drop i s) 0; global = u32_at (drop i s) 4 }) (pairs_from s (i + 8))
      unfolding pair_bite
      pair_here =
          let D = drop i s in
          let z : (length D ≡ 0 → ⊥) = λ e. omega (arith, length-drop i s) in
          pairs_turn D ∙ (rw (ne_eqb (length D) 0 z, le-ltb (length D) 8 (omega (arith, length-drop i s)), drop-drop 8 i s))

      local_here : u32_at (drop i s) 0 ≡ l
      local_here = u32_drop s i 0 ∙ ap (u32_at s) (add-zero i) ∙ sym el

      pub floor_bad : l < f → none ≡ ascends_from f (pairs_from s i)
      unfolding ascends_from
      floor_bad g = sym (ap (ascends_from f) pair_here ∙ (rw (local_here, lt-leb f l g)))

      pub floor_next : f ≤ l → ascends_from (l + 1) (pairs_from s (i + 8)) ≡ ascends_from f (pairs_from s i)
      unfolding ascends_from
      floor_next g = sym (ap (ascends_from f) pair_here ∙ (rw (local_here, le-leb f l g)))

-- ---- marks

module _ (b : List ℕ) where
  pub lines_short : length b < line_head_size → none ≡ lines_mark b
  unfolding lines_mark
  lines_short h = rw (lt-ltb (length b) line_head_size h)

  pub lines_long : line_head_size ≤ length b → (flags : ℕ) (t : Bool) (o : Option ℕ) → flags ≡ u16_at b 6 → t ≡ wholly (plain_block (columned flags)) (lent line_head_size b) → o ≡ marked t (flags % 2)
      → o ≡ lines_mark b
  unfolding lines_mark
  lines_long h flags t o ef et eo =
      eo ∙ ap (λ (x : Bool). marked x (flags % 2)) (et ∙ ap (wholly (plain_block (columned flags))) (lent_is line_head_size b))
      ∙ ap (λ (f : ℕ). marked (wholly (plain_block (columned f)) (drop line_head_size b)) (f % 2)) ef ∙ (rw (le-ltb (length b) line_head_size h))

  pub inlinees_short : length b < 4 → none ≡ inlinees_mark b
  unfolding inlinees_mark
  inlinees_short h = rw (lt-ltb (length b) 4 h)

  module _ (h : 4 ≤ length b) (g : ℕ) (eg : g ≡ u32_at b 0) where
    pub inlinees_odd : 1 < g → none ≡ inlinees_mark b
    unfolding inlinees_mark
    inlinees_odd l = rw (le-ltb (length b) 4 h, ← eg, lt-ltb 1 g l)

    pub inlinees_long : g ≤ 1 → (t : Bool) (o : Option ℕ) → t ≡ wholly (inlinee_bite (extended g)) (lent 4 b) → o ≡ marked t g → o ≡ inlinees_mark b
    unfolding inlinees_mark
    inlinees_long l t o et eo =
        eo ∙ ap (λ (x : Bool). marked x g) (et ∙ ap (wholly (inlinee_bite (extended g))) (lent_is 4 b))
        ∙ (rw (le-ltb (length b) 4 h, ← eg, le-ltb 1 g l))

  module _ (k : ℕ) (o : Option ℕ) where
    pub mark_lines : k ≡ LINES → o ≡ lines_mark b → o ≡ mark_of k b
    unfolding mark_of
    mark_lines e h = rw e h

    pub mark_checksums : k ≡ FILE_CHECKSUMS → (t : Bool) → t ≡ wholly plain_checksum b → o ≡ marked t 0 → o ≡ mark_of k b
    unfolding mark_of
    mark_checksums e t et h = rw (e, ← et) h

    pub mark_inlinees : k ≡ INLINEE_LINES → o ≡ inlinees_mark b → o ≡ mark_of k b
    unfolding mark_of
    mark_inlinees e h = rw e h

    pub mark_modules : k ≡ CROSS_SCOPE_IMPORTS → (t : Bool) → t ≡ wholly module_bite b → o ≡ marked t 0 → o ≡ mark_of k b
    unfolding mark_of
    mark_modules e t et h = rw (e, ← et) h

    pub mark_pairs : k ≡ CROSS_SCOPE_EXPORTS → o ≡ ascends_from 0 (pairs b) → o ≡ mark_of k b
    unfolding mark_of
    mark_pairs e h = rw e h

  module _ (k : ℕ) (a : k ≡ LINES → ⊥) (d : k ≡ FILE_CHECKSUMS → ⊥) (e : k ≡ INLINEE_LINES → ⊥) (f : k ≡ CROSS_SCOPE_IMPORTS → ⊥)
      (g : k ≡ CROSS_SCOPE_EXPORTS → ⊥) where
    on_opaque : mark_of k b ≡ marked (is_opaque k && eqb (length b % 4) 0) 0
    unfolding mark_of
    on_opaque = rw (
      ne_eqb k LINES a,
      ne_eqb k FILE_CHECKSUMS d,
      ne_eqb k INLINEE_LINES e,
      ne_eqb k CROSS_SCOPE_IMPORTS f,
      ne_eqb k CROSS_SCOPE_EXPORTS g,
    )

    pub mark_opaque : length b % 4 ≡ 0 → (t : Bool) (o : Option ℕ) → t ≡ is_opaque k → o ≡ marked t 0 → o ≡ mark_of k b
    mark_opaque h t o et eo =
        eo ∙ by t ∙ ap (λ (x : Bool). marked (x && eqb (length b % 4) 0) 0) et ∙ sym on_opaque
      where
        by : (t : Bool) → marked t 0 ≡ marked (t && eqb (length b % 4) 0) 0
        by true = ap (λ (x : Bool). marked x 0) (sym (eq-eqb (length b % 4) 0 h))
        by false = refl

    pub mark_uneven : (length b % 4 ≡ 0 → ⊥) → none ≡ mark_of k b
    mark_uneven h = by (is_opaque k) ∙ sym on_opaque
      where
        by : (t : Bool) → none ≡ marked (t && eqb (length b % 4) 0) 0
        by true = ap (λ (x : Bool). marked x 0) (sym (ne_eqb (length b % 4) 0 h))
        by false = refl

-- ---- the area: plain from p on is plain

abbrev pub Scanned : List ℕ → ℕ → Last → Type 0
Scanned s p last = plain_from p last (parts (drop p s)) ≡ plain_of s

module _ (s : List ℕ) where
  pub plain_long : longest < length s → none ≡ plain_of s
  unfolding plain_of
  plain_long h = rw (lt-ltb longest (length s) h)

  pub plain_first : length s ≤ longest → Scanned s 0 nothing_yet
  unfolding plain_of
  plain_first h = rw (le-ltb longest (length s) h)

  module _ (p : ℕ) (last : Last) (w : Scanned s p last) where
    pub plain_end : length s ≤ p → some last ≡ plain_of s
    unfolding plain_from
    plain_end h = ap (plain_from p last) (rest_ends s p (omega arith)) ∙ w

    module _ (h : p < length s) where
      left : length s - p ≡ 0 → ⊥
      left e = omega arith

      pub plain_short : length s - p < 8 → none ≡ plain_of s
      unfolding plain_from
      plain_short l = ap (plain_from p last) (rest_short s p left l) ∙ w

      module _ (k₈ : 8 ≤ length s - p) (k n : ℕ) (ek : k ≡ u32_at s p) (en : n ≡ u32_at s (p + 4)) where
        pub plain_cut : length s - p - 8 < n → none ≡ plain_of s
        unfolding plain_from
        plain_cut l = ap (plain_from p last) (rest_cut s p left k₈ (rw en at l)) ∙ w

        module _ (l : n ≤ length s - p - 8) (o : Option ℕ) (m : ℕ) (em : m ≡ n) (eo : o ≡ mark_of k (take m (drop (p + 8) s))) where
          goes : on_mark o none (λ x. plain_from (p + 8 + n) (record { header = p; kind = k; mark = x }) (parts (drop (p + 8 + n) s))) ≡ plain_of s
          unfolding plain_from
          goes =
              let b : List ℕ = take (u32_at s (p + 4)) (drop (p + 8) s) in
              let lb : length b ≡ n = length-take-le (u32_at s (p + 4)) (drop (p + 8) s) (omega (arith, length-drop (p + 8) s)) ∙ sym en in
              let eo' : o ≡ mark_of (u32_at s p) b = eo ∙ ap (λ (x : ℕ). mark_of k (take x (drop (p + 8) s))) (em ∙ en) ∙ ap (λ (x : ℕ). mark_of x b) ek in
              ap (λ (x : Option ℕ). on_mark x none (λ y. plain_from (p + 8 + n) (record { header = p; kind = k; mark = y }) (parts (drop (p + 8 + n) s)))) eo'
              ∙ ap (λ (x : ℕ). on_mark (mark_of (u32_at s p) b) none (λ y. plain_from (p + 8 + n) (record { header = p; kind = x; mark = y }) (parts (drop (p + 8 + n) s)))) ek
              ∙ ap (λ (x : ℕ). on_mark (mark_of (u32_at s p) b) none (λ y. plain_from (p + 8 + x) (record { header = p; kind = u32_at s p; mark = y }) (parts (drop (p + 8 + n) s)))) (sym lb)
              ∙ ap (λ (x : ℕ). on_mark (mark_of (u32_at s p) b) none (λ y. plain_from (p + 8 + length b) (record { header = p; kind = u32_at s p; mark = y }) (parts (drop (p + 8 + x) s)))) en
              ∙ ap (plain_from p last) (rest_goes s p left k₈ (rw en at l)) ∙ w

          pub plain_bad : o ≡ none → none ≡ plain_of s
          plain_bad e = ap (λ (x : Option ℕ). on_mark x none (λ y. plain_from (p + 8 + n) (record { header = p; kind = k; mark = y }) (parts (drop (p + 8 + n) s)))) (sym e) ∙ goes

          pub plain_next : (x : ℕ) → o ≡ some x → Scanned s (p + 8 + n) (record { header = p; kind = k; mark = x })
          plain_next x e = ap (λ (y : Option ℕ). on_mark y none (λ z. plain_from (p + 8 + n) (record { header = p; kind = k; mark = z }) (parts (drop (p + 8 + n) s)))) (sym e) ∙ goes
