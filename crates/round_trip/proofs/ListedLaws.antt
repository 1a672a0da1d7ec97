-- What a plain area lists, whatever numbers stand for its bytes: the calls of subsections of good form.
use Rattle.std.specs.Prelude.{ℕ, ◌+◌, ◌-◌, ◌*◌, ◌/◌, ◌%◌, ◌<◌, ◌≤◌, ◌≡◌, Bool, true, false, cond, ◌&&◌, length, drop, get_or, ltb, eqb}
use Rattle.std.proofs.Math.Path.{refl, ap}
use Rattle.std.proofs.Common.{sym, ◌∙◌, arith, length-drop, length-take-le, ltb-false, eqb-true, le-ltb, eq-eqb}
use mathlib.Core.List.{List, [], ◌∷◌}
use Rattle.std.proofs.Math.Option.{none, some}
use Rattle.word.specs.Word.{u16_at, u32_at}
use Rattle.walk.specs.Cases.{by_cases, and_true}
use Rattle.walk.specs.Listing.{Move, item, pass, over, fail, Listing, more, ends, fails, on_move, mapped, before, and_then, all, spread}
use Rattle.walk.specs.ListingLaws.{To, Holds, Every, all_step, all_ind, all_every}
use Rattle.walk.specs.SpreadLaws.{map_then}
use Rattle.refusal.specs.Told.{Told, told, longest, number_of}
use Rattle.refusal.specs.declared.Refusal.TheVariants as why
use Rattle.area.specs.Parts.{Raw, Lack, Parts, parts}
use Rattle.kinds.specs.Kind.{LINES, FILE_CHECKSUMS, INLINEE_LINES, CROSS_SCOPE_IMPORTS, CROSS_SCOPE_EXPORTS, known_kinds, among, Sort}
use Rattle.area.specs.Subs.{bodies_in, bodies}
use Rattle.body.specs.Words.{words_in}
use Rattle.body.specs.WordsLaws.{words_length}
use Rattle.body.specs.Lines.{line_head_size, line_head, columned, columns_of, line_bytes, Block, block_head_size, block_bite, blocks}
use Rattle.body.specs.Checksums.{Checksum, up4, checksum_bite, checksums}
use Rattle.body.specs.Inlinees.{Inlinee, extended, extra_bite, inlinee_bite, inlinees}
use Rattle.body.specs.Imports.{Module, module_bite, modules}
use Rattle.body.specs.Exports.{Pair, pair_bite, pairs}
use Rattle.body.specs.RunLaws.{Each, Sound, sound_falls}
use Rattle.body.specs.LinesLaws.{Filled, block_sound}
use Rattle.body.specs.ChecksumsLaws.{Facts, checksum_sound}
use Rattle.body.specs.InlineesLaws.{Fits, inlinee_sound}
use Rattle.body.specs.ImportsLaws.{Any}
use Rattle.reading.specs.Reading.{Item, each, open_lines, block, open_checksums, checksum, open_inlinees, inlinee, open_imports, imports, open_exports, exports, items_of, lines_items, checksums_items, inlinees_items, imports_items, exports_items, reading}
use Rattle.reading.specs.BodiesLaws.{numbered, reading_bodies}
use Rattle.plain.specs.Plain.{strict, block_filled, plain_block, size_of, tidy, plain_checksum, wholly, ascends_from, marked, lines_mark, inlinees_mark, is_opaque, mark_of, nothing_yet, KnowsPlain}
use Rattle.plain.specs.WalkLaws.{strict_sound}
use Rattle.round_trip.specs.Secs.{Sec, lines_of, checksums_of, inlinees_of, imports_of, exports_of, opaque_of, kind_sec, calls_sec, Sized, GoodSec, calls_of}
use Rattle.round_trip.specs.Listed.{PlainAtAnyLength, items_in}
use Rattle.round_trip.proofs.SecLaws.{each_before, before_append, then_before, good_kind, good_reads, numbered_before, before_numbered}
use Rattle.round_trip.proofs.BackLaws.{no_some, marked_some, whole_list, ascends_list, Marked, from_list}

-- ---- a walk that also tests, and the same without

pub not_before : {A B : Type 0} (r : Told) (bs : List B) → ◌≡◌ {A = Listing B Told} (fails r) (before bs ends) → A
not_before r [] e = let z : ◌≡◌ {A = ℕ} 0 1 = cc in absurd (omega arith)
not_before r (b ∷ bs) e = let z : ◌≡◌ {A = ℕ} 0 1 = cc in absurd (omega arith)

module _ {B : Type 0} (step : List ℕ → Move (List ℕ) B Told) (test : List ℕ → Bool) (sound : (s : List ℕ) → Sound s (step s)) where
  abbrev tried : List ℕ → Move (List ℕ) B Told
  tried s = strict (test s) (step s)

  pub loosely : (s : List ℕ) (bs : List B) → all tried length s ≡ before bs ends → all step length s ≡ before bs ends
  loosely s = all_ind tried length tried_falls (λ x l. (bs : List B) → l ≡ before bs ends → all step length x ≡ before bs ends) one s
    where
      tried_falls : (x : List ℕ) → To (tried x) (λ t. length t < length x)
      tried_falls x = sound_falls x (tried x) (strict_sound x (test x) (step x) (sound x))

      by : (x : List ℕ) (t : Bool) (u : Move (List ℕ) B Told) → step x ≡ u → To (strict t u) (λ y. (bs : List B) → all tried length y ≡ before bs ends
          → all step length y ≡ before bs ends)
          → (bs : List B) → on_move (all tried length) (strict t u) ≡ before bs ends → on_move (all step length) u ≡ before bs ends
      by x true (item b y) e f [] q = let z : ◌≡◌ {A = ℕ} 0 1 = cc in absurd (omega arith)
      by x true (item b y) e f (c ∷ bs) q =
          let eb : b ≡ c = cc in
          let r = f bs (cc) in
          λ i. more (eb i) (r i)
      by x false (item b y) e f bs q = not_before (told why.NotPlain) bs q
      by x t (pass y) e f bs q = f bs q
      by x t over e f bs q = q
      by x t (fail r) e f bs q = q

      one : (x : List ℕ) → To (tried x) (λ y. (bs : List B) → all tried length y ≡ before bs ends → all step length y ≡ before bs ends)
          → (bs : List B) → on_move (all tried length) (tried x) ≡ before bs ends → all step length x ≡ before bs ends
      one x f bs q = all_step step length (λ y. sound_falls y (step y) (sound y)) x ∙ by x (test x) (step x) refl f bs q

every_before : {B : Type 0} (Q : B → Type 0) (bs : List B) → Every Q (before {R = Told} bs ends) → Each Q bs
every_before Q [] w = tt
every_before Q (b ∷ bs) w = (w.0, every_before Q bs w.1)

-- ---- the records that a walk gives are of good form

block_holds : (c : Bool) (s : List ℕ) → Holds (Filled c) (block_bite c s)
unfolding block_bite
block_holds c s =
    let P : Move (List ℕ) Block Told → Type 0 = Holds (Filled c) in
    by_cases P (eqb (length s) 0) (λ e. tt)
    (λ e. by_cases P (ltb (length s) block_head_size) (λ e. tt)
    (λ e. by_cases P (ltb (u32_at s 8) block_head_size) (λ e. tt)
    (λ e. by_cases P (ltb (length s) (u32_at s 8)) (λ e. tt)
    (λ e. by_cases P (ltb (u32_at s 8 - block_head_size) (line_bytes c (u32_at s 4))) (λ e. tt)
    (λ e.
    let n = u32_at s 4 in
    let lx : length (words_in (2 * n) (drop block_head_size s)) ≡ 2 * n = words_length (2 * n) (drop block_head_size s) in
    let ln : n ≡ length (words_in (2 * n) (drop block_head_size s)) / 2 = omega arith in
    record { pairs = omega arith; columns = words_length (columns_of c n) (drop (block_head_size + 8 * n) s) ∙ ap (columns_of c) ln })))))

pub checksum_holds : (s : List ℕ) → Holds (Facts s) (checksum_bite s)
unfolding checksum_bite
checksum_holds s =
    let P : Move (List ℕ) Checksum Told → Type 0 = Holds (Facts s) in
    let n = get_or s 4 0 in
    by_cases P (eqb (length s) 0) (λ e. tt)
    (λ e. by_cases P (ltb (length s) 6) (λ e. tt)
    (λ a. by_cases P (ltb (length s - 6) n) (λ e. tt)
    (λ b. by_cases P (ltb 3 (get_or s 5 0)) (λ e. tt)
    (λ d. by_cases P (ltb (length s) (up4 (6 + n))) (λ e. tt)
    (λ e.
    let h : n ≤ length (drop 6 s) = omega (arith, ltb-false (length s - 6) n b, length-drop 6 s) in
    record { size = length-take-le n (drop 6 s) h; kind = refl; low = ltb-false 3 (get_or s 5 0) d })))))

inlinee_holds : (x : Bool) (s : List ℕ) → Holds (Fits x) (inlinee_bite x s)
unfolding inlinee_bite
inlinee_holds x s =
    let P : Move (List ℕ) Inlinee Told → Type 0 = Holds (Fits x) in
    by_cases P (eqb (length s) 0) (λ e. tt) (λ e. by_cases P (ltb (length s) 12) (λ e. tt) (λ e. extra x))
  where
    extra : (x : Bool) → Holds (Fits x) (extra_bite x s)
    extra false = refl
    extra true =
        let P : Move (List ℕ) Inlinee Told → Type 0 = Holds (Fits true) in
        by_cases P (ltb (length s) 16) (λ e. tt) (λ e. by_cases P (ltb (length s - 16) (4 * u32_at s 12)) (λ e. tt) (λ e. tt))

sized_holds : (s : List ℕ) → Holds Sized (plain_checksum s)
sized_holds s = go (tidy s) refl (checksum_bite s) (checksum_holds s)
  where
    go : (t : Bool) → tidy s ≡ t → (u : Move (List ℕ) Checksum Told) → Holds (Facts s) u → Holds Sized (strict t u)
    go true e (item c t) f =
        let a = and_true (eqb (get_or s 4 0) (size_of (get_or s 5 0))) (eqb (u16_at s (6 + get_or s 4 0)) 0) e in
        record { low = f.low; size = f.size ∙ eqb-true (get_or s 4 0) (size_of (get_or s 5 0)) a.0 ∙ ap size_of (sym f.kind) }
    go false e (item c t) f = tt
    go t e (pass x) f = tt
    go t e over f = tt
    go t e (fail r) f = tt

module _ {B : Type 0} (step : List ℕ → Move (List ℕ) B Told) (Good : B → Type 0) (sound : (s : List ℕ) → Sound s (step s))
    (holds : (s : List ℕ) → Holds Good (step s)) where
  good_list : (s : List ℕ) (bs : List B) → all step length s ≡ before bs ends → Each Good bs
  good_list s bs e = every_before Good bs (rw e at (all_every step length (λ x. sound_falls x (step x) (sound x)) Good holds s))

-- ---- so a plain body lists the calls of a subsection of good form

pub record Listed (k : ℕ) (b : List ℕ) : Type 0 where
  pub sec : Sec
  pub kind : kind_sec sec ≡ k
  pub read : items_of (record { kind = k; body = b }) ≡ before (calls_sec sec) ends
  pub good : GoodSec sec

lines_listed : (b : List ℕ) (m : ℕ) → lines_mark b ≡ some m → Listed LINES b
unfolding lines_mark items_of lines_items blocks
lines_listed b m = go (ltb (length b) line_head_size) refl
  where
    c : Bool
    c = columned (line_head b).flags

    D : List ℕ
    D = drop line_head_size b

    go : (t : Bool) → ltb (length b) line_head_size ≡ t → cond t none (marked (wholly (plain_block c) D) ((line_head b).flags % 2)) ≡ some m → Listed LINES b
    go true e q = no_some q
    go false e q =
        let L = whole_list (plain_block c) D (marked_some (wholly (plain_block c) D) ((line_head b).flags % 2) m q) in
        let l : all (block_bite c) length D ≡ before L.0 ends = loosely (block_bite c) (block_filled c) (block_sound c) D L.0 L.1 in
        record {
          sec = lines_of (line_head b) L.0;
          kind = refl;
          read = rw e (ap (λ (x : Listing Block Told). more (open_lines (line_head b)) (each block x)) l
              ∙ ap (more (open_lines (line_head b))) (each_before block L.0));
          good = good_list (block_bite c) (Filled c) (block_sound c) (block_holds c) D L.0 l;
        }

checksums_listed : (b : List ℕ) (m : ℕ) → marked (wholly plain_checksum b) 0 ≡ some m → Listed FILE_CHECKSUMS b
unfolding items_of checksums_items checksums
checksums_listed b m q =
    let L = whole_list plain_checksum b (marked_some (wholly plain_checksum b) 0 m q) in
    let l : all checksum_bite length b ≡ before L.0 ends = loosely checksum_bite tidy checksum_sound b L.0 L.1 in
    record {
      sec = checksums_of L.0;
      kind = refl;
      read = ap (λ (x : Listing Checksum Told). more open_checksums (each checksum x)) l ∙ ap (more open_checksums) (each_before checksum L.0);
      good = good_list plain_checksum Sized (λ s. strict_sound s (tidy s) (checksum_bite s) (checksum_sound s)) sized_holds b L.0 L.1;
    }

inlinees_listed : (b : List ℕ) (m : ℕ) → inlinees_mark b ≡ some m → Listed INLINEE_LINES b
unfolding inlinees_mark items_of inlinees_items inlinees
inlinees_listed b m = go (ltb (length b) 4) refl (ltb 1 (u32_at b 0)) refl
  where
    g : ℕ
    g = u32_at b 0

    x : Bool
    x = extended (u32_at b 0)

    go : (t : Bool) → ltb (length b) 4 ≡ t → (v : Bool) → ltb 1 (u32_at b 0) ≡ v
        → cond t none (cond v none (marked (wholly (inlinee_bite x) (drop 4 b)) g)) ≡ some m → Listed INLINEE_LINES b
    go true e v f q = no_some q
    go false e true f q = no_some q
    go false e false f q =
        let L = whole_list (inlinee_bite x) (drop 4 b) (marked_some (wholly (inlinee_bite x) (drop 4 b)) g m q) in
        record {
          sec = inlinees_of g L.0;
          kind = refl;
          read = rw e (ap (λ (y : Listing Inlinee Told). more (open_inlinees g) (each inlinee y)) L.1
              ∙ ap (more (open_inlinees g)) (each_before inlinee L.0));
          good = (ltb-false 1 g f, good_list (inlinee_bite x) (Fits x) (inlinee_sound x) (inlinee_holds x) (drop 4 b) L.0 L.1);
        }

modules_listed : (b : List ℕ) (m : ℕ) → marked (wholly module_bite b) 0 ≡ some m → Listed CROSS_SCOPE_IMPORTS b
unfolding items_of imports_items modules
modules_listed b m q =
    let L = whole_list module_bite b (marked_some (wholly module_bite b) 0 m q) in
    record {
      sec = imports_of L.0;
      kind = refl;
      read = ap (λ (x : Listing Module Told). more open_imports (each imports x)) L.1 ∙ ap (more open_imports) (each_before imports L.0);
      good = any L.0;
    }
  where
    any : (ms : List Module) → Each Any ms
    any [] = tt
    any (n ∷ ms) = (tt, any ms)

even_pairs : (b : List ℕ) (ps : List Pair) → pairs b ≡ before ps ends → length b % 8 ≡ 0
unfolding pairs
even_pairs b = go (eqb (length b % 8) 0) refl
  where
    go : (t : Bool) → eqb (length b % 8) 0 ≡ t → (ps : List Pair) → cond t (all pair_bite length b) (fails (told why.ExportLength)) ≡ before ps ends
        → length b % 8 ≡ 0
    go true e ps q = eqb-true (length b % 8) 0 e
    go false e ps q = not_before (told why.ExportLength) ps q

pairs_listed : (b : List ℕ) (m : ℕ) → ascends_from 0 (pairs b) ≡ some m → Listed CROSS_SCOPE_EXPORTS b
unfolding items_of exports_items
pairs_listed b m q =
    let L = ascends_list (pairs b) 0 m q in
    record {
      sec = exports_of L.0;
      kind = refl;
      read = rw (eq-eqb (length b % 8) 0 (even_pairs b L.0 L.1))
          (ap (λ (x : Listing Pair Told). more open_exports (each exports x)) L.1 ∙ ap (more open_exports) (each_before exports L.0));
      good = L.2;
    }

opaque_listed : (k : ℕ) (b : List ℕ) (m : ℕ) → marked (is_opaque k && eqb (length b % 4) 0) 0 ≡ some m → Listed k b
opaque_listed k b m q =
    let a = and_true (is_opaque k) (eqb (length b % 4) 0) (marked_some (is_opaque k && eqb (length b % 4) 0) 0 m q) in
    let g : (is_opaque k ≡ true) × (length b % 4 ≡ 0) = (a.0, eqb-true (length b % 4) 0 a.1) in
    record { sec = opaque_of k b; kind = refl; read = good_reads (opaque_of k b) g; good = g }

of_kind_lem : (k j : ℕ) (b : List ℕ) → k ≡ j → Listed j b → Listed k b
of_kind_lem k j b e L = rw e L

pub mark_listed : (k : ℕ) (b : List ℕ) (m : ℕ) → mark_of k b ≡ some m → Listed k b
unfolding mark_of
mark_listed k b m = go (eqb k LINES) refl (eqb k FILE_CHECKSUMS) refl (eqb k INLINEE_LINES) refl (eqb k CROSS_SCOPE_IMPORTS) refl
    (eqb k CROSS_SCOPE_EXPORTS) refl
  where
    go : (t₂ : Bool) → eqb k LINES ≡ t₂ → (t₄ : Bool) → eqb k FILE_CHECKSUMS ≡ t₄ → (t₆ : Bool) → eqb k INLINEE_LINES ≡ t₆ → (t₇ : Bool)
        → eqb k CROSS_SCOPE_IMPORTS ≡ t₇ → (t₈ : Bool) → eqb k CROSS_SCOPE_EXPORTS ≡ t₈
        → cond t₂ (lines_mark b) (cond t₄ (marked (wholly plain_checksum b) 0) (cond t₆ (inlinees_mark b) (cond t₇ (marked (wholly module_bite b) 0)
        (cond t₈ (ascends_from 0 (pairs b)) (marked (is_opaque k && eqb (length b % 4) 0) 0))))) ≡ some m → Listed k b
    go true e₂ t₄ e₄ t₆ e₆ t₇ e₇ t₈ e₈ q = of_kind_lem k LINES b (eqb-true k LINES e₂) (lines_listed b m q)
    go false e₂ true e₄ t₆ e₆ t₇ e₇ t₈ e₈ q = of_kind_lem k FILE_CHECKSUMS b (eqb-true k FILE_CHECKSUMS e₄) (checksums_listed b m q)
    go false e₂ false e₄ true e₆ t₇ e₇ t₈ e₈ q = of_kind_lem k INLINEE_LINES b (eqb-true k INLINEE_LINES e₆) (inlinees_listed b m q)
    go false e₂ false e₄ false e₆ true e₇ t₈ e₈ q = of_kind_lem k CROSS_SCOPE_IMPORTS b (eqb-true k CROSS_SCOPE_IMPORTS e₇) (modules_listed b m q)
    go false e₂ false e₄ false e₆ false e₇ true e₈ q = of_kind_lem k CROSS_SCOPE_EXPORTS b (eqb-true k CROSS_SCOPE_EXPORTS e₈) (pairs_listed b m q)
    go false e₂ false e₄ false e₆ false e₇ false e₈ q = opaque_listed k b m q

-- ---- and a plain area lists the calls of such subsections

abbrev pub KnownKind : Raw → Type 0
KnownKind r = among r.kind known_kinds ≡ true

pub record ListedSecs (rs : List Raw) : Type 0 where
  pub secs : List Sec
  pub good : Each GoodSec secs
  pub kinds : Each KnownKind rs
  pub reads : spread items_of (before rs ends) ≡ before (calls_of secs) ends

pub raws_listed : (rs : List Raw) → Each Marked rs → ListedSecs rs
raws_listed [] g = record { secs = []; good = tt; kinds = tt; reads = refl }
raws_listed (r ∷ rs) g =
    let L = mark_listed r.kind r.body g.0.0 g.0.1 in
    let S = raws_listed rs g.1 in
    let er = L.read in
    let es = S.reads in
    record {
      secs = L.sec ∷ S.secs;
      good = (L.good, S.good);
      kinds = (rw (← L.kind) (good_kind L.sec L.good), S.kinds);
      reads = (λ i. and_then (er i) (es i)) ∙ then_before (calls_sec L.sec) (before (calls_of S.secs) ends)
          ∙ sym (before_append (calls_sec L.sec) (calls_of S.secs) ends);
    }

same_before : (rs : List Raw) → mapped (λ (r : Raw). r) (λ (c : Lack). told why.Cut) (before rs ends) ≡ before rs ends
same_before [] = refl
same_before (r ∷ rs) = ap (more r) (same_before rs)

pub listed_before : (s : List ℕ) (rs : List Raw) → parts s ≡ before rs ends → items_in s ≡ spread items_of (before rs ends)
listed_before s rs e = ap (λ (l : Parts). spread items_of (mapped (λ (r : Raw). r) (λ (c : Lack). told why.Cut) l)) e ∙ ap (spread items_of) (same_before rs)

-- what is known of a plain area of any length
pub record Area (s : List ℕ) : Type 0 where
  pub raws : List Raw
  pub parts : parts s ≡ before raws ends
  pub marked : Each Marked raws
  pub secs : ListedSecs raws

pub area_of : (s : List ℕ) → PlainAtAnyLength s → Area s
area_of s p =
    let F = from_list (parts s) 0 nothing_yet p.0 p.1 in
    record { raws = F.0; parts = F.1; marked = F.2; secs = raws_listed F.0 F.2 }

pub area_lists : (s : List ℕ) (A : Area s) → items_in s ≡ before (calls_of A.secs.secs) ends
area_lists s A = listed_before s A.raws A.parts ∙ A.secs.reads

-- by every rule that knows the plain kinds
module _ (rule : ℕ → Sort) (knows : KnowsPlain rule) where
  bodies_known : (rs : List Raw) → Each KnownKind rs → bodies_in rule (before rs ends) ≡ before rs ends
  unfolding bodies_in
  bodies_known [] g = refl
  bodies_known (r ∷ rs) g = rw (knows r.kind g.0) (ap (more r) (bodies_known rs g.1))

  numbered_reads : (rs : List Raw) (xs : List Item) → spread items_of (before rs ends) ≡ before xs ends
      → spread (λ (r : Raw). numbered (items_of r)) (before rs ends) ≡ before xs ends
  numbered_reads rs xs e = go rs ∙ ap numbered e ∙ numbered_before xs
    where
      go : (rs : List Raw) → spread (λ (r : Raw). numbered (items_of r)) (before rs ends) ≡ numbered (spread items_of (before rs ends))
      go [] = refl
      go (r ∷ rs) = ap (and_then (numbered (items_of r))) (go rs) ∙ sym (map_then (λ (i : Item). i) number_of (items_of r) (spread items_of (before rs ends)))

  pub area_reads : (s : List ℕ) (A : Area s) → length s ≤ longest → reading rule s ≡ before (calls_of A.secs.secs) ends
  unfolding bodies
  area_reads s A l =
      let rs = A.raws in
      let b : bodies rule s ≡ before rs ends = (rw (le-ltb longest (length s) l, A.parts) (bodies_known rs A.secs.kinds)) in
      before_numbered (reading rule s) (calls_of A.secs.secs)
      (reading_bodies rule s ∙ ap (spread (λ (r : Raw). numbered (items_of r))) b ∙ numbered_reads rs (calls_of A.secs.secs) A.secs.reads)

  -- THE THEOREM: the length aside, the listing is the full reading
  pub listed_reads : (s : List ℕ) → PlainAtAnyLength s → length s ≤ longest → reading rule s ≡ items_in s
  listed_reads s p l = let A = area_of s p in area_reads s A l ∙ sym (area_lists s A)
