-- A plain area of bytes is the bytes of subsections of good form.
use Rattle.std.specs.Prelude.{ℕ, ◌+◌, ◌%◌, ◌≡◌, refl, List, [], ◌∷◌, ◌++◌, Bool, true, false, cond, ◌&&◌, length, take, drop, get_or, ltb, leb, eqb}
use Rattle.std.proofs.Common.{sym, ap, ◌∙◌, arith, length-drop, ltb-false, leb-true, eqb-true}
use Rattle.std.proofs.Math.Option.{Option, none, some}
use Rattle.word.specs.Word.{u16_at, u32_at, le16, le32, Bytes, header}
use Rattle.word.specs.WordLaws.{bytes_drop, u16_drop, le16_u16}
use Rattle.walk.specs.Cases.{and_true}
use Rattle.walk.specs.Listing.{Move, item, pass, over, fail, Listing, more, ends, fails, before, all}
use Rattle.refusal.specs.Told.{Told, told}
use Rattle.refusal.specs.declared.Refusal.TheVariants as why
use Rattle.kinds.specs.Kind.{LINES, FILE_CHECKSUMS, INLINEE_LINES, CROSS_SCOPE_IMPORTS, CROSS_SCOPE_EXPORTS}
use Rattle.area.specs.Parts.{Raw, Parts, parts}
use Rattle.area.specs.Join.{bytes_of, join}
use Rattle.area.specs.JoinLaws.{join_whole}
use Rattle.body.specs.Lines.{line_head_size, line_head, columned, line_bytes, block_head_size, block_bite, line_head_bytes, block_bytes}
use Rattle.body.specs.Checksums.{up4, checksum_bite, zeros, checksum_bytes}
use Rattle.body.specs.Inlinees.{extended, inlinee_bite, inlinee_bytes}
use Rattle.body.specs.Imports.{module_bite, module_bytes}
use Rattle.body.specs.Exports.{Pair, pair_bite, pairs, pair_bytes}
use Rattle.body.specs.RunLaws.{Each, Sound, nil_of, Fronts, run_back, bytes_right, bytes_left}
use Rattle.body.specs.WordsLaws.{peel32}
use Rattle.body.specs.LinesLaws.{head_back, Filled, block_sound, block_front}
use Rattle.body.specs.ChecksumsLaws.{padding, Facts, checksum_sound, checksum_front}
use Rattle.body.specs.InlineesLaws.{Fits, inlinee_sound, inlinee_front}
use Rattle.body.specs.ImportsLaws.{Any, module_sound, module_front}
use Rattle.body.specs.ExportsLaws.{Any as AnyPair, pair_sound, pair_front}
use Rattle.plain.specs.Plain.{strict, block_filled, plain_block, size_of, tidy, plain_checksum, ends_whole, wholly, ascends_from, marked, lines_mark, inlinees_mark, is_opaque, mark_of, Last, nothing_yet, on_mark, plain_from, plain_of}
use Rattle.plain.specs.RecordLaws.{padding_two}
use Rattle.plain.specs.PlainLaws.{plain_block_sound, plain_checksum_sound}
use Rattle.plain.specs.LastLaws.{not_long}
use Rattle.round_trip.specs.Secs.{Sec, lines_of, checksums_of, inlinees_of, imports_of, exports_of, opaque_of, kind_sec, body_sec, Sized, Ascend, GoodSec, raws_of}

pub no_some : {A B : Type 0} {x : B} → ◌≡◌ {A = Option B} none (some x) → A
no_some e = let z : ◌≡◌ {A = ℕ} 0 1 = cc in absurd (omega arith)

pub no_true : {A : Type 0} → ◌≡◌ {A = Bool} false true → A
no_true e = let z : ◌≡◌ {A = ℕ} 0 1 = cc in absurd (omega arith)

pub marked_some : (t : Bool) (x m : ℕ) → marked t x ≡ some m → t ≡ true
marked_some true x m q = refl
marked_some false x m q = no_some q

-- ---- records

fronts_strict : {B : Type 0} (enc : B → List ℕ) (Good : B → Type 0) (s : List ℕ) (t : Bool) (u : Move (List ℕ) B Told) → Sound s u → (t ≡ true → Fronts enc Good s u) → Fronts enc Good s (strict t u)
fronts_strict enc Good s true (item b x) w f = f refl
fronts_strict enc Good s false (item b x) w f = tt
fronts_strict enc Good s t (pass x) w f = absurd w
fronts_strict enc Good s t over w f = nil_of s w
fronts_strict enc Good s t (fail r) w f = tt

fronts_map : {B : Type 0} (enc : B → List ℕ) (P Q : B → Type 0) (s : List ℕ) (u : Move (List ℕ) B Told) → ((b : B) → P b → Q b) → Fronts enc P s u → Fronts enc Q s u
fronts_map enc P Q s (item b x) f w = (w.0, f b w.1)
fronts_map enc P Q s (pass x) f w = w
fronts_map enc P Q s over f w = w
fronts_map enc P Q s (fail r) f w = tt

block_back : (c : Bool) (s : List ℕ) → Bytes s → Fronts block_bytes (Filled c) s (plain_block c s)
block_back c s h =
    fronts_strict block_bytes (Filled c) s (block_filled c s) (block_bite c s) (block_sound c s)
    (λ e. block_front c s h (eqb-true (u32_at s 8) (block_head_size + line_bytes c (u32_at s 4)) e))

two_zeros : zeros 2 ≡ le16 0
unfolding zeros le16
two_zeros = refl

checksum_back : (s : List ℕ) → Bytes s → Fronts checksum_bytes Sized s (plain_checksum s)
checksum_back s h = fronts_strict checksum_bytes Sized s (tidy s) (checksum_bite s) (checksum_sound s) on_tidy
  where
    on_tidy : tidy s ≡ true → Fronts checksum_bytes Sized s (checksum_bite s)
    on_tidy e =
        let n = get_or s 4 0 in
        let k = get_or s 5 0 in
        let a = and_true (eqb n (size_of k)) (eqb (u16_at s (6 + n)) 0) e in
        let es : n ≡ size_of k = eqb-true n (size_of k) a.0 in
        let ez : u16_at s (6 + n) ≡ 0 = eqb-true (u16_at s (6 + n)) 0 a.1 in
        let up : up4 (6 + n) ≡ n + 8 = ap (λ (x : ℕ). up4 (6 + x)) es ∙ padding_two k ∙ ap (λ (x : ℕ). x + 8) (sym es) in
        let p : padding n ≡ 2 = omega arith in
        let e₀ : u16_at (drop (6 + n) s) 0 ≡ 0 = u16_drop s (6 + n) 0 ∙ ap (u16_at s) (let q : 6 + n + 0 ≡ 6 + n = omega arith in q) ∙ ez in
        fronts_map checksum_bytes (Facts s) Sized s (checksum_bite s) (λ c f. record { low = f.low; size = f.size ∙ es ∙ ap size_of (sym f.kind) })
        (checksum_front s h
        (λ l. ap (λ (x : ℕ). take x (drop (6 + n) s)) p
        ∙ sym (le16_u16 (drop (6 + n) s) (bytes_drop (6 + n) s h) (omega (arith, length-drop (6 + n) s)))
        ∙ ap le16 e₀ ∙ sym two_zeros ∙ ap zeros (sym p)))

-- ---- bodies

pub ends_list : {B : Type 0} (l : Listing B Told) → ends_whole l ≡ true → (bs : List B) × (l ≡ before bs ends)
ends_list (more b l) e = let r = ends_list l e in (b ∷ r.0, ap (more b) r.1)
ends_list ends e = ([], refl)
ends_list (fails r) e = no_true e

pub whole_list : {B : Type 0} (step : List ℕ → Move (List ℕ) B Told) (s : List ℕ) → wholly step s ≡ true → (bs : List B) × (all step length s ≡ before bs ends)
unfolding wholly
whole_list step s e = ends_list (all step length s) e

pub ascends_list : (l : Listing Pair Told) (f m : ℕ) → ascends_from f l ≡ some m → (ps : List Pair) × (l ≡ before ps ends) × Ascend f ps
unfolding ascends_from
ascends_list (more p l) f m q = go (leb f p.local) refl q (ascends_list l (p.local + 1) m)
  where
    go : (t : Bool) → leb f p.local ≡ t → cond t (ascends_from (p.local + 1) l) none ≡ some m → (ascends_from (p.local + 1) l ≡ some m → (ps : List Pair) × (l ≡ before ps ends) × Ascend (p.local + 1) ps)
        → (ps : List Pair) × (more p l ≡ before ps ends) × Ascend f ps
    go true e q ih = let r = ih q in (p ∷ r.0, ap (more p) r.1, (leb-true f p.local e, r.2))
    go false e q ih = no_some q
ascends_list ends f m q = ([], refl, tt)
ascends_list (fails r) f m q = no_some q

pub record Back (k : ℕ) (b : List ℕ) : Type 0 where
  pub sec : Sec
  pub kind : kind_sec sec ≡ k
  pub body : body_sec sec ≡ b
  pub good : GoodSec sec

lines_back : (b : List ℕ) (m : ℕ) → Bytes b → lines_mark b ≡ some m → Back LINES b
unfolding lines_mark
lines_back b m h = go (ltb (length b) line_head_size) refl
  where
    c : Bool
    c = columned (line_head b).flags

    go : (t : Bool) → ltb (length b) line_head_size ≡ t → cond t none (marked (wholly (plain_block c) (drop line_head_size b)) ((line_head b).flags % 2)) ≡ some m
        → Back LINES b
    go true e q = no_some q
    go false e q =
        let L = whole_list (plain_block c) (drop line_head_size b) (marked_some (wholly (plain_block c) (drop line_head_size b)) ((line_head b).flags % 2) m q) in
        let M = run_back (plain_block c) block_bytes (Filled c) (plain_block_sound c) (block_back c) (drop line_head_size b) (bytes_drop line_head_size b h) L.0 L.1 in
        record {
          sec = lines_of (line_head b) L.0;
          kind = refl;
          body = ap (λ (x : List ℕ). line_head_bytes (line_head b) ++ x) (sym M.bytes) ∙ sym (head_back b h (ltb-false (length b) line_head_size e));
          good = M.good;
        }

inlinees_back : (b : List ℕ) (m : ℕ) → Bytes b → inlinees_mark b ≡ some m → Back INLINEE_LINES b
unfolding inlinees_mark
inlinees_back b m h = go (ltb (length b) 4) refl (ltb 1 (u32_at b 0)) refl
  where
    g : ℕ
    g = u32_at b 0

    go : (t : Bool) → ltb (length b) 4 ≡ t → (v : Bool) → ltb 1 (u32_at b 0) ≡ v
        → cond t none (cond v none (marked (wholly (inlinee_bite (extended g)) (drop 4 b)) g)) ≡ some m → Back INLINEE_LINES b
    go true e v f q = no_some q
    go false e true f q = no_some q
    go false e false f q =
        let L = whole_list (inlinee_bite (extended g)) (drop 4 b) (marked_some (wholly (inlinee_bite (extended g)) (drop 4 b)) g m q) in
        let M = run_back (inlinee_bite (extended g)) (inlinee_bytes (extended g)) (Fits (extended g)) (inlinee_sound (extended g)) (inlinee_front (extended g)) (drop 4 b) (bytes_drop 4 b h) L.0 L.1 in
        record {
          sec = inlinees_of g L.0;
          kind = refl;
          body = ap (λ (x : List ℕ). le32 g ++ x) (sym M.bytes) ∙ sym (peel32 b 0 h (ltb-false (length b) 4 e));
          good = (ltb-false 1 g f, M.good);
        }

checksums_back : (b : List ℕ) (m : ℕ) → Bytes b → marked (wholly plain_checksum b) 0 ≡ some m → Back FILE_CHECKSUMS b
checksums_back b m h q =
    let L = whole_list plain_checksum b (marked_some (wholly plain_checksum b) 0 m q) in
    let M = run_back plain_checksum checksum_bytes Sized plain_checksum_sound checksum_back b h L.0 L.1 in
    record { sec = checksums_of L.0; kind = refl; body = sym M.bytes; good = M.good }

modules_back : (b : List ℕ) (m : ℕ) → Bytes b → marked (wholly module_bite b) 0 ≡ some m → Back CROSS_SCOPE_IMPORTS b
modules_back b m h q =
    let L = whole_list module_bite b (marked_some (wholly module_bite b) 0 m q) in
    let M = run_back module_bite module_bytes Any module_sound module_front b h L.0 L.1 in
    record { sec = imports_of L.0; kind = refl; body = sym M.bytes; good = M.good }

pub pairs_list : (b : List ℕ) (ps : List Pair) → pairs b ≡ before ps ends → all pair_bite length b ≡ before ps ends
unfolding pairs
pairs_list b ps = go (eqb (length b % 8) 0) ps
  where
    go : (t : Bool) (xs : List Pair) → cond t (all pair_bite length b) (fails (told why.ExportLength)) ≡ before xs ends → all pair_bite length b ≡ before xs ends
    go true xs e = e
    go false [] e = let z : ◌≡◌ {A = ℕ} 0 1 = cc in absurd (omega arith)
    go false (x ∷ xs) e = let z : ◌≡◌ {A = ℕ} 0 1 = cc in absurd (omega arith)

pairs_back : (b : List ℕ) (m : ℕ) → Bytes b → ascends_from 0 (pairs b) ≡ some m → Back CROSS_SCOPE_EXPORTS b
pairs_back b m h q =
    let L = ascends_list (pairs b) 0 m q in
    let M = run_back pair_bite pair_bytes AnyPair pair_sound pair_front b h L.0 (pairs_list b L.0 L.1) in
    record { sec = exports_of L.0; kind = refl; body = sym M.bytes; good = L.2 }

at_kind : (k j : ℕ) (b : List ℕ) → k ≡ j → Back j b → Back k b
at_kind k j b e B = record { sec = B.sec; kind = B.kind ∙ sym e; body = B.body; good = B.good }

pub mark_back : (k : ℕ) (b : List ℕ) (m : ℕ) → Bytes b → mark_of k b ≡ some m → Back k b
unfolding mark_of
mark_back k b m h = go (eqb k LINES) refl (eqb k FILE_CHECKSUMS) refl (eqb k INLINEE_LINES) refl (eqb k CROSS_SCOPE_IMPORTS) refl
    (eqb k CROSS_SCOPE_EXPORTS) refl
  where
    go : (t₂ : Bool) → eqb k LINES ≡ t₂ → (t₄ : Bool) → eqb k FILE_CHECKSUMS ≡ t₄ → (t₆ : Bool) → eqb k INLINEE_LINES ≡ t₆ → (t₇ : Bool)
        → eqb k CROSS_SCOPE_IMPORTS ≡ t₇ → (t₈ : Bool) → eqb k CROSS_SCOPE_EXPORTS ≡ t₈
        → cond t₂ (lines_mark b) (cond t₄ (marked (wholly plain_checksum b) 0) (cond t₆ (inlinees_mark b) (cond t₇ (marked (wholly module_bite b) 0)
        (cond t₈ (ascends_from 0 (pairs b)) (marked (is_opaque k && eqb (length b % 4) 0) 0))))) ≡ some m → Back k b
    go true e₂ t₄ e₄ t₆ e₆ t₇ e₇ t₈ e₈ q = at_kind k LINES b (eqb-true k LINES e₂) (lines_back b m h q)
    go false e₂ true e₄ t₆ e₆ t₇ e₇ t₈ e₈ q = at_kind k FILE_CHECKSUMS b (eqb-true k FILE_CHECKSUMS e₄) (checksums_back b m h q)
    go false e₂ false e₄ true e₆ t₇ e₇ t₈ e₈ q = at_kind k INLINEE_LINES b (eqb-true k INLINEE_LINES e₆) (inlinees_back b m h q)
    go false e₂ false e₄ false e₆ true e₇ t₈ e₈ q = at_kind k CROSS_SCOPE_IMPORTS b (eqb-true k CROSS_SCOPE_IMPORTS e₇) (modules_back b m h q)
    go false e₂ false e₄ false e₆ false e₇ true e₈ q = at_kind k CROSS_SCOPE_EXPORTS b (eqb-true k CROSS_SCOPE_EXPORTS e₈) (pairs_back b m h q)
    go false e₂ false e₄ false e₆ false e₇ false e₈ q =
        let a = and_true (is_opaque k) (eqb (length b % 4) 0) (marked_some (is_opaque k && eqb (length b % 4) 0) 0 m q) in
        record { sec = opaque_of k b; kind = refl; body = refl; good = (a.0, eqb-true (length b % 4) 0 a.1) }

-- ---- areas

abbrev pub Marked : Raw → Type 0
Marked r = (m : ℕ) × (mark_of r.kind r.body ≡ some m)

pub from_list : (l : Parts) (p : ℕ) (last x : Last) → plain_from p last l ≡ some x → (rs : List Raw) × (l ≡ before rs ends) × Each Marked rs
unfolding plain_from
from_list (more r l) p last x q = go (mark_of r.kind r.body) refl q (λ m. from_list l (p + 8 + length r.body) (record { header = p; kind = r.kind; mark = m }) x)
  where
    go : (o : Option ℕ) → mark_of r.kind r.body ≡ o → on_mark o none (λ m. plain_from (p + 8 + length r.body) (record { header = p; kind = r.kind; mark = m }) l) ≡ some x
        → ((m : ℕ) → plain_from (p + 8 + length r.body) (record { header = p; kind = r.kind; mark = m }) l ≡ some x → (rs : List Raw) × (l ≡ before rs ends) × Each Marked rs)
        → (rs : List Raw) × (more r l ≡ before rs ends) × Each Marked rs
    go none e q ih = no_some q
    go (some m) e q ih = let t = ih m q in (r ∷ t.0, ap (more r) t.1, ((m, e), t.2))
from_list ends p last x q = ([], refl, tt)
from_list (fails c) p last x q = no_some q

-- a plain area is whole subsections, each of a plain body
pub plain_marked : (s : List ℕ) (l : Last) → plain_of s ≡ some l → (rs : List Raw) × (parts s ≡ before rs ends) × Each Marked rs
plain_marked s l q = from_list (parts s) 0 nothing_yet l (not_long s l q)

raws_back : (rs : List Raw) → Bytes (join rs) → Each Marked rs → (ss : List Sec) × (raws_of ss ≡ rs) × Each GoodSec ss
unfolding join
raws_back [] h g = ([], refl, tt)
raws_back (r ∷ rs) h g =
    let hb : Bytes r.body = bytes_right (bytes_of r) (header r.kind (length r.body)) r.body refl (bytes_left (bytes_of r) (join rs) h) in
    let B = mark_back r.kind r.body g.0.0 hb g.0.1 in
    let T = raws_back rs (bytes_right (bytes_of r ++ join rs) (bytes_of r) (join rs) refl h) g.1 in
    let ek = B.kind in
    let eb = B.body in
    let et = T.1 in
    (B.sec ∷ T.0, (λ i. record { kind = ek i; body = eb i } ∷ et i), (B.good, T.2))

pub plain_back : (s : List ℕ) (l : Last) → Bytes s → plain_of s ≡ some l → (ss : List Sec) × (join (raws_of ss) ≡ s) × Each GoodSec ss
plain_back s l h q =
    let F = plain_marked s l q in
    let j : join F.0 ≡ s = join_whole s F.0 h F.1 in
    let B = raws_back F.0 (rw j h) F.2 in
    (B.0, ap join B.1 ∙ j, B.2)
