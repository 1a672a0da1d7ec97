-- A buffer that holds subsections of good form: what a call that goes on leaves holds one more, or the last one with one record more.
use Rattle.std.specs.Prelude.{ℕ, ◌+◌, ◌-◌, ◌/◌, ◌%◌, ◌≤◌, ◌≡◌, refl, ◌⊎◌, List, [], ◌∷◌, ◌++◌, map, Bool, true, false, cond, length, take, drop, eqb}
use Rattle.std.proofs.Common.{sym, ap, ◌∙◌, inl, inr, append_assoc, append-nil, arith, length-append, length-take-le, take_at, drop_at, leb-true, eqb-true}
use Rattle.word.specs.Word.{le32, put, header}
use Rattle.word.specs.WordLaws.{header_length, le32_length}
use Rattle.kinds.specs.Kind.{LINES, FILE_CHECKSUMS, INLINEE_LINES, CROSS_SCOPE_IMPORTS, CROSS_SCOPE_EXPORTS}
use Rattle.area.specs.Parts.{Raw}
use Rattle.area.specs.Join.{bytes_of, join}
use Rattle.area.specs.JoinLaws.{appended}
use Rattle.body.specs.Lines.{columned, columns_of, Block, line_head_bytes, block_bytes}
use Rattle.body.specs.Checksums.{Checksum, checksum_bytes}
use Rattle.body.specs.Inlinees.{Inlinee, extended, inlinee_bytes}
use Rattle.body.specs.Imports.{Module, module_bytes}
use Rattle.body.specs.Exports.{Pair, pair_bytes}
use Rattle.body.specs.RunLaws.{bytes_all, Each, all_snoc, each_snoc}
use Rattle.body.specs.LinesLaws.{Filled}
use Rattle.body.specs.InlineesLaws.{Fits}
use Rattle.reading.specs.Reading.{Item, open_lines, block, open_checksums, checksum, open_inlinees, inlinee, open_imports, imports, open_exports, exports, opaque, opens}
use Rattle.plain.specs.Plain.{is_opaque, Last}
use Rattle.writer_decides.specs.Calls.{item_kind, bytes_for, block_rule, obeys, grown}
use Rattle.writer_decides.specs.CallLaws.{fits_size, fits_block, fits_opaque}
use Rattle.writer.specs.LentLaws.{put_at_lem}
use Rattle.round_trip.specs.Secs.{Sec, lines_of, checksums_of, inlinees_of, imports_of, exports_of, opaque_of, kind_sec, body_sec, raw_sec, calls_sec, Sized, Ascend, floor_after, GoodSec, mark_sec, raws_of, calls_of, last_of}

-- ---- lists of subsections

pub raws_snoc : (ss : List Sec) (s : Sec) → raws_of (ss ++ (s ∷ [])) ≡ raws_of ss ++ (raw_sec s ∷ [])
raws_snoc [] s = refl
raws_snoc (x ∷ ss) s = ap (λ (l : List Raw). raw_sec x ∷ l) (raws_snoc ss s)

pub calls_snoc : (ss : List Sec) (s : Sec) → calls_of (ss ++ (s ∷ [])) ≡ calls_of ss ++ calls_sec s
calls_snoc [] s = append-nil (calls_sec s)
calls_snoc (x ∷ ss) s = ap (λ (l : List Item). calls_sec x ++ l) (calls_snoc ss s) ∙ sym (append_assoc (calls_sec x) (calls_of ss) (calls_sec s))

pub join_snoc : (ss : List Sec) (s : Sec) → join (raws_of (ss ++ (s ∷ []))) ≡ join (raws_of ss) ++ (header (kind_sec s) (length (body_sec s)) ++ body_sec s)
join_snoc ss s = ap join (raws_snoc ss s) ∙ sym (appended (join (raws_of ss)) (raws_of ss) (raw_sec s) refl)

pub join_length : (ss : List Sec) (s : Sec) → length (join (raws_of (ss ++ (s ∷ [])))) ≡ length (join (raws_of ss)) + (8 + length (body_sec s))
join_length ss s =
    ap length (join_snoc ss s) ∙ length-append (join (raws_of ss)) (header (kind_sec s) (length (body_sec s)) ++ body_sec s)
    ∙ omega (arith, length-append (header (kind_sec s) (length (body_sec s))) (body_sec s), header_length (kind_sec s) (length (body_sec s)))

cons_length : (s : Sec) (ss : List Sec) → length (join (raws_of (s ∷ ss))) ≡ 8 + length (body_sec s) + length (join (raws_of ss))
unfolding join
cons_length s ss =
    length-append (bytes_of (raw_sec s)) (join (raws_of ss))
    ∙ omega (arith, length-append (header (kind_sec s) (length (body_sec s))) (body_sec s), header_length (kind_sec s) (length (body_sec s)))

pub last_snoc : (ss : List Sec) (s : Sec) (p : ℕ) (last : Last)
    → last_of p last (ss ++ (s ∷ [])) ≡ record { header = p + length (join (raws_of ss)); kind = kind_sec s; mark = mark_sec s }
unfolding join
last_snoc [] s p last = let e : p ≡ p + 0 = omega arith in λ i. record { header = e i; kind = kind_sec s; mark = mark_sec s }
last_snoc (x ∷ ss) s p last =
    let e : p + 8 + length (body_sec x) + length (join (raws_of ss)) ≡ p + length (join (raws_of (x ∷ ss))) = omega (arith, cons_length x ss) in
    last_snoc ss s (p + 8 + length (body_sec x)) (record { header = p; kind = kind_sec x; mark = mark_sec x }) ∙ (λ i. record { header = e i; kind = kind_sec s; mark = mark_sec s })

-- no subsection, or a last one
pub record Snoc (ss : List Sec) : Type 0 where
  pub init : List Sec
  pub last : Sec
  pub is : ss ≡ init ++ (last ∷ [])

pub snoc_view : (ss : List Sec) → (ss ≡ []) ⊎ Snoc ss
snoc_view [] = inl refl
snoc_view (s ∷ ss) = go (snoc_view ss)
  where
    go : (ss ≡ []) ⊎ Snoc ss → (s ∷ ss ≡ []) ⊎ Snoc (s ∷ ss)
    go (inl e) = inr (record { init = []; last = s; is = ap (λ (l : List Sec). s ∷ l) e })
    go (inr v) = inr (record { init = s ∷ v.init; last = v.last; is = ap (λ (l : List Sec). s ∷ l) v.is })

pub each_init : (P : Sec → Type 0) (ss : List Sec) (s : Sec) → Each P (ss ++ (s ∷ [])) → Each P ss × P s
each_init P [] s g = (tt, g.0)
each_init P (x ∷ ss) s g = let r = each_init P ss s g.1 in ((g.0, r.0), r.1)

-- ---- one record more

-- what the last subsection becomes
pub record Bigger (s : Sec) (it : Item) : Type 0 where
  pub sec : Sec
  pub kind : kind_sec sec ≡ kind_sec s
  pub body : body_sec sec ≡ body_sec s ++ bytes_for (mark_sec s) it
  pub calls : calls_sec sec ≡ calls_sec s ++ (it ∷ [])
  pub good : GoodSec sec

pub map_snoc : {B : Type 0} (f : B → Item) (bs : List B) (b : B) → map f (bs ++ (b ∷ [])) ≡ map f bs ++ (f b ∷ [])
map_snoc f [] b = refl
map_snoc f (x ∷ bs) b = ap (λ (l : List Item). f x ∷ l) (map_snoc f bs b)

columned_twice : (f : ℕ) → columned (f % 2) ≡ columned f
columned_twice f = let e : f % 2 % 2 ≡ f % 2 = omega arith in ap (λ (x : ℕ). eqb x 1) e

pub never : {A : Type 0} → ◌≡◌ {A = Bool} false true → A
never e = let z : ◌≡◌ {A = ℕ} 0 1 = cc in absurd (omega arith)

pub not_opaque : {A : Type 0} (k j : ℕ) → k ≡ j → is_opaque j ≡ false → is_opaque k ≡ true → A
not_opaque k j e f h = never (sym f ∙ ap is_opaque (sym e) ∙ h)

pub fits_extra : (t : Bool) (e : Inlinee) → cond t true (eqb (length e.extra) 0) ≡ true → Fits t e
fits_extra true e h = tt
fits_extra false e h = nil e.extra (eqb-true (length e.extra) 0 h)
  where
    nil : (ws : List ℕ) → length ws ≡ 0 → ws ≡ []
    nil [] z = refl
    nil (w ∷ ws) z = absurd (omega arith)

pub ascend_snoc : (f : ℕ) (ps : List Pair) (p : Pair) → Ascend f ps → floor_after f ps ≤ p.local → Ascend f (ps ++ (p ∷ []))
ascend_snoc f [] p g h = (h, tt)
ascend_snoc f (x ∷ ps) p g h = (g.0, ascend_snoc (x.local + 1) ps p g.1 h)

pub opaque_none : (is_opaque LINES ≡ false) × (is_opaque FILE_CHECKSUMS ≡ false) × (is_opaque INLINEE_LINES ≡ false)
    × (is_opaque CROSS_SCOPE_IMPORTS ≡ false) × (is_opaque CROSS_SCOPE_EXPORTS ≡ false)
unfolding is_opaque
opaque_none = (refl, refl, refl, refl, refl)

pub filled_by : (f : ℕ) (b : Block) → block_rule (f % 2) (length b.lines) (length b.columns) ≡ true → Filled (columned f) b
filled_by f b o =
    let h = fits_block (f % 2) (length b.lines) (length b.columns) o in
    record { pairs = omega (arith, h.0); columns = h.1 ∙ ap (λ (t : Bool). columns_of t (length b.lines / 2)) (columned_twice f) }

unfoldable pub bigger_block : (s : Sec) (b : Block) → GoodSec s → kind_sec s ≡ LINES → obeys (mark_sec s) (block b) ≡ true → Bigger s (block b)
bigger_block (lines_of h bs) b g e o = record {
  sec = lines_of h (bs ++ (b ∷ []));
  kind = refl;
  body = ap (λ (x : List ℕ). line_head_bytes h ++ x) (all_snoc block_bytes bs b) ∙ sym (append_assoc (line_head_bytes h) (bytes_all block_bytes bs) (block_bytes b));
  calls = ap (λ (x : List Item). open_lines h ∷ x) (map_snoc block bs b);
  good = each_snoc (Filled (columned h.flags)) bs b g (filled_by h.flags b o);
}
bigger_block (checksums_of cs) b g e o = absurd (omega arith)
bigger_block (inlinees_of n es) b g e o = absurd (omega arith)
bigger_block (imports_of ms) b g e o = absurd (omega arith)
bigger_block (exports_of ps) b g e o = absurd (omega arith)
bigger_block (opaque_of k d) b g e o = not_opaque k LINES e opaque_none.0 g.0

unfoldable pub bigger_checksum : (s : Sec) (c : Checksum) → GoodSec s → kind_sec s ≡ FILE_CHECKSUMS → obeys (mark_sec s) (checksum c) ≡ true
    → Bigger s (checksum c)
bigger_checksum (lines_of h bs) c g e o = absurd (omega arith)
bigger_checksum (checksums_of cs) c g e o =
    let h = fits_size c.kind (length c.bytes) o in
    record {
      sec = checksums_of (cs ++ (c ∷ []));
      kind = refl;
      body = all_snoc checksum_bytes cs c;
      calls = ap (λ (x : List Item). open_checksums ∷ x) (map_snoc checksum cs c);
      good = each_snoc Sized cs c g (record { low = h.0; size = h.1 });
    }
bigger_checksum (inlinees_of n es) c g e o = absurd (omega arith)
bigger_checksum (imports_of ms) c g e o = absurd (omega arith)
bigger_checksum (exports_of ps) c g e o = absurd (omega arith)
bigger_checksum (opaque_of k d) c g e o = not_opaque k FILE_CHECKSUMS e opaque_none.1 g.0

unfoldable pub bigger_inlinee : (s : Sec) (i : Inlinee) → GoodSec s → kind_sec s ≡ INLINEE_LINES → obeys (mark_sec s) (inlinee i) ≡ true → Bigger s (inlinee i)
bigger_inlinee (lines_of h bs) i g e o = absurd (omega arith)
bigger_inlinee (checksums_of cs) i g e o = absurd (omega arith)
bigger_inlinee (inlinees_of n es) i g e o = record {
  sec = inlinees_of n (es ++ (i ∷ []));
  kind = refl;
  body = ap (λ (x : List ℕ). le32 n ++ x) (all_snoc (inlinee_bytes (extended n)) es i) ∙ sym (append_assoc (le32 n) (bytes_all (inlinee_bytes (extended n)) es) (inlinee_bytes (extended n) i));
  calls = ap (λ (x : List Item). open_inlinees n ∷ x) (map_snoc inlinee es i);
  good = (g.0, each_snoc (Fits (extended n)) es i g.1 (fits_extra (extended n) i o));
}
bigger_inlinee (imports_of ms) i g e o = absurd (omega arith)
bigger_inlinee (exports_of ps) i g e o = absurd (omega arith)
bigger_inlinee (opaque_of k d) i g e o = not_opaque k INLINEE_LINES e opaque_none.2 g.0

unfoldable pub bigger_module : (s : Sec) (m : Module) → GoodSec s → kind_sec s ≡ CROSS_SCOPE_IMPORTS → Bigger s (imports m)
bigger_module (lines_of h bs) m g e = absurd (omega arith)
bigger_module (checksums_of cs) m g e = absurd (omega arith)
bigger_module (inlinees_of n es) m g e = absurd (omega arith)
bigger_module (imports_of ms) m g e = record {
  sec = imports_of (ms ++ (m ∷ []));
  kind = refl;
  body = all_snoc module_bytes ms m;
  calls = ap (λ (x : List Item). open_imports ∷ x) (map_snoc imports ms m);
  good = each_snoc (λ x. Unit {0}) ms m g tt;
}
bigger_module (exports_of ps) m g e = absurd (omega arith)
bigger_module (opaque_of k d) m g e = not_opaque k CROSS_SCOPE_IMPORTS e opaque_none.3 g.0

unfoldable pub bigger_pair : (s : Sec) (p : Pair) → GoodSec s → kind_sec s ≡ CROSS_SCOPE_EXPORTS → obeys (mark_sec s) (exports p) ≡ true → Bigger s (exports p)
bigger_pair (lines_of h bs) p g e o = absurd (omega arith)
bigger_pair (checksums_of cs) p g e o = absurd (omega arith)
bigger_pair (inlinees_of n es) p g e o = absurd (omega arith)
bigger_pair (imports_of ms) p g e o = absurd (omega arith)
bigger_pair (exports_of ps) p g e o = record {
  sec = exports_of (ps ++ (p ∷ []));
  kind = refl;
  body = all_snoc pair_bytes ps p;
  calls = ap (λ (x : List Item). open_exports ∷ x) (map_snoc exports ps p);
  good = ascend_snoc 0 ps p g (leb-true (floor_after 0 ps) p.local o);
}
bigger_pair (opaque_of k d) p g e o = not_opaque k CROSS_SCOPE_EXPORTS e opaque_none.4 g.0

unfoldable pub bigger : (it : Item) (s : Sec) → opens it ≡ false → GoodSec s → kind_sec s ≡ item_kind it → obeys (mark_sec s) it ≡ true → Bigger s it
bigger (open_lines h) s b g e o = never (sym b)
bigger (block x) s b g e o = bigger_block s x g e o
bigger open_checksums s b g e o = never (sym b)
bigger (checksum c) s b g e o = bigger_checksum s c g e o
bigger (open_inlinees n) s b g e o = never (sym b)
bigger (inlinee i) s b g e o = bigger_inlinee s i g e o
bigger open_imports s b g e o = never (sym b)
bigger (imports m) s b g e o = bigger_module s m g e
bigger open_exports s b g e o = never (sym b)
bigger (exports p) s b g e o = bigger_pair s p g e o
bigger (opaque k d) s b g e o = never (sym b)

-- a new one
pub record Fresh (it : Item) (m : ℕ) : Type 0 where
  pub sec : Sec
  pub kind : kind_sec sec ≡ item_kind it
  pub body : body_sec sec ≡ bytes_for m it
  pub calls : calls_sec sec ≡ it ∷ []
  pub good : GoodSec sec

unfoldable pub fresh : (it : Item) (m : ℕ) → opens it ≡ true → obeys m it ≡ true → Fresh it m
unfolding bytes_all
fresh (open_lines h) m b o = record { sec = lines_of h []; kind = refl; body = append-nil (line_head_bytes h); calls = refl; good = tt }
fresh (block x) m b o = never b
fresh open_checksums m b o = record { sec = checksums_of []; kind = refl; body = refl; calls = refl; good = tt }
fresh (checksum c) m b o = never b
fresh (open_inlinees n) m b o = record { sec = inlinees_of n []; kind = refl; body = append-nil (le32 n); calls = refl; good = (leb-true n 1 o, tt) }
fresh (inlinee i) m b o = never b
fresh open_imports m b o = record { sec = imports_of []; kind = refl; body = refl; calls = refl; good = tt }
fresh (imports d) m b o = never b
fresh open_exports m b o = record { sec = exports_of []; kind = refl; body = refl; calls = refl; good = tt }
fresh (exports p) m b o = never b
fresh (opaque k d) m b o = record { sec = opaque_of k d; kind = refl; body = refl; calls = refl; good = fits_opaque k (length d) o }

-- ---- the buffer after a call that goes on

-- a run of bytes behind w
take_put : (b bs : List ℕ) (w : ℕ) → w ≤ length b → take (w + length bs) (put b w bs) ≡ take w b ++ bs
take_put b bs w h =
    ap (take (w + length bs)) (sym (append_assoc (take w b) bs (drop (w + length bs) b)))
    ∙ take_at (take w b ++ bs) (drop (w + length bs) b) (w + length bs) (length-append (take w b) bs ∙ ap (λ (x : ℕ). x + length bs) (length-take-le w b h))

-- a subsection behind subsections
pub after_fresh : (b : List ℕ) (w : ℕ) (ss : List Sec) (s : Sec) → w ≤ length b → take w b ≡ join (raws_of ss)
    → take (w + (8 + length (body_sec s))) (put b w (header (kind_sec s) (length (body_sec s)) ++ body_sec s)) ≡ join (raws_of (ss ++ (s ∷ [])))
after_fresh b w ss s h e =
    let bs : List ℕ = header (kind_sec s) (length (body_sec s)) ++ body_sec s in
    let l : 8 + length (body_sec s) ≡ length bs = sym (length-append (header (kind_sec s) (length (body_sec s))) (body_sec s) ∙ omega (arith, header_length (kind_sec s) (length (body_sec s)))) in
    ap (λ (n : ℕ). take (w + n) (put b w bs)) l ∙ take_put b bs w h ∙ ap (λ (x : List ℕ). x ++ bs) e ∙ sym (join_snoc ss s)

-- bytes behind the last subsection, which it takes in
pub after_bigger : (b bs : List ℕ) (w : ℕ) (ss : List Sec) (s t : Sec) → w ≤ length b → take w b ≡ join (raws_of (ss ++ (s ∷ []))) → kind_sec t ≡ kind_sec s → body_sec t ≡ body_sec s ++ bs
    → take (w + length bs) (grown b w bs (length (join (raws_of ss)))) ≡ join (raws_of (ss ++ (t ∷ [])))
after_bigger b bs w ss s t h e ek et =
    let J : List ℕ = join (raws_of ss) in
    let R : List ℕ = drop (w + length bs) b in
    let k = kind_sec s in
    let B = body_sec s in
    let m : ℕ = length B in
    let x : ℕ = w + length bs - length J - 8 in
    let tk : take w b ≡ J ++ (header k m ++ B) = e ∙ join_snoc ss s in
    let lw : w ≡ length J + (8 + m) = sym (length-take-le w b h) ∙ ap length e ∙ join_length ss s in
    let lx : x ≡ length (B ++ bs) = omega (arith, length-append B bs) in
    let p : put b w bs ≡ (J ++ le32 k) ++ (le32 m ++ (B ++ (bs ++ R))) = ap (λ (l : List ℕ). l ++ (bs ++ R)) tk ∙ (simp append_assoc) in
    let q : put (put b w bs) (length J + 4) (le32 x) ≡ (J ++ (header k x ++ (B ++ bs))) ++ R =
    ap (λ (l : List ℕ). put l (length J + 4) (le32 x)) p
    ∙ put_at_lem (J ++ le32 k) (le32 m ++ (B ++ (bs ++ R))) (le32 x) (length J + 4) (length-append J (le32 k) ∙ omega (arith, le32_length k))
    ∙ ap (λ (l : List ℕ). (J ++ le32 k) ++ (le32 x ++ l)) (drop_at (le32 m) (B ++ (bs ++ R)) (length (le32 x)) (le32_length m ∙ sym (le32_length x)))
    ∙ (simp append_assoc) in
    ap (take (w + length bs)) q
    ∙ take_at (J ++ (header k x ++ (B ++ bs))) R (w + length bs)
    (length-append J (header k x ++ (B ++ bs)) ∙ ap (λ (n : ℕ). length J + n) (length-append (header k x) (B ++ bs)) ∙ omega (arith, header_length k x, length-append B bs))
    ∙ ap (λ (n : ℕ). J ++ (header k n ++ (B ++ bs))) lx
    ∙ ap (λ (y : List ℕ). J ++ (header k (length y) ++ y)) (sym et)
    ∙ ap (λ (j : ℕ). J ++ (header j (length (body_sec t)) ++ body_sec t)) (sym ek)
    ∙ sym (join_snoc ss t)
