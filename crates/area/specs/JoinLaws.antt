-- Laws of the bytes of subsections: `parts` undoes `join`, and `join` undoes `parts`.
use Rattle.std.specs.Prelude.{ℕ, ◌+◌, ◌-◌, ◌≡◌, refl, List, [], ◌∷◌, ◌++◌, length, take, drop}
use Rattle.std.proofs.Common.{sym, ap, ◌∙◌, append_assoc, append-nil, arith, length-append, take-append-drop, drop-drop, drop_at, take-add, le-ltb, ne_eqb}
use Rattle.std.proofs.Math.Seq.{take-append_seam, drop-append_seam}
use Rattle.word.specs.Word.{u32_at, header, Bytes}
use Rattle.word.specs.WordLaws.{header_length, header_first, header_second, header_u32, bytes_drop}
use Rattle.walk.specs.Listing.{Move, item, pass, over, fail, more, ends, on_move, before}
use Rattle.area.specs.Parts.{Raw, Lack, Parts, bite, parts}
use Rattle.area.specs.PartsLaws.{parts_step, Bitten, bitten}
use Rattle.area.specs.Join.{bytes_of, join}

-- ---- parts of a join

front_is : (s : List ℕ) (r : Raw) (t : List ℕ) → length s ≡ 8 + length r.body + length t → u32_at s 0 ≡ r.kind → u32_at s 4 ≡ length r.body
    → drop 8 s ≡ r.body ++ t → bite s ≡ item r t
unfolding bite
front_is s r t l e₀ e₄ d =
    let n = length r.body in
    let eb : take (u32_at s 4) (drop 8 s) ≡ r.body = ap (λ (m : ℕ). take m (drop 8 s)) e₄ ∙ ap (take n) d ∙ take-append_seam r.body t in
    let et : drop (8 + u32_at s 4) s ≡ t = ap (λ (m : ℕ). drop (8 + m) s) e₄ ∙ sym (drop-drop n 8 s) ∙ ap (drop n) d ∙ drop-append_seam r.body t in
    let h : (length s ≡ 0 → ⊥) = λ z. omega arith in
    rw (ne_eqb (length s) 0 h, le-ltb (length s) 8 (omega arith), le-ltb (length s - 8) (u32_at s 4) (omega arith))
    (λ i. item (record { kind = e₀ i; body = eb i }) (et i))

pub bite_front : (r : Raw) (t : List ℕ) → bite (bytes_of r ++ t) ≡ item r t
bite_front r t =
    let h = header r.kind (length r.body) in
    let a : (h ++ r.body) ++ t ≡ h ++ (r.body ++ t) = append_assoc h r.body t in
    ap bite a
    ∙ front_is (h ++ (r.body ++ t)) r t
    (length-append h (r.body ++ t) ∙ omega (arith, header_length r.kind (length r.body), length-append r.body t))
    (header_first r.kind (length r.body) (r.body ++ t))
    (header_second r.kind (length r.body) (r.body ++ t))
    (drop_at h (r.body ++ t) 8 (header_length r.kind (length r.body)))

pub parts_front : (r : Raw) (t : List ℕ) → parts (bytes_of r ++ t) ≡ more r (parts t)
parts_front r t = parts_step (bytes_of r ++ t) ∙ ap (on_move parts) (bite_front r t)

pub parts_nil : parts [] ≡ ends
unfolding bite
parts_nil = parts_step []

-- whole subsections, and any bytes behind them
pub parts_join : (rs : List Raw) (t : List ℕ) → parts (join rs ++ t) ≡ before rs (parts t)
unfolding join
parts_join [] t = refl
parts_join (r ∷ rs) t =
    ap parts (append_assoc (bytes_of r) (join rs) t) ∙ parts_front r (join rs ++ t) ∙ ap (more r) (parts_join rs t)

pub parts_whole : (rs : List Raw) → parts (join rs) ≡ before rs ends
parts_whole rs = ap parts (sym (append-nil (join rs))) ∙ parts_join rs [] ∙ ap (before rs) parts_nil

-- ---- join of parts

bytes_front : (s : List ℕ) (r : Raw) (t : List ℕ) → Bytes s → Bitten s (item r t) → s ≡ bytes_of r ++ t
bytes_front s r t b w =
    let n = length r.body in
    let e₁ : header r.kind n ≡ take 8 s = ap (λ (k : ℕ). header k n) w.1 ∙ ap (header (u32_at s 0)) w.2 ∙ header_u32 s b (omega arith) in
    let e₂ : bytes_of r ≡ take (8 + n) s = ap (λ (x : List ℕ). x ++ r.body) e₁ ∙ ap (λ (x : List ℕ). take 8 s ++ x) w.3 ∙ sym (take-add 8 n s) in
    sym (take-append-drop (8 + n) s) ∙ ap (λ (x : List ℕ). x ++ drop (8 + n) s) (sym e₂) ∙ ap (λ (x : List ℕ). bytes_of r ++ x) (sym w.4)

-- the bytes behind whole subsections
pub record Behind (s : List ℕ) (rs : List Raw) (l : Parts) : Type 0 where
  pub rest : List ℕ
  pub bytes : s ≡ join rs ++ rest
  pub is : parts rest ≡ l

-- where the parts of bytes begin with rs, the bytes begin with those of rs
pub join_parts : (s : List ℕ) (rs : List Raw) (l : Parts) → Bytes s → parts s ≡ before rs l → Behind s rs l
unfolding join
join_parts s [] l b e = record { rest = s; bytes = refl; is = e }
join_parts s (r ∷ rs) l b e =
    go (bite s) (bitten s) (sym (parts_step s) ∙ e) (λ t bt et. join_parts t rs l bt et)
  where
    go : (u : Move (List ℕ) Raw Lack) → Bitten s u → on_move parts u ≡ more r (before rs l)
        → ((t : List ℕ) → Bytes t → parts t ≡ before rs l → Behind t rs l) → Behind s (r ∷ rs) l
    go (item q t) w e ih =
        let er : q ≡ r = cc in
        let et : parts t ≡ before rs l = cc in
        let bt : Bytes t = rw w.4 (bytes_drop (8 + length q.body) s b) in
        let h = ih t bt et in
        record {
          rest = h.rest;
          bytes = bytes_front s q t b w ∙ ap (λ (x : List ℕ). bytes_of q ++ x) h.bytes ∙ sym (append_assoc (bytes_of q) (join rs) h.rest)
              ∙ ap (λ (x : Raw). (bytes_of x ++ join rs) ++ h.rest) er;
          is = h.is;
        }
    go (pass t) w e ih = absurd w
    go over w e ih = let z : ◌≡◌ {A = ℕ} 0 1 = cc in absurd (omega arith)
    go (fail c) w e ih = let z : ◌≡◌ {A = ℕ} 0 1 = cc in absurd (omega arith)

-- no bytes are left where the parts end whole
pub nothing_left : (s : List ℕ) → parts s ≡ ends → s ≡ []
nothing_left [] e = refl
nothing_left (x ∷ s) e = go (bite (x ∷ s)) (bitten (x ∷ s)) (sym (parts_step (x ∷ s)) ∙ e)
  where
    go : (u : Move (List ℕ) Raw Lack) → Bitten (x ∷ s) u → on_move parts u ≡ ends → x ∷ s ≡ []
    go (item q t) w e = let z : ◌≡◌ {A = ℕ} 0 1 = cc in absurd (omega arith)
    go (pass t) w e = absurd w
    go over w e = absurd (omega arith)
    go (fail c) w e = let z : ◌≡◌ {A = ℕ} 0 1 = cc in absurd (omega arith)

pub join_whole : (s : List ℕ) (rs : List Raw) → Bytes s → parts s ≡ before rs ends → join rs ≡ s
join_whole s rs b e =
    let h = join_parts s rs ends b e in
    sym (append-nil (join rs)) ∙ ap (λ (x : List ℕ). join rs ++ x) (sym (nothing_left h.rest h.is)) ∙ sym h.bytes

-- what a writer keeps: the bytes so far are those of rs, so rs is what they mean. An appended subsection, and a grown one
pub join_append : (rs qs : List Raw) → join (rs ++ qs) ≡ join rs ++ join qs
unfolding join
join_append [] qs = refl
join_append (r ∷ rs) qs = ap (λ (l : List ℕ). bytes_of r ++ l) (join_append rs qs) ∙ sym (append_assoc (bytes_of r) (join rs) (join qs))

pub means : (s : List ℕ) (rs : List Raw) → s ≡ join rs → parts s ≡ before rs ends
means s rs e = ap parts e ∙ parts_whole rs

pub appended : (s : List ℕ) (rs : List Raw) (r : Raw) → s ≡ join rs → s ++ bytes_of r ≡ join (rs ++ (r ∷ []))
unfolding join
appended s rs r e =
    ap (λ (l : List ℕ). l ++ bytes_of r) e ∙ ap (λ (l : List ℕ). join rs ++ l) (sym (append-nil (bytes_of r))) ∙ sym (join_append rs (r ∷ []))
