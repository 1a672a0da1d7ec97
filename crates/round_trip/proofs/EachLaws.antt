-- One call alone: what a refused one leaves, and what stands behind the place that an accepted one answers.
use Rattle.std.specs.Prelude.{ℕ, ◌+◌, ◌-◌, ◌≤◌, ◌≡◌, refl, List, ◌++◌, Bool, true, false, cond, length, take, drop, leb}
use Rattle.std.proofs.Common.{sym, ap, ◌∙◌, append_assoc, arith, length-append, length-take-le, drop_at, drop-drop}
use Rattle.std.proofs.Math.Option.{Option, none, some}
use Rattle.word.specs.Word.{le32, put, header}
use Rattle.word.specs.WordLaws.{header_length, le32_length, put_length_lem}
use Rattle.walk.specs.Listing.{Reply, gave, refused}
use Rattle.refusal.specs.Told.{Told, told}
use Rattle.refusal.specs.declared.Refusal.TheVariants as why
use Rattle.reading.specs.Reading.{Item, opens}
use Rattle.plain.specs.Plain.{Last}
use Rattle.writer_decides.specs.Calls.{item_kind, bytes_for, obeys, Act, goes, stops, needs, act, patch, wrote, kept, answered, buffer_after, last_for, room, else_not_plain, on_last, limit}
use Rattle.writer_decides.specs.CallLaws.{needs_is, patch_is, act_is, kind_some, act_goes, grow_goes}

never : {A : Type 0} {n : ℕ} {t : Told} → ◌≡◌ {A = Reply ℕ Told} (gave n) (refused t) → A
never e = let z : ◌≡◌ {A = ℕ} 0 1 = cc in absurd (omega arith)

pub refused_same : (it : Item) (b : List ℕ) (w : ℕ) (t : Told) → answered it b w ≡ refused t → buffer_after it b w ≡ b
refused_same it b w t = go (act it b w)
  where
    go : (a : Act) → wrote a ≡ refused t → kept a (patch it b w) b ≡ b
    go (goes h m n) e = never e
    go (stops u) e = refl

-- a run put before n leaves what is behind n
drop_put : (b bs : List ℕ) (at n : ℕ) → at ≤ length b → at + length bs ≤ n → drop n (put b at bs) ≡ drop n b
drop_put b bs at n h l =
    let k = n - (at + length bs) in
    let e : at + length bs + k ≡ n = omega arith in
    let p : drop (at + length bs) (put b at bs) ≡ drop (at + length bs) b =
    ap (drop (at + length bs)) (sym (append_assoc (take at b) bs (drop (at + length bs) b)))
    ∙ drop_at (take at b ++ bs) (drop (at + length bs) b) (at + length bs) (length-append (take at b) bs ∙ ap (λ (x : ℕ). x + length bs) (length-take-le at b h)) in
    ap (λ (x : ℕ). drop x (put b at bs)) (sym e) ∙ sym (drop-drop k (at + length bs) (put b at bs)) ∙ ap (drop k) p ∙ drop-drop k (at + length bs) b ∙ ap (λ (x : ℕ). drop x b) e

module _ (it : Item) (b : List ℕ) (w h m n : ℕ) (q : act it b w ≡ goes h m n) where
  behind_fresh : opens it ≡ true → drop n (patch it b w h m) ≡ drop n b
  behind_fresh e =
      let g = act_goes it b w h m n q in
      let B : List ℕ = bytes_for m it in
      let bs : List ℕ = header (item_kind it) (length B) ++ B in
      let lb : length bs ≡ 8 + length B = length-append (header (item_kind it) (length B)) B ∙ omega (arith, header_length (item_kind it) (length B)) in
      let k : needs m it ≡ 8 + length B = needs_is it e m in
      ap (drop n) (patch_is it e b w h m) ∙ drop_put b bs w n (omega (arith, g.fits)) (omega (arith, g.next))

  behind_bigger : opens it ≡ false → drop n (patch it b w h m) ≡ drop n b
  behind_bigger e =
      let g = grow_goes (item_kind it) (λ k. obeys k it) (λ k. needs k it) b w h m n (kind_some it e) (sym (act_is it e b w) ∙ q) in
      let B : List ℕ = bytes_for m it in
      let k : needs m it ≡ length B = needs_is it e m in
      let v = w + length B - h - 8 in
      let l : length (put b w B) ≡ length b = put_length_lem b w B (omega (arith, g.fits)) in
      ap (drop n) (patch_is it e b w h m)
      ∙ drop_put (put b w B) (le32 v) (h + 4) n (omega (arith, g.head, g.fits)) (omega (arith, g.head, g.next, le32_length v))
      ∙ drop_put b B w n (omega (arith, g.fits)) (omega (arith, g.next))

pub behind_same : (it : Item) (b : List ℕ) (w n : ℕ) → answered it b w ≡ gave n → drop n (buffer_after it b w) ≡ drop n b
behind_same it b w n = go (act it b w) refl
  where
    on : (t : Bool) → opens it ≡ t → (h m x : ℕ) → act it b w ≡ goes h m x → drop x (patch it b w h m) ≡ drop x b
    on true e h m x q = behind_fresh it b w h m x q e
    on false e h m x q = behind_bigger it b w h m x q e

    go : (a : Act) → act it b w ≡ a → wrote a ≡ gave n → drop n (kept a (patch it b w) b) ≡ drop n b
    go (goes h m x) q e = let z : x ≡ n = cc in rw (← z) (on (opens it) refl h m x q)
    go (stops t) q e = never (sym e)

-- a call stops with 16, 17 or 10
stop_not : (r : Told) → (r.number ≡ 11 → ⊥) → (t : Told) → t.number ≡ 11 → ◌≡◌ {A = Reply ℕ Told} (refused r) (refused t) → ⊥
stop_not r h t e q = let z : r ≡ t = cc in h (ap (λ (x : Told). x.number) z ∙ e)

pub never_long : (it : Item) (b : List ℕ) (w : ℕ) (t : Told) → answered it b w ≡ refused t → t.number ≡ 11 → ⊥
unfolding room
never_long it b w t q e = on (last_for it b w) q
  where
    roomy : (c : Bool) (h m x : ℕ) → wrote (cond c (goes h m x) (stops (told why.NoRoom))) ≡ refused t → ⊥
    roomy true h m x q = never q
    roomy false h m x q = stop_not (told why.NoRoom) (λ z. omega arith) t e q

    rule : (c : Bool) (l : Last) → wrote (else_not_plain c (room (length b) w l.header l.mark (needs l.mark it))) ≡ refused t → ⊥
    rule true l q = roomy (leb (w + needs l.mark it) (limit (length b))) l.header l.mark (w + needs l.mark it) q
    rule false l q = stop_not (told why.NotPlain) (λ z. omega arith) t e q

    on : (o : Option Last) → wrote (on_last o (stops (told why.WrongPlace)) (λ l. else_not_plain (obeys l.mark it) (room (length b) w l.header l.mark (needs l.mark it)))) ≡ refused t → ⊥
    on none q = stop_not (told why.WrongPlace) (λ z. omega arith) t e q
    on (some l) q = rule (obeys l.mark it) l q
