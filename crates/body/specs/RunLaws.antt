-- Records one after the other, of any kind: a walk over their bytes gives them back, and a walk that ends whole was over their bytes.
use Rattle.std.specs.Prelude.{ℕ, zero, suc, ◌-◌, ◌<◌, ◌≤◌, refl, drop}
use Rattle.std.proofs.Math.Path.{◌≡◌, ap}
use Rattle.std.proofs.Common.{sym, ◌∙◌, arith, length-drop}
use mathlib.Core.List.{List, [], ◌∷◌, ◌++◌, append_assoc, append-nil}
use Rattle.std.proofs.Math.ListN.{length}
use Rattle.word.specs.Word.{Bytes}
use Rattle.walk.specs.Listing.{Move, item, pass, over, fail, more, ends, on_move, before, all}
use Rattle.walk.specs.ListingLaws.{To, all_step, all_ind}
use Rattle.refusal.specs.Told.{Told}

-- the bytes of records one after the other
unfoldable pub bytes_all : {B : Type 0} → (B → List ℕ) → List B → List ℕ
bytes_all enc [] = []
bytes_all enc (b ∷ bs) = enc b ++ bytes_all enc bs

pub all_snoc : {B : Type 0} (enc : B → List ℕ) (bs : List B) (b : B) → bytes_all enc (bs ++ (b ∷ [])) ≡ bytes_all enc bs ++ enc b
unfolding bytes_all
all_snoc enc [] b = append-nil (enc b)
all_snoc enc (x ∷ bs) b = ap (λ (l : List ℕ). enc x ++ l) (all_snoc enc bs b) ∙ sym (append_assoc (enc x) (bytes_all enc bs) (enc b))

-- each of them
abbrev pub Each : {B : Type 0} → (B → Type 0) → List B → Type 0
Each P [] = Unit {0}
Each P (b ∷ bs) = P b × Each P bs

pub each_snoc : {B : Type 0} (P : B → Type 0) (bs : List B) (b : B) → Each P bs → P b → Each P (bs ++ (b ∷ []))
each_snoc P [] b h p = (p, tt)
each_snoc P (x ∷ bs) b h p = (h.0, each_snoc P bs b h.1 p)

-- where a step leads: fewer bytes, and those behind the front ones; it ends where nothing is left
abbrev pub Sound : {B : Type 0} → List ℕ → Move (List ℕ) B Told → Type 0
Sound s (item b t) = (length t < length s) × (t ≡ drop (length s - length t) s)
Sound s (pass t) = ⊥
Sound s over = length s ≡ 0
Sound s (fail r) = Unit {0}

pub sound_drop : (s : List ℕ) (n : ℕ) → 0 < n → n ≤ length s → (length (drop n s) < length s) × (drop n s ≡ drop (length s - length (drop n s)) s)
sound_drop s n h l =
    let e : n ≡ length s - length (drop n s) = omega (arith, length-drop n s) in
    (omega (arith, length-drop n s), ap (λ (k : ℕ). drop k s) e)

pub sound_falls : {B : Type 0} (s : List ℕ) (u : Move (List ℕ) B Told) → Sound s u → To u (λ t. length t < length s)
sound_falls s (item b t) w = w.0
sound_falls s (pass t) w = absurd w
sound_falls s over w = tt
sound_falls s (fail r) w = tt

pub nil_of : (s : List ℕ) → length s ≡ 0 → s ≡ []
nil_of [] e = refl
nil_of (x ∷ s) e = absurd (omega arith)

-- what a step says of the bytes: a record of good form stands in front, or nothing is left, or the step fails
abbrev pub Fronts : {B : Type 0} → (B → List ℕ) → (B → Type 0) → List ℕ → Move (List ℕ) B Told → Type 0
Fronts enc Good s (item b t) = (s ≡ enc b ++ t) × Good b
Fronts enc Good s (pass t) = ⊥
Fronts enc Good s over = s ≡ []
Fronts enc Good s (fail r) = Unit {0}

bytes_behind : (x t : List ℕ) → Bytes (x ++ t) → Bytes t
bytes_behind [] t h = h
bytes_behind (a ∷ x) t h = bytes_behind x t (λ i. h (suc i))

pub bytes_right : (s x t : List ℕ) → s ≡ x ++ t → Bytes s → Bytes t
bytes_right s x t e h = bytes_behind x t (rw e at h)

pub bytes_left : (x t : List ℕ) → Bytes (x ++ t) → Bytes x
bytes_left [] t h i = omega arith
bytes_left (a ∷ x) t h zero = h zero
bytes_left (a ∷ x) t h (suc i) = bytes_left x t (λ j. h (suc j)) i

module _ {B : Type 0} (step : List ℕ → Move (List ℕ) B Told) (enc : B → List ℕ) (Good : B → Type 0)
    (sound : (s : List ℕ) → Sound s (step s)) where
  falls : (s : List ℕ) → To (step s) (λ t. length t < length s)
  falls s = sound_falls s (step s) (sound s)

  module _ (ended : step [] ≡ over) (forth : (b : B) (t : List ℕ) → Good b → step (enc b ++ t) ≡ item b t) where
    pub run_forth : (bs : List B) → Each Good bs → all step length (bytes_all enc bs) ≡ before bs ends
    unfolding bytes_all
    run_forth [] h = all_step step length falls [] ∙ ap (on_move (all step length)) ended
    run_forth (b ∷ bs) h =
        all_step step length falls (enc b ++ bytes_all enc bs) ∙ ap (on_move (all step length)) (forth b (bytes_all enc bs) h.0) ∙ ap (more b) (run_forth bs h.1)

  pub record Made (s : List ℕ) (bs : List B) : Type 0 where
    pub bytes : s ≡ bytes_all enc bs
    pub good : Each Good bs

  module _ (back : (s : List ℕ) → Bytes s → Fronts enc Good s (step s)) where
    pub run_back : (s : List ℕ) → Bytes s → (bs : List B) → all step length s ≡ before bs ends → Made s bs
    unfolding bytes_all
    run_back s h bs e = all_ind step length falls (λ x l. Bytes x → (cs : List B) → l ≡ before cs ends → Made x cs) one s h bs e
      where
        by : (x : List ℕ) (u : Move (List ℕ) B Told) → Bytes x → Fronts enc Good x u → To u (λ t. Bytes t → (cs : List B) → all step length t ≡ before cs ends → Made t cs)
            → (cs : List B) → on_move (all step length) u ≡ before cs ends → Made x cs
        by x (item b t) h w f [] e = let z : ◌≡◌ {A = ℕ} 0 1 = cc in absurd (omega arith)
        by x (item b t) h w f (c ∷ cs) e =
            let eb : b ≡ c = cc in
            let et : all step length t ≡ before cs ends = cc in
            let m = f (bytes_right x (enc b) t w.0 h) cs et in
            record {
              bytes = w.0 ∙ ap (λ (l : List ℕ). enc b ++ l) m.bytes ∙ ap (λ (d : B). enc d ++ bytes_all enc cs) eb;
              good = (rw eb at w.1, m.good);
            }
        by x (pass t) h w f cs e = absurd w
        by x over h w f [] e = record { bytes = w; good = tt }
        by x over h w f (c ∷ cs) e = let z : ◌≡◌ {A = ℕ} 0 1 = cc in absurd (omega arith)
        by x (fail r) h w f [] e = let z : ◌≡◌ {A = ℕ} 0 1 = cc in absurd (omega arith)
        by x (fail r) h w f (c ∷ cs) e = let z : ◌≡◌ {A = ℕ} 0 1 = cc in absurd (omega arith)

        one : (x : List ℕ) → To (step x) (λ t. Bytes t → (cs : List B) → all step length t ≡ before cs ends → Made t cs)
            → Bytes x → (cs : List B) → on_move (all step length) (step x) ≡ before cs ends → Made x cs
        one x f h cs e = by x (step x) h (back x h) f cs e
