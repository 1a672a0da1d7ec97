-- The rules of plain areas that show in a listing: what each item obeys, and that local indices rise.
use Rattle.std.specs.Prelude.{ℕ, ◌+◌, ◌%◌, ◌<◌, ◌≤◌, ◌≡◌, refl, List, [], ◌∷◌, ◌++◌, map, length}
use Rattle.std.proofs.Common.{inl, inr, arith}
use Rattle.walk.specs.Listing.{Listing, ends, before}
use Rattle.refusal.specs.Told.{Told}
use Rattle.body.specs.Lines.{columned}
use Rattle.body.specs.Checksums.{Checksum}
use Rattle.body.specs.Inlinees.{extended}
use Rattle.body.specs.Exports.{Pair}
use Rattle.body.specs.RunLaws.{Each}
use Rattle.body.specs.LinesLaws.{Filled}
use Rattle.body.specs.InlineesLaws.{Fits}
use Rattle.reading.specs.Reading.{Item, open_lines, block, open_checksums, checksum, open_inlinees, inlinee, open_imports, imports, open_exports, exports, opaque}
use Rattle.plain.specs.Plain.{size_of}
use Rattle.round_trip.specs.Secs.{Sec, lines_of, checksums_of, inlinees_of, imports_of, exports_of, opaque_of, calls_sec, Sized, Ascend, GoodSec, calls_of}
use Rattle.round_trip.specs.InWords.{Lists, BeginsWith, ListsNext}

-- a list as a listing
abbrev pub listing : {B : Type 0} → List B → Listing B Told
listing xs = before xs ends

pub each_lists : {B : Type 0} (R : Type 0) (P : B → Type 0) (xs : List B) → Each P xs → (x : B) → Lists (before {R = R} xs ends) x → P x
each_lists R P [] g x w = absurd w
each_lists R P (y ∷ xs) g x (inl e) = rw e at g.0
each_lists R P (y ∷ xs) g x (inr w) = each_lists R P xs g.1 x w

pub each_both : {B : Type 0} (P : B → Type 0) (xs ys : List B) → Each P xs → Each P ys → Each P (xs ++ ys)
each_both P [] ys g h = h
each_both P (x ∷ xs) ys g h = (g.0, each_both P xs ys g.1 h)

pub each_split : {B : Type 0} (P : B → Type 0) (xs ys : List B) → Each P (xs ++ ys) → Each P xs × Each P ys
each_split P [] ys g = (tt, g)
each_split P (x ∷ xs) ys g = let r = each_split P xs ys g.1 in ((g.0, r.0), r.1)

-- ---- the rules of an item

abbrev pub GoodItem : Item → Type 0
GoodItem (open_lines h) = Unit {0}
GoodItem (block b) = Unit {0}
GoodItem open_checksums = Unit {0}
GoodItem (checksum c) = length c.bytes ≡ size_of c.kind
GoodItem (open_inlinees g) = g ≤ 1
GoodItem (inlinee i) = Unit {0}
GoodItem open_imports = Unit {0}
GoodItem (imports m) = Unit {0}
GoodItem open_exports = Unit {0}
GoodItem (exports p) = Unit {0}
GoodItem (opaque k b) = length b % 4 ≡ 0

each_of : {B : Type 0} (f : B → Item) (P : B → Type 0) → ((b : B) → P b → GoodItem (f b)) → (bs : List B) → Each P bs → Each GoodItem (map f bs)
each_of f P h [] g = tt
each_of f P h (b ∷ bs) g = (h b g.0, each_of f P h bs g.1)

each_pair : (ps : List Pair) → Each GoodItem (map exports ps)
each_pair [] = tt
each_pair (p ∷ ps) = (tt, each_pair ps)

sec_items : (s : Sec) → GoodSec s → Each GoodItem (calls_sec s)
sec_items (lines_of h bs) g = (tt, each_of block (Filled (columned h.flags)) (λ b w. tt) bs g)
sec_items (checksums_of cs) g = (tt, each_of checksum Sized (λ c w. w.size) cs g)
sec_items (inlinees_of n es) g = (g.0, each_of inlinee (Fits (extended n)) (λ e w. tt) es g.1)
sec_items (imports_of ms) g = (tt, each_of imports (λ x. Unit {0}) (λ m w. tt) ms g)
sec_items (exports_of ps) g = (tt, each_pair ps)
sec_items (opaque_of k b) g = (g.1, tt)

pub secs_items : (ss : List Sec) → Each GoodSec ss → Each GoodItem (calls_of ss)
secs_items [] g = tt
secs_items (s ∷ ss) g = each_both GoodItem (calls_sec s) (calls_of ss) (sec_items s g.0) (secs_items ss g.1)

-- items of which each that a rule asks for is good
pub items_good : (xs : List Item) → ((k : ℕ) (b : List ℕ) → Lists (listing xs) (opaque k b) → length b % 4 ≡ 0)
    → ((c : Checksum) → Lists (listing xs) (checksum c) → length c.bytes ≡ size_of c.kind) → ((g : ℕ) → Lists (listing xs) (open_inlinees g) → g ≤ 1)
    → Each GoodItem xs
items_good [] o c g = tt
items_good (x ∷ xs) o c g =
    (one x (λ k b w. o k b (inl w)) (λ d w. c d (inl w)) (λ n w. g n (inl w)), items_good xs (λ k b w. o k b (inr w)) (λ d w. c d (inr w)) (λ n w. g n (inr w)))
  where
    one : (i : Item) → ((k : ℕ) (b : List ℕ) → i ≡ opaque k b → length b % 4 ≡ 0) → ((d : Checksum) → i ≡ checksum d → length d.bytes ≡ size_of d.kind)
        → ((n : ℕ) → i ≡ open_inlinees n → n ≤ 1) → GoodItem i
    one (open_lines h) o c g = tt
    one (block b) o c g = tt
    one open_checksums o c g = tt
    one (checksum d) o c g = c d refl
    one (open_inlinees n) o c g = g n refl
    one (inlinee i) o c g = tt
    one open_imports o c g = tt
    one (imports m) o c g = tt
    one open_exports o c g = tt
    one (exports p) o c g = tt
    one (opaque k b) o c g = o k b refl

-- ---- local indices rise from pair to pair

abbrev pub Rises : List Item → Type 0
Rises xs = (p q : Pair) → ListsNext (listing xs) (exports p) (exports q) → p.local < q.local

-- no pair comes first
abbrev Clean : List Item → Type 0
Clean xs = (q : Pair) → BeginsWith (listing xs) (exports q) → ⊥

cons_rises : (i : Item) (xs : List Item) → ((p : Pair) → i ≡ exports p → ⊥) → Rises xs → Rises (i ∷ xs)
cons_rises i xs n h p q (inl w) = absurd (n p w.0)
cons_rises i xs n h p q (inr w) = h p q w

map_rises : {B : Type 0} (f : B → Item) → ((b : B) (p : Pair) → f b ≡ exports p → ⊥) → (bs : List B) (xs : List Item) → Rises xs → Rises (map f bs ++ xs)
map_rises f n [] xs h = h
map_rises f n (b ∷ bs) xs h = cons_rises (f b) (map f bs ++ xs) (n b) (map_rises f n bs xs h)

pairs_rise : (f : ℕ) (ps : List Pair) (xs : List Item) → Ascend f ps → Clean xs → Rises xs → Rises (map exports ps ++ xs)
pairs_rise f [] xs a c h p q w = h p q w
pairs_rise f (x ∷ []) xs a c h p q (inl w) = absurd (c q w.1)
pairs_rise f (x ∷ []) xs a c h p q (inr w) = h p q w
pairs_rise f (x ∷ y ∷ ps) xs a c h p q (inl w) =
    let v₀ = w.0 in
    let v₁ = w.1 in
    let ex : x.local ≡ p.local = cc in
    let ey : y.local ≡ q.local = cc in
    omega (arith, a.1.0)
pairs_rise f (x ∷ y ∷ ps) xs a c h p q (inr w) = pairs_rise (x.local + 1) (y ∷ ps) xs a.1 c h p q w

sec_clean : (s : Sec) (xs : List Item) → Clean (calls_sec s ++ xs)
sec_clean (lines_of h bs) xs q e = let z : ◌≡◌ {A = ℕ} 0 1 = cc in omega arith
sec_clean (checksums_of cs) xs q e = let z : ◌≡◌ {A = ℕ} 0 1 = cc in omega arith
sec_clean (inlinees_of n es) xs q e = let z : ◌≡◌ {A = ℕ} 0 1 = cc in omega arith
sec_clean (imports_of ms) xs q e = let z : ◌≡◌ {A = ℕ} 0 1 = cc in omega arith
sec_clean (exports_of ps) xs q e = let z : ◌≡◌ {A = ℕ} 0 1 = cc in omega arith
sec_clean (opaque_of k b) xs q e = let z : ◌≡◌ {A = ℕ} 0 1 = cc in omega arith

secs_clean : (ss : List Sec) → Clean (calls_of ss)
secs_clean [] q e = e
secs_clean (s ∷ ss) q e = sec_clean s (calls_of ss) q e

sec_rises : (s : Sec) → GoodSec s → (xs : List Item) → Clean xs → Rises xs → Rises (calls_sec s ++ xs)
sec_rises (lines_of h bs) g xs c r =
    cons_rises (open_lines h) (map block bs ++ xs) (λ p e. let z : ◌≡◌ {A = ℕ} 0 1 = cc in omega arith)
    (map_rises block (λ b p e. let z : ◌≡◌ {A = ℕ} 0 1 = cc in omega arith) bs xs r)
sec_rises (checksums_of cs) g xs c r =
    cons_rises open_checksums (map checksum cs ++ xs) (λ p e. let z : ◌≡◌ {A = ℕ} 0 1 = cc in omega arith)
    (map_rises checksum (λ b p e. let z : ◌≡◌ {A = ℕ} 0 1 = cc in omega arith) cs xs r)
sec_rises (inlinees_of n es) g xs c r =
    cons_rises (open_inlinees n) (map inlinee es ++ xs) (λ p e. let z : ◌≡◌ {A = ℕ} 0 1 = cc in omega arith)
    (map_rises inlinee (λ b p e. let z : ◌≡◌ {A = ℕ} 0 1 = cc in omega arith) es xs r)
sec_rises (imports_of ms) g xs c r =
    cons_rises open_imports (map imports ms ++ xs) (λ p e. let z : ◌≡◌ {A = ℕ} 0 1 = cc in omega arith)
    (map_rises imports (λ b p e. let z : ◌≡◌ {A = ℕ} 0 1 = cc in omega arith) ms xs r)
sec_rises (exports_of ps) g xs c r =
    cons_rises open_exports (map exports ps ++ xs) (λ p e. let z : ◌≡◌ {A = ℕ} 0 1 = cc in omega arith) (pairs_rise 0 ps xs g c r)
sec_rises (opaque_of k b) g xs c r = cons_rises (opaque k b) xs (λ p e. let z : ◌≡◌ {A = ℕ} 0 1 = cc in omega arith) r

pub secs_rise : (ss : List Sec) → Each GoodSec ss → Rises (calls_of ss)
secs_rise [] g p q w = absurd w
secs_rise (s ∷ ss) g p q w = sec_rises s g.0 (calls_of ss) (secs_clean ss) (secs_rise ss g.1) p q w

-- parts of a list that rises
begins_left : (xs ys : List Item) (y : Item) → BeginsWith (listing xs) y → BeginsWith (listing (xs ++ ys)) y
begins_left [] ys y w = absurd w
begins_left (x ∷ xs) ys y w = w

pub rises_left : (xs ys : List Item) → Rises (xs ++ ys) → Rises xs
rises_left [] ys h p q w = absurd w
rises_left (x ∷ xs) ys h p q (inl w) = h p q (inl (w.0, begins_left xs ys (exports q) w.1))
rises_left (x ∷ xs) ys h p q (inr w) = rises_left xs ys (λ a b v. h a b (inr v)) p q w

pub rises_right : (xs ys : List Item) → Rises (xs ++ ys) → Rises ys
rises_right [] ys h = h
rises_right (x ∷ xs) ys h = rises_right xs ys (λ p q w. h p q (inr w))

-- pairs that rise, from a floor that the first one is above, ascend
pub rise_ascends : (f : ℕ) (ps : List Pair) → ((p : Pair) → BeginsWith (before {R = Told} ps ends) p → f ≤ p.local) → Rises (map exports ps) → Ascend f ps
rise_ascends f [] h r = tt
rise_ascends f (p ∷ []) h r = (h p refl, tt)
rise_ascends f (p ∷ q ∷ ps) h r =
    let l : p.local < q.local = r p q (inl (refl, refl)) in
    (h p refl, rise_ascends (p.local + 1) (q ∷ ps) (λ x e. let z : q.local ≡ x.local = cc in omega arith) (λ a b w. r a b (inr w)))
