-- Laws of a list of the modules: the places of a body, and a law for each way out of the code.
use Prim.Native.Nat.{ℕ, zero, suc, ◌+◌, ◌-◌, ◌*◌, ◌/◌, ◌%◌, ◌<◌, ◌≤◌}
use Rattle.std.specs.Prelude.{◌≡◌, take, drop, set, get_or}
use Rattle.std.proofs.Math.Path.{refl, sym, ap, subst⁻¹}
use Rattle.std.proofs.Common.{◌∙◌, subst, ⊎_elim, arith, add-zero, add_assoc, length-take}
use mathlib.Core.List.{List, [], ◌∷◌, ◌++◌}
use Rattle.std.proofs.Math.Nat.{add-sub_cancel_left}
use Rattle.std.proofs.Math.ListN.{length}
use Rattle.walk.specs.Cases.{tests, le_or_gt, eq_or_ne}
use Rattle.walk.specs.Listing.{Listing, more, ends, fails, mapped, gives, none, refuses, Reply, gave, nothing, refused}
use Rattle.refusal.specs.Told.{Told, told, longest}
use Rattle.refusal.specs.declared.Refusal.TheVariants as why
use Rattle.word.specs.Word.{u32_at}
use Rattle.word.specs.WordLaws.{u32_drop, u32_take}
use Rattle.walk.specs.Pick.{on_gave}
use Rattle.kinds.specs.Kind.{Sort}
use Rattle.find.specs.Find.{same, Span, first_sub}
use Rattle.body.specs.Imports.{Module, modules}
use Rattle.table.specs.Table.{table_of}
use Rattle.table.specs.Rows.{rows_placed}
use Rattle.table.specs.TableLaws.{Finds, first_finds}
use Rattle.table.specs.Collect.{collected, listing_count, of_nth}
use Rattle.imports.specs.Imports.{Ref, scope_of, id_of, if_ref, ModuleAt, module_of, module_size, module_at}
use Rattle.imports.specs.ImportsLaws.{module_past, module_end, module_short, module_cut, module_whole, ref_none, ref_word, ref_is, ref_not, module_next, modules_end, modules_refused}
use Rattle.imports.specs.Listed.{module_place, if_slots, slots_used, slots_with, ref_on, ref_at, resolve_listed}

-- ---- the element at an index

module _ {C : Type 0} (y : C) (f : ℕ → C) where
  pub nth_at : (v : List ℕ) (i : ℕ) → i < length v → f (get_or v i 0) ≡ of_nth i v y f
  unfolding of_nth
  nth_at [] i h = absurd (omega arith)
  nth_at (x ∷ v) zero h = refl
  nth_at (x ∷ v) (suc i) h = nth_at v i (omega arith)

  pub nth_none : (v : List ℕ) (i : ℕ) → length v ≤ i → y ≡ of_nth i v y f
  unfolding of_nth
  nth_none [] i h = refl
  nth_none (x ∷ v) zero h = absurd (omega arith)
  nth_none (x ∷ v) (suc i) h = nth_none v i (omega arith)

-- ---- `word_at`: a part of four bytes, lent from its start on

pub word_part : (s : List ℕ) (p w : ℕ) → w ≡ u32_at (take (p + 4 - p) (drop p s)) 0 → w ≡ u32_at s p
word_part s p w e =
    e ∙ ap (λ (k : ℕ). u32_at (take k (drop p s)) 0) (add-sub_cancel_left p 4) ∙ u32_take (drop p s) 4 0 (omega arith) ∙ u32_drop s p 0
    ∙ ap (u32_at s) (add-zero p)

-- ---- each way out of `ref_at`

module _ (s : List ℕ) (index p : ℕ) where
  pub at_short : length s < p + 8 → refused (told why.Cut) ≡ ref_at s index p
  at_short h =
      ⊎_elim
      (λ (l : p ≤ length s).
      ⊎_elim (λ (z : length s - p ≡ 0). ap (ref_on s index) (module_end s p l z))
      (λ (z : length s - p ≡ 0 → ⊥). ap (ref_on s index) (module_short s p l z (omega arith))) (eq_or_ne (length s - p) 0))
      (λ (l : length s < p). ap (ref_on s index) (module_past s p l)) (le_or_gt p (length s))

  -- the words stand at p + 8
  module _ (h : p + 8 ≤ length s) (count : ℕ) (read : count ≡ u32_at s (p + 8 - 4)) where
    ec : count ≡ u32_at s (p + 4)
    ec = let e : p + 8 - 4 ≡ p + 4 = omega arith in read ∙ ap (u32_at s) e

    pub at_cut : (length s - (p + 8)) / 4 < count → refused (told why.Cut) ≡ ref_at s index p
    at_cut l = ap (ref_on s index) (module_cut s p (omega arith) (λ z. omega arith) (omega arith) (omega (arith, ec)))

    module _ (l : count ≤ (length s - (p + 8)) / 4) where
      whole : gives (record { name = u32_at s p; words = p + 8; count = count }) (p + 8 + 4 * count) ≡ module_at s p
      whole = module_whole s p (omega arith) (λ z. omega arith) (omega arith) (omega (arith, ec)) (u32_at s p) count refl ec

      pub at_none : count ≤ id_of index → refused (told (why.CrossModuleRefNotFound index)) ≡ ref_at s index p
      at_none k = ref_none s index (u32_at s p) (p + 8) count k ∙ ap (ref_on s index) whole

      pub at_word : (id name w : ℕ) → id ≡ id_of index → id < count → name ≡ u32_at s (p + 8 - 8) → w ≡ u32_at s (p + 8 + 4 * id)
          → gave (record { name = name; word = w }) ≡ ref_at s index p
      at_word id name w e k en ew =
          let z : p + 8 - 8 ≡ p = omega arith in
          ap (λ (n : ℕ). gave (record { name = n; word = w })) (en ∙ ap (u32_at s) z)
          ∙ ref_word s index (u32_at s p) (p + 8) count id w e k ew ∙ ap (ref_on s index) whole

-- ---- each way out of `resolve_listed`

module _ (s v : List ℕ) (index : ℕ) where
  abbrev found : Reply Ref Told
  found = of_nth (scope_of index) v (refused (told (why.CrossModuleRefNotFound index))) (ref_at s index)

  pub listed_long : longest < length s → refused (told why.TooLong) ≡ resolve_listed s v index
  unfolding resolve_listed
  listed_long h = sym (simp tests)

  module _ (h : length s ≤ longest) where
    pub by_index : if_ref index found ≡ resolve_listed s v index
    unfolding resolve_listed
    by_index = sym (simp tests)

    pub listed_not : index / 0x8000_0000 % 2 ≡ 0 → refused (told (why.NotACrossModuleRef index)) ≡ resolve_listed s v index
    listed_not l = ref_not index found (λ z. omega arith) ∙ by_index

    module _ (l : index / 0x8000_0000 % 2 ≡ 0 → ⊥) where
      by_slot : found ≡ resolve_listed s v index
      by_slot = ref_is index found (omega arith) ∙ by_index

      pub listed_none : length v ≤ scope_of index → refused (told (why.CrossModuleRefNotFound index)) ≡ resolve_listed s v index
      listed_none k = nth_none _ _ v (scope_of index) k ∙ by_slot

      pub listed_at : scope_of index < length v → (y : Reply Ref Told) → y ≡ ref_at s index (get_or v (scope_of index) 0) → y ≡ resolve_listed s v index
      listed_at k y q = q ∙ nth_at _ _ v (scope_of index) k ∙ by_slot

-- ---- the places of a body

-- those of the modules of the body at `start`
abbrev pub places_in : ℕ → List ℕ → Listing ℕ Told
places_in start b = mapped (◌+◌ start) same (rows_placed module_size module_place 0 (modules b))

-- the same as a list without an end: q is where the first stands
unfoldable pub places_on : ℕ → Listing Module Told → List ℕ
places_on q (more m l) = q ∷ places_on (q + module_size m) l
places_on q ends = []
places_on q (fails t) = []

-- from place p of the body on
abbrev pub places_from : ℕ → List ℕ → ℕ → List ℕ
places_from start b p = places_on (start + p) (modules (drop p b))

places_collected : (start p : ℕ) (l : Listing Module Told)
    → collected (mapped (◌+◌ start) same (rows_placed module_size module_place p l)) ≡ on_gave (λ (ms : List Module). gave (places_on (start + p) l)) (collected l)
unfolding collected rows_placed places_on
places_collected start p (more m l) =
    ap (on_gave (λ (ps : List ℕ). gave ((start + p) ∷ ps))) (places_collected start (p + module_size m) l) ∙ by (collected l)
  where
    by : (x : Reply (List Module) Told)
        → on_gave (λ (ps : List ℕ). gave ((start + p) ∷ ps)) (on_gave (λ (ms : List Module). gave (places_on (start + (p + module_size m)) l)) x)
        ≡ on_gave (λ (ms : List Module). gave ((start + p) ∷ places_on (start + p + module_size m) l)) (on_gave (λ (ms : List Module). gave (m ∷ ms)) x)
    by (gave ms) = ap (λ (q : ℕ). gave ((start + p) ∷ places_on q l)) (sym (add_assoc start p (module_size m)))
    by nothing = refl
    by (refused t) = refl
places_collected start p ends = refl
places_collected start p (fails t) = refl

-- as many as are counted
places_count : (q : ℕ) (l : Listing Module Told) (n : ℕ) → gave n ≡ listing_count l → length (places_on q l) ≡ n
unfolding collected places_on
places_count q (more m l) n e = by (places_count (q + module_size m) l) (collected l) refl e
  where
    by : ((k : ℕ) → gave k ≡ listing_count l → length (places_on (q + module_size m) l) ≡ k) → (x : Reply (List Module) Told) → x ≡ collected l
        → gave n ≡ on_gave (λ (ms : List Module). gave (length ms)) (on_gave (λ (ms : List Module). gave (m ∷ ms)) x)
        → suc (length (places_on (q + module_size m) l)) ≡ n
    by ih (gave ms) f e =
        let k : n ≡ suc (length ms) = cc in
        omega (arith, ih (length ms) (ap (on_gave (λ (ns : List Module). gave (length ns))) f))
    by ih nothing f e = let z : ◌≡◌ {A = ℕ} 0 1 = cc in absurd (omega arith)
    by ih (refused t) f e = let z : ◌≡◌ {A = ℕ} 0 1 = cc in absurd (omega arith)
places_count q ends n e = let z : n ≡ 0 = cc in omega arith
places_count q (fails t) n e = let z : ◌≡◌ {A = ℕ} 0 1 = cc in absurd (omega arith)

-- ---- the loop of `count_modules`: n modules before place p are counted

abbrev pub CountFrom : List ℕ → ℕ → ℕ → Reply ℕ Told
CountFrom b n p = on_gave (λ (ms : List Module). gave (n + length ms)) (collected (modules (drop p b)))

module _ (b : List ℕ) where
  pub count_first : CountFrom b 0 0 ≡ listing_count (modules b)
  count_first = by (collected (modules b))
    where
      by : (x : Reply (List Module) Told) → on_gave (λ (ms : List Module). gave (0 + length ms)) x ≡ on_gave (λ (ms : List Module). gave (length ms)) x
      by (gave ms) = ap gave (omega arith)
      by nothing = refl
      by (refused t) = refl

  module _ (n p : ℕ) where
    pub count_next : (m : ModuleAt) (x : ℕ) → gives m x ≡ module_at b p → CountFrom b (n + 1) x ≡ CountFrom b n p
    unfolding collected
    count_next m x q =
        by (collected (modules (drop x b)))
        ∙ ap (λ (l : Listing Module Told). on_gave (λ (ms : List Module). gave (n + length ms)) (collected l)) (module_next b p m x q).is
      where
        by : (y : Reply (List Module) Told)
            → on_gave (λ (ms : List Module). gave (n + 1 + length ms)) y
            ≡ on_gave (λ (ms : List Module). gave (n + length ms)) (on_gave (λ (ms : List Module). gave (module_of b m ∷ ms)) y)
        by (gave ms) = ap gave (omega arith)
        by nothing = refl
        by (refused t) = refl

    module _ (h : p ≤ length b) where
      pub count_end : none ≡ module_at b p → gave n ≡ CountFrom b n p
      unfolding collected
      count_end q =
          ap gave (omega arith) ∙ ap (λ (l : Listing Module Told). on_gave (λ (ms : List Module). gave (n + length ms)) (collected l)) (modules_end b p h q)

      pub count_refused : (t : Told) → refuses t ≡ module_at b p → refused t ≡ CountFrom b n p
      unfolding collected
      count_refused t q = ap (λ (l : Listing Module Told). on_gave (λ (ms : List Module). gave (n + length ms)) (collected l)) (modules_refused b p h t q)

-- ---- the loop of `put_places`: stores one after the other, from index i on

unfoldable pub store_all : List ℕ → ℕ → List ℕ → List ℕ
store_all [] i a = a
store_all (x ∷ xs) i a = store_all xs (i + 1) (set a i x)

store_under : (xs : List ℕ) (i z : ℕ) (a : List ℕ) → store_all xs (suc i) (z ∷ a) ≡ z ∷ store_all xs i a
unfolding store_all
store_under [] i z a = refl
store_under (x ∷ xs) i z a =
    let e : suc i + 1 ≡ suc (i + 1) = omega arith in
    ap (λ k. store_all xs k (z ∷ set a i x)) e ∙ store_under xs (i + 1) z (set a i x)

pub stored_all : (xs a : List ℕ) → length xs ≤ length a → store_all xs 0 a ≡ xs ++ drop (length xs) a
unfolding store_all
stored_all [] a h = refl
stored_all (x ∷ xs) [] h = absurd (omega arith)
stored_all (x ∷ xs) (z ∷ a) h = store_under xs 0 x a ∙ ap (λ l. x ∷ l) (stored_all xs a (omega arith))

module _ (start : ℕ) (b : List ℕ) (p : ℕ) where
  pub places_next : (m : ModuleAt) (x : ℕ) → gives m x ≡ module_at b p → (start + p) ∷ places_from start b x ≡ places_from start b p
  unfolding places_on
  places_next m x q =
      let n = module_next b p m x q in
      let e : start + x ≡ start + p + module_size (module_of b m) = omega (arith, n.end) in
      ap (λ (k : ℕ). (start + p) ∷ places_on k (modules (drop x b))) e ∙ ap (places_on (start + p)) n.is

  module _ (h : p ≤ length b) where
    pub places_end : none ≡ module_at b p → [] ≡ places_from start b p
    unfolding places_on
    places_end q = ap (places_on (start + p)) (modules_end b p h q)

    pub places_refused : (t : Told) → refuses t ≡ module_at b p → [] ≡ places_from start b p
    unfolding places_on
    places_refused t q = ap (places_on (start + p)) (modules_refused b p h t q)

  module _ (i : ℕ) (a : List ℕ) where
    pub store_end : [] ≡ places_from start b p → a ≡ store_all (places_from start b p) i a
    unfolding store_all
    store_end e = ap (λ l. store_all l i a) e

    pub store_place : (v x : ℕ) → v ∷ places_from start b x ≡ places_from start b p
        → store_all (places_from start b x) (i + 1) (set a i v) ≡ store_all (places_from start b p) i a
    unfolding store_all
    store_place v x e = ap (λ l. store_all l i a) e

-- ---- each way out of `list_in` and of `import_list`: x is what is collected of the places

module _ (xs : List ℕ) (x : Reply (List ℕ) Told) where
  -- the answer r, and the slots ys
  abbrev pub Lists : Reply ℕ Told → List ℕ → Type 0
  Lists r ys = (r ≡ slots_used (if_slots (length xs) x)) × (ys ≡ slots_with xs (if_slots (length xs) x))

  lists_unroomed : (y : Reply (List ℕ) Told) → y ≡ if_slots (length xs) x → Lists (slots_used y) (slots_with xs y)
  lists_unroomed y e = (ap slots_used e, ap (slots_with xs) e)

  lists_refused : (t : Told) → refused t ≡ x → Lists (refused t) xs
  lists_refused t e = lists_unroomed (refused t) (ap (if_slots (length xs)) e)

  module _ (ps : List ℕ) (e : gave ps ≡ x) where
    lists_short : length xs < length ps → Lists (refused (told why.NoRoom)) xs
    lists_short h =
        let g : refused (told why.NoRoom) ≡ if_slots (length xs) (gave ps) = sym (simp tests) in
        lists_unroomed (refused (told why.NoRoom)) (g ∙ ap (if_slots (length xs)) e)

    lists_room : length ps ≤ length xs → Lists (gave (length ps)) (ps ++ drop (length ps) xs)
    lists_room h =
        let g : gave ps ≡ if_slots (length xs) (gave ps) = sym (simp tests) in
        lists_unroomed (gave ps) (g ∙ ap (if_slots (length xs)) e)

module _ (start : ℕ) (b xs : List ℕ) where
  pub list_refused : (t : Told) → refused t ≡ listing_count (modules b) → Lists xs (collected (places_in start b)) (refused t) xs
  list_refused t e = lists_refused xs _ t (by (collected (modules b)) e ∙ sym (places_collected start 0 (modules b)))
    where
      by : (x : Reply (List Module) Told) → refused t ≡ on_gave (λ (ms : List Module). gave (length ms)) x
          → ◌≡◌ {A = Reply (List ℕ) Told} (refused t) (on_gave (λ (ms : List Module). gave (places_from start b 0)) x)
      by (gave ms) q = let z : ◌≡◌ {A = ℕ} 0 1 = cc in absurd (omega arith)
      by nothing q = let z : ◌≡◌ {A = ℕ} 0 1 = cc in absurd (omega arith)
      by (refused u) q = ap refused (cc)

  module _ (n : ℕ) (e : gave n ≡ listing_count (modules b)) where
    them : gave (places_from start b 0) ≡ collected (places_in start b)
    them = by (collected (modules b)) e ∙ sym (places_collected start 0 (modules b))
      where
        by : (x : Reply (List Module) Told) → gave n ≡ on_gave (λ (ms : List Module). gave (length ms)) x
            → gave (places_from start b 0) ≡ on_gave (λ (ms : List Module). gave (places_from start b 0)) x
        by (gave ms) q = refl
        by nothing q = let z : ◌≡◌ {A = ℕ} 0 1 = cc in absurd (omega arith)
        by (refused u) q = let z : ◌≡◌ {A = ℕ} 0 1 = cc in absurd (omega arith)

    pub places_number : length (places_from start b 0) ≡ n
    places_number = places_count (start + 0) (modules b) n e

    pub list_short : length xs < n → Lists xs (collected (places_in start b)) (refused (told why.NoRoom)) xs
    list_short h = lists_short xs _ (places_from start b 0) them (omega (arith, places_number))

    pub list_room : n ≤ length xs → (ys : List ℕ) → ys ≡ places_from start b 0 ++ drop (length (places_from start b 0)) xs
        → Lists xs (collected (places_in start b)) (gave n) ys
    list_room h ys q =
        let l = lists_room xs _ (places_from start b 0) them (omega (arith, places_number)) in
        (ap gave (sym places_number) ∙ l.0, q ∙ l.1)

-- the part is lent from its start on, k long; g is what the finder says
module _ (s xs : List ℕ) (g : Reply Span Told) where
  abbrev tabled : Reply Span Told → Reply (List ℕ) Told
  tabled x = collected (table_of (λ (b : List ℕ). rows_placed module_size module_place 0 (modules b)) ◌+◌ s x)

  pub list_found : (a : Span) (k : ℕ) → gave a ≡ g → k ≡ a.len → (r : Reply ℕ Told) (ys : List ℕ)
      → Lists xs (collected (places_in a.start (take k (drop a.start s)))) r ys → Lists xs (tabled g) r ys
  list_found a k e ek r ys l =
      subst (λ (x : Reply (List ℕ) Told). Lists xs x r ys)
      (ap (λ (j : ℕ). collected (places_in a.start (take j (drop a.start s)))) ek ∙ ap tabled e) l

  pub list_none : nothing ≡ g → Lists xs (tabled g) (gave 0) xs
  unfolding collected
  list_none e = lists_room xs (tabled g) [] (ap tabled e) (omega arith)

  pub list_unfound : (t : Told) → refused t ≡ g → Lists xs (tabled g) (refused t) xs
  unfolding collected
  list_unfound t e = lists_refused xs (tabled g) t (ap tabled e)

-- what is found lies in an area that is not too long, and so does the part that is lent
module _ (rule : ℕ → Sort) (w : ℕ) (s : List ℕ) (a : Span) (e : gave a ≡ first_sub rule w s) where
  pub found_fits : (a.start + a.len ≤ length s) × (length s ≤ longest)
  found_fits = subst⁻¹ (Finds s) e (first_finds rule w s)

  pub part_fits : a.start + length (take (a.start + a.len - a.start) (drop a.start s)) ≤ longest
  part_fits = simp length-take (omega (arith, found_fits))
