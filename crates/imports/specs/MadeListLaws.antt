-- A list left as it was made: a lookup by it is a lookup in the area.
use Rattle.std.specs.Prelude.{ℕ, zero, suc, ◌+◌, ◌-◌, ◌*◌, ◌<◌, ◌≤◌, ◌≡◌, List, [], ◌∷◌, map, Bool, true, false, cond, take, drop, ltb, eqb}
use Rattle.std.proofs.Math.Path.{refl, sym, ap}
use Rattle.std.proofs.Common.{◌∙◌, subst, ⊎_elim, arith, add_assoc, length-take, take_at}
use Rattle.std.proofs.Math.ListN.{length, length-drop}
use Rattle.std.proofs.Math.Seq.{drop-drop}
use Rattle.walk.specs.Cases.{by_cases, le_or_gt}
use Rattle.walk.specs.Listing.{Move, item, pass, over, fail, Listing, more, mapped, on_move, all, gives, Reply, gave, nothing, refused}
use Rattle.walk.specs.ListingLaws.{To, all_ind}
use Rattle.walk.specs.Pick.{first_by, map_reply, on_gave}
use Rattle.refusal.specs.Told.{Told, told, longest}
use Rattle.refusal.specs.declared.Refusal.TheVariants as why
use Rattle.word.specs.Word.{u32_at}
use Rattle.word.specs.WordLaws.{u32_drop, u32_take}
use Rattle.kinds.specs.Kind.{CROSS_SCOPE_IMPORTS, Sort}
use Rattle.area.specs.Subs.{Sub}
use Rattle.area.specs.SubsLaws.{subs_long}
use Rattle.find.specs.Find.{same, Span, is, span_of, first_sub}
use Rattle.body.specs.WordsLaws.{words_length}
use Rattle.body.specs.Imports.{Module, module_bite, modules}
use Rattle.table.specs.Table.{table_of}
use Rattle.table.specs.TableLaws.{Finds, first_finds}
use Rattle.table.specs.Rows.{rows_placed}
use Rattle.table.specs.RowsLaws.{Bitten, falls}
use Rattle.table.specs.Collect.{collected, of_nth}
use Rattle.table.specs.CollectLaws.{mapped_same, collected_map}
use Rattle.imports.specs.Imports.{modules_of, Ref, scope_of, if_ref, ref_in, ref_of, resolve_import, module_of, module_size, module_at}
use Rattle.imports.specs.ImportsLaws.{module_whole, bitten, in_area_lem}
use Rattle.imports.specs.Listed.{module_place, import_places, if_slots, slots_used, import_list, slots_with, places_after, ref_on, ref_at, resolve_listed}
use Rattle.imports.specs.ListedLaws.{listed_long, by_index}

-- ---- the module at its place in an area is the one of the body

abbrev Headed : List ℕ → Move (List ℕ) Module Told → Type 0
Headed s (item m t) = (m.name ≡ u32_at s 0) × (length m.words ≡ u32_at s 4)
Headed s (pass t) = Unit {0}
Headed s over = Unit {0}
Headed s (fail t) = Unit {0}

head_read : (s : List ℕ) → Headed s (module_bite s)
unfolding module_bite
head_read s =
    by_cases (Headed s) (eqb (length s) 0) (λ a. tt)
    (λ a. by_cases (Headed s) (ltb (length s) 8) (λ d. tt)
    (λ d. by_cases (Headed s) (ltb (length s - 8) (4 * u32_at s 4)) (λ e. tt) (λ e. (refl, words_length (u32_at s 4) (drop 8 s)))))

module _ (s : List ℕ) (index start len : ℕ) (lies : start + len ≤ length s) where
  abbrev body : List ℕ
  body = take len (drop start s)

  at_place : (p : ℕ) (m : Module) (t : List ℕ) → p ≤ length body → module_bite (drop p body) ≡ item m t → ref_at s index (start + p) ≡ ref_in index m
  at_place p m t h e =
      let n = length m.words in
      let g : Bitten module_size (drop p body) (item m t) = subst (Bitten module_size (drop p body)) e (bitten (drop p body)) in
      let d : Headed (drop p body) (item m t) = subst (Headed (drop p body)) e (head_read (drop p body)) in
      let room : p + 8 + 4 * n ≤ len = omega (arith, length-drop p body, length-take len (drop start s)) in
      let z : start + (p + 0) ≡ start + p = omega arith in
      let en : m.name ≡ u32_at s (start + p)
      = d.0 ∙ u32_drop body p 0 ∙ u32_take (drop start s) len (p + 0) (omega arith) ∙ u32_drop s start (p + 0) ∙ ap (u32_at s) z in
      let ec : n ≡ u32_at s (start + p + 4)
      = d.1 ∙ u32_drop body p 4 ∙ u32_take (drop start s) len (p + 4) (omega arith) ∙ u32_drop s start (p + 4) ∙ ap (u32_at s) (sym (add_assoc start p 4)) in
      let w : gives (record { name = m.name; words = start + p + 8; count = n }) (start + p + 8 + 4 * n) ≡ module_at s (start + p)
      = module_whole s (start + p) (omega arith) (λ y. omega arith) (omega arith) (omega arith) m.name n en ec in
      sym (ap (ref_on s index) w)
      ∙ ap (λ (k : ℕ). ref_in index (module_of s (record { name = m.name; words = k; count = n }))) (add_assoc start p 8)
      ∙ ap (ref_in index) (in_area_lem s start len p m t h e)

  abbrev Same : List ℕ → Listing Module Told → Type 0
  Same t l =
      (p : ℕ) → p ≤ length body → t ≡ drop p body
      → mapped (ref_at s index) same (mapped (◌+◌ start) same (rows_placed module_size module_place p l)) ≡ mapped (ref_in index) same l

  same_all : (t : List ℕ) (u : Move (List ℕ) Module Told) → module_bite t ≡ u → Bitten module_size t u → To u (λ v. Same v (all module_bite length v))
      → Same t (on_move (all module_bite length) u)
  unfolding rows_placed
  same_all t (item m v) q w f p h e =
      let here = at_place p m v h (ap module_bite (sym e) ∙ q) in
      let there = f (p + module_size m) (omega (arith, ap length e, length-drop p body)) (w.2 ∙ ap (drop (module_size m)) e ∙ drop-drop (module_size m) p body) in
      λ i. more (here i) (there i)
  same_all t (pass v) q w f p h e = absurd w
  same_all t over q w f p h e = refl
  same_all t (fail x) q w f p h e = refl

  same_body : mapped (ref_at s index) same (mapped (◌+◌ start) same (rows_placed module_size module_place 0 (modules body)))
      ≡ mapped (ref_in index) same (modules body)
  unfolding modules
  same_body =
      all_ind module_bite length (falls module_bite module_size bitten) Same (λ t f. same_all t (module_bite t) refl (bitten t) f) body 0 (omega arith) refl

-- the answers at the places are those of the modules
same_answers : (s : List ℕ) (index : ℕ) (x : Reply Span Told) → Finds s x
    → mapped (ref_at s index) same (table_of (λ (b : List ℕ). rows_placed module_size module_place 0 (modules b)) ◌+◌ s x)
    ≡ mapped (ref_in index) same (table_of modules (λ (_ : ℕ) (m : Module). m) s x)
same_answers s index (gave a) f =
    same_body s index a.start a.len f.0
    ∙ ap (mapped (ref_in index) same) (sym (mapped_same (modules (take a.len (drop a.start s)))))
same_answers s index nothing f = refl
same_answers s index (refused t) f = refl

-- ---- one of the answers

nth_map : {A C : Type 0} (g : A → C) (i : ℕ) (xs : List A) (y : C) → of_nth i (map g xs) y (λ (c : C). c) ≡ of_nth i xs y g
unfolding of_nth
nth_map g i [] y = refl
nth_map g zero (x ∷ xs) y = refl
nth_map g (suc i) (x ∷ xs) y = nth_map g i xs y

module _ (rule : ℕ → Sort) (s : List ℕ) (index : ℕ) where
  abbrev missing : Reply Ref Told
  missing = refused (told (why.CrossModuleRefNotFound index))

  abbrev picked : List (Reply Ref Told) → Reply Ref Told
  picked rs = if_ref index (of_nth (scope_of index) rs missing (λ (r : Reply Ref Told). r))

  by_modules : (x : Reply (List Module) Told) → on_gave picked (on_gave (λ (ms : List Module). gave (map (ref_in index) ms)) x) ≡ on_gave (ref_of index) x
  by_modules (gave ms) = ap (if_ref index) (nth_map (ref_in index) (scope_of index) ms missing)
  by_modules nothing = refl
  by_modules (refused t) = refl

  by_places : (ps : List ℕ) → gave ps ≡ collected (import_places rule s)
      → if_ref index (of_nth (scope_of index) ps missing (ref_at s index)) ≡ resolve_import rule s index
  by_places ps e =
      let answers : on_gave (λ (qs : List ℕ). gave (map (ref_at s index) qs)) (collected (import_places rule s))
      ≡ on_gave (λ (ms : List Module). gave (map (ref_in index) ms)) (collected (modules_of rule s))
      = sym (collected_map (ref_at s index) (import_places rule s))
      ∙ ap collected (same_answers s index (first_sub rule CROSS_SCOPE_IMPORTS s) (first_finds rule CROSS_SCOPE_IMPORTS s))
      ∙ collected_map (ref_in index) (modules_of rule s) in
      ap (if_ref index) (sym (nth_map (ref_at s index) (scope_of index) ps missing))
      ∙ ap (λ (x : Reply (List ℕ) Told). on_gave picked (on_gave (λ (qs : List ℕ). gave (map (ref_at s index) qs)) x)) e
      ∙ ap (on_gave picked) answers
      ∙ by_modules (collected (modules_of rule s))

  too_long : longest < length s → refused (told why.TooLong) ≡ resolve_import rule s index
  unfolding first_by collected
  too_long h =
      sym (ap (λ (l : Listing Sub Told). on_gave (ref_of index)
      (collected (table_of modules (λ (_ : ℕ) (m : Module). m) s (map_reply span_of same (first_by (is CROSS_SCOPE_IMPORTS) l))))) (subs_long rule s 0 h))

  -- THE THEOREM for a list: with the slots that it took, left as they were, a reference is resolved as in the area
  pub listed_resolves : (xs : List ℕ) (n : ℕ) → gave n ≡ import_list rule s (length xs)
      → resolve_listed s (take n (places_after rule s xs)) index ≡ resolve_import rule s index
  listed_resolves xs n q =
      ⊎_elim (λ (h : length s ≤ longest). by h (collected (import_places rule s)) refl q)
      (λ (h : longest < length s). sym (listed_long s (take n (places_after rule s xs)) index h) ∙ too_long h) (le_or_gt (length s) longest)
    where
      roomed : (t : Bool) (ps qs : List ℕ) → gave qs ≡ cond t (refused (told why.NoRoom)) (gave ps) → qs ≡ ps
      roomed true ps qs f = let z : ◌≡◌ {A = ℕ} 0 1 = cc in absurd (omega arith)
      roomed false ps qs f = cc

      with_room_lem : length s ≤ longest → (ps : List ℕ) → gave ps ≡ collected (import_places rule s) → (y : Reply (List ℕ) Told)
          → y ≡ if_slots (length xs) (gave ps) → gave n ≡ slots_used y → resolve_listed s (take n (slots_with xs y)) index ≡ resolve_import rule s index
      with_room_lem h ps e (gave qs) f g =
          let l : length qs ≡ n = cc in
          ap (λ (v : List ℕ). resolve_listed s v index) (take_at qs (drop (length qs) xs) n l ∙ roomed (ltb (length xs) (length ps)) ps qs f)
          ∙ sym (by_index s ps index h) ∙ by_places ps e
      with_room_lem h ps e nothing f g = let z : ◌≡◌ {A = ℕ} 0 1 = cc in absurd (omega arith)
      with_room_lem h ps e (refused t) f g = let z : ◌≡◌ {A = ℕ} 0 1 = cc in absurd (omega arith)

      by : length s ≤ longest → (x : Reply (List ℕ) Told) → x ≡ collected (import_places rule s) → gave n ≡ slots_used (if_slots (length xs) x)
          → resolve_listed s (take n (slots_with xs (if_slots (length xs) x))) index ≡ resolve_import rule s index
      by h (gave ps) e g = with_room_lem h ps e (if_slots (length xs) (gave ps)) refl g
      by h nothing e g = let z : ◌≡◌ {A = ℕ} 0 1 = cc in absurd (omega arith)
      by h (refused t) e g = let z : ◌≡◌ {A = ℕ} 0 1 = cc in absurd (omega arith)
