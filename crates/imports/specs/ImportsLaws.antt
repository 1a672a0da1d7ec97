-- Laws of imports: a law for each way out of the code, and the theorems on the walk and on the words.
use Rattle.std.specs.Prelude.{ℕ, ◌+◌, ◌-◌, ◌*◌, ◌/◌, ◌%◌, ◌<◌, ◌≤◌, ◌≡◌, refl, List, [], Bool, true, false, cond, length, take, drop, ltb, eqb}
use Rattle.std.proofs.Common.{sym, ◌∙◌, subst, arith, length-take, length-drop, drop-drop, eq-eqb, ne_eqb, ltb-false}
use Rattle.std.proofs.Math.Path.{ap}
use Rattle.std.proofs.Math.Nat.{add-zero, add_assoc}
use Rattle.word.specs.Word.{u32_at}
use Rattle.word.specs.WordLaws.{u32_drop}
use Rattle.walk.specs.Cases.{tests, by_cases}
use Rattle.walk.specs.Listing.{Move, item, pass, over, fail, more, ends, fails, mapped, on_move, moved, all, gives, none, refuses, Reply, gave, nothing, refused, calls, replies}
use Rattle.walk.specs.Pick.{on_gave}
use Rattle.refusal.specs.Told.{Told, told}
use Rattle.refusal.specs.declared.Refusal.TheVariants as why
use Rattle.kinds.specs.Kind.{CROSS_SCOPE_IMPORTS, Sort}
use Rattle.find.specs.Find.{same, Span, first_sub}
use Rattle.body.specs.Words.{words_in}
use Rattle.body.specs.WordsLaws.{words_length}
use Rattle.body.specs.Imports.{Module, module_bite, modules}
use Rattle.table.specs.declared.TableWalk.{TableWalk}
use Rattle.table.specs.declared.TableWalk.TheVariants as walk
use Rattle.table.specs.Table.{table_of}
use Rattle.table.specs.StepLaws.{Steps, steps}
use Rattle.table.specs.TableLaws.{table_walk_lem, first_finds}
use Rattle.table.specs.Rows.{rows_placed, row_at}
use Rattle.table.specs.RowsLaws.{Bitten, rows_step, rows_in, row_next, row_end, row_refused, rows_back}
use Rattle.table.specs.Collect.{collected, of_nth}
use Rattle.table.specs.CollectLaws.{mapped_same, mapped_mapped, sought, sought_is}
use Rattle.table.specs.WordsLaws.{words_nth, words_none, words_part}
use Rattle.imports.specs.Imports.{modules_of, Ref, scope_of, id_of, if_ref, ref_in, ref_of, ModuleAt, module_of, module_shown, module_size, in_area, imports_of, module_at, import_step, modules_from}

-- ---- the tests of `module_at`

module _ (b : List ℕ) (p : ℕ) where
  pub module_past : length b < p → refuses (told why.Cut) ≡ module_at b p
  unfolding row_at
  module_past h = simp tests

  module _ (h₁ : p ≤ length b) where
    pub module_end : length b - p ≡ 0 → none ≡ module_at b p
    unfolding row_at module_bite
    module_end h = simp (length-drop, tests)

    module _ (h₂ : length b - p ≡ 0 → ⊥) where
      pub module_short : length b - p < 8 → refuses (told why.Cut) ≡ module_at b p
      unfolding row_at module_bite
      module_short h = simp (length-drop, tests)

      module _ (h₃ : 8 ≤ length b - p) where
        pub module_cut : length b - p - 8 < 4 * u32_at b (p + 4) → refuses (told why.Cut) ≡ module_at b p
        unfolding row_at module_bite
        module_cut h = simp (length-drop, u32_drop, tests)

        pub module_whole : 4 * u32_at b (p + 4) ≤ length b - p - 8 → (name count : ℕ) → name ≡ u32_at b p → count ≡ u32_at b (p + 4)
            → gives (record { name = name; words = p + 8; count = count }) (p + 8 + 4 * count) ≡ module_at b p
        unfolding row_at module_bite
        module_whole h name count en ec = simp (length-drop, u32_drop, add-zero, add_assoc, words_length, tests, en, ec)

-- ---- the tests of `word_of` and of `checked`

module _ (b : List ℕ) (index name words count : ℕ) where
  abbrev missing : Reply Ref Told
  missing = refused (told (why.CrossModuleRefNotFound index))

  abbrev named : ℕ → Reply Ref Told
  named w = gave (record { name = name; word = w })

  pub ref_none : count ≤ id_of index → missing ≡ ref_in index (module_of b (record { name = name; words = words; count = count }))
  ref_none h = words_none missing named count (drop words b) (id_of index) h

  pub ref_word : (id w : ℕ) → id ≡ id_of index → id < count → w ≡ u32_at b (words + 4 * id)
      → named w ≡ ref_in index (module_of b (record { name = name; words = words; count = count }))
  ref_word id w e h ew =
      ap named ew ∙ words_nth missing named count b words id h ∙ ap (λ (i : ℕ). of_nth i (words_in count (drop words b)) missing named) e

module _ (index : ℕ) (y : Reply Ref Told) where
  pub ref_is : index / 0x8000_0000 % 2 ≡ 1 → y ≡ if_ref index y
  unfolding if_ref
  ref_is h = simp tests

  pub ref_not : (index / 0x8000_0000 % 2 ≡ 1 → ⊥) → refused (told (why.NotACrossModuleRef index)) ≡ if_ref index y
  unfolding if_ref
  ref_not h = simp tests

-- without modules
pub ref_empty : (index : ℕ) → if_ref index (refused (told (why.CrossModuleRefNotFound index))) ≡ ref_of index []
unfolding of_nth
ref_empty index = refl

-- ---- what a bite says of the bytes

pub bitten : (s : List ℕ) → Bitten module_size s (module_bite s)
unfolding module_bite
bitten s =
    by_cases (Bitten module_size s) (eqb (length s) 0) (λ a. tt)
    (λ a. by_cases (Bitten module_size s) (ltb (length s) 8) (λ d. tt)
    (λ d. by_cases (Bitten module_size s) (ltb (length s - 8) (4 * u32_at s 4)) (λ e. tt)
    (λ e.
    let n = words_length (u32_at s 4) (drop 8 s) in
    (omega arith, omega (arith, ltb-false), ap (λ (k : ℕ). drop (8 + 4 * k) s) (sym n)))))

abbrev Worded : List ℕ → Move (List ℕ) Module Told → Type 0
Worded s (item m t) = m.words ≡ words_in (length m.words) (drop 8 s)
Worded s (pass t) = Unit {0}
Worded s over = Unit {0}
Worded s (fail t) = Unit {0}

worded : (s : List ℕ) → Worded s (module_bite s)
unfolding module_bite
worded s =
    by_cases (Worded s) (eqb (length s) 0) (λ a. tt)
    (λ a. by_cases (Worded s) (ltb (length s) 8) (λ d. tt)
    (λ d. by_cases (Worded s) (ltb (length s - 8) (4 * u32_at s 4)) (λ e. tt)
    (λ e. ap (λ (k : ℕ). words_in k (drop 8 s)) (sym (words_length (u32_at s 4) (drop 8 s))))))

-- the words at their place in a body, and in an area whose part from `start` on, `len` long, is the body
in_body : (b : List ℕ) (p : ℕ) (m : Module) (t : List ℕ) → module_bite (drop p b) ≡ item m t → module_of b (module_shown p m) ≡ m
in_body b p m t e =
    let w : m.words ≡ words_in (length m.words) (drop 8 (drop p b)) = subst (Worded (drop p b)) e (worded (drop p b)) in
    let d : words_in (length m.words) (drop (p + 8) b) ≡ m.words = ap (words_in (length m.words)) (sym (drop-drop 8 p b)) ∙ sym w in
    λ i. record { name = m.name; words = d i }

pub in_area_lem : (s : List ℕ) (start len p : ℕ) (m : Module) (t : List ℕ) → p ≤ length (take len (drop start s))
    → module_bite (drop p (take len (drop start s))) ≡ item m t → module_of s (in_area start (module_shown p m)) ≡ m
in_area_lem s start len p m t h e =
    let b = take len (drop start s) in
    let n = length m.words in
    let g : Bitten module_size (drop p b) (item m t) = subst (Bitten module_size (drop p b)) e (bitten (drop p b)) in
    let room : p + 8 + 4 * n ≤ len = omega (arith, length-drop p b, length-take len (drop start s)) in
    let d : words_in n (drop (start + (p + 8)) s) ≡ words_in n (drop (p + 8) b)
    = words_part s start len (p + 8) n room in
    (λ i. record { name = m.name; words = d i }) ∙ in_body b p m t e

-- ---- the loop of `resolve_in`

-- what an answer of `module_at` says
pub record Next (b : List ℕ) (p : ℕ) (m : ModuleAt) (x : ℕ) : Type 0 where
  pub is : more (module_of b m) (modules (drop x b)) ≡ modules (drop p b)
  pub behind : p + 8 ≤ x
  pub inside : x ≤ length b
  pub room : m.words + 4 * m.count ≤ x
  pub end : x ≡ p + module_size (module_of b m)

pub module_next : (b : List ℕ) (p : ℕ) (m : ModuleAt) (x : ℕ) → gives m x ≡ module_at b p → Next b p m x
unfolding modules
module_next b p m x q =
    let r = row_next module_bite module_size module_shown bitten b p m x q in
    let e = r.shown in
    let ew : m.words ≡ p + 8 = ap (λ (k : ModuleAt). k.words) e in
    let ec : m.count ≡ length r.row.words = ap (λ (k : ModuleAt). k.count) e in
    let here : module_of b m ≡ r.row = ap (module_of b) e ∙ in_body b p r.row (drop x b) r.bites in
    record {
      is = ap (λ (k : Module). more k (all module_bite length (drop x b))) here ∙ r.is;
      behind = omega (arith, r.end);
      inside = r.inside;
      room = omega (arith, r.end);
      end = r.end ∙ ap (λ (k : Module). p + module_size k) (sym here);
    }

-- an end and a refusal at a place of the body
module _ (b : List ℕ) (p : ℕ) (h : p ≤ length b) where
  pub modules_end : none ≡ module_at b p → ends ≡ modules (drop p b)
  unfolding modules
  modules_end q = row_end module_bite module_size module_shown bitten b p h q

  pub modules_refused : (t : Told) → refuses t ≡ module_at b p → fails t ≡ modules (drop p b)
  unfolding modules
  modules_refused t q = row_refused module_bite module_size module_shown bitten b p h t q

-- from place p on, n modules being passed
abbrev pub Sought : List ℕ → ℕ → ℕ → Reply Ref Told → ℕ → Reply Ref Told
Sought b index n best p = sought (ref_in index) (if_ref index) (scope_of index) n best (modules (drop p b))

pub sought_first : (b : List ℕ) (index : ℕ)
    → Sought b index 0 (refused (told (why.CrossModuleRefNotFound index))) 0 ≡ on_gave (ref_of index) (collected (modules b))
sought_first b index =
    sought_is (ref_in index) (if_ref index) (scope_of index) (scope_of index) 0 (refused (told (why.CrossModuleRefNotFound index))) (modules b) (omega arith)

module _ (b : List ℕ) (index n : ℕ) (best : Reply Ref Told) (p : ℕ) where
  module _ (m : ModuleAt) (x : ℕ) (q : gives m x ≡ module_at b p) (scope : ℕ) (e : scope ≡ scope_of index) where
    abbrev kept : Bool → Reply Ref Told
    kept t = cond t (ref_in index (module_of b m)) best

    onward : (t : Bool) → eqb n (scope_of index) ≡ t → Sought b index (n + 1) (kept t) x ≡ Sought b index n best p
    unfolding sought
    onward t et =
        ap (λ (a : Bool). Sought b index (n + 1) (kept a) x) (sym et)
        ∙ ap (sought (ref_in index) (if_ref index) (scope_of index) n best) (module_next b p m x q).is

    pub sought_hit : n ≡ scope → (y : Reply Ref Told) → y ≡ ref_in index (module_of b m) → Sought b index (n + 1) y x ≡ Sought b index n best p
    sought_hit h y ey = ap (λ (z : Reply Ref Told). Sought b index (n + 1) z x) ey ∙ onward true (eq-eqb n (scope_of index) (h ∙ e))

    pub sought_miss : (n ≡ scope → ⊥) → (y : Reply Ref Told) → y ≡ best → Sought b index (n + 1) y x ≡ Sought b index n best p
    sought_miss h y ey = ap (λ (z : Reply Ref Told). Sought b index (n + 1) z x) ey ∙ onward false (ne_eqb n (scope_of index) (λ d. h (d ∙ sym e)))

  module _ (h : p ≤ length b) where
    pub sought_end : none ≡ module_at b p → if_ref index best ≡ Sought b index n best p
    unfolding sought
    sought_end q = ap (sought (ref_in index) (if_ref index) (scope_of index) n best) (modules_end b p h q)

    pub sought_refused : (t : Told) → refuses t ≡ module_at b p → refused t ≡ Sought b index n best p
    unfolding sought
    sought_refused t q = ap (sought (ref_in index) (if_ref index) (scope_of index) n best) (modules_refused b p h t q)

-- ---- a step of the walk

pub import_steps : (rule : ℕ → Sort) (s : List ℕ) (w : TableWalk) → Steps module_at in_area (first_sub rule CROSS_SCOPE_IMPORTS s) s w
    (import_step rule s w)
import_steps rule s w = steps module_at in_area (first_sub rule CROSS_SCOPE_IMPORTS s) s w (first_finds rule CROSS_SCOPE_IMPORTS s)

-- ---- the theorems

-- one step of the modules of a body
pub modules_right : (b : List ℕ) (p : ℕ) → modules_from b p ≡ on_move (modules_from b) (moved (module_at b p))
modules_right = rows_step module_bite module_size module_shown bitten

-- with their words for their places
pub modules_back : (b : List ℕ) (p : ℕ) → p ≤ length b → mapped (module_of b) same (modules_from b p) ≡ modules (drop p b)
unfolding modules
modules_back b p h = rows_back module_bite module_size module_shown bitten b (module_of b) (λ q m t l. in_body b q m t) p h

-- with their words in an area, of which the body is the part from `start` on
pub modules_placed : (s : List ℕ) (start len p : ℕ) → p ≤ length (take len (drop start s))
    → mapped (λ (m : ModuleAt). module_of s (in_area start m)) same (modules_from (take len (drop start s)) p) ≡ modules (drop p (take len (drop start s)))
unfolding modules
modules_placed s start len p h =
    rows_back module_bite module_size module_shown bitten (take len (drop start s)) (λ (m : ModuleAt). module_of s (in_area start m)) (in_area_lem s start len) p h

whole : (b : List ℕ) → modules_from b 0 ≡ rows_placed module_size module_shown 0 (modules b)
unfolding modules
whole b = rows_in module_bite module_size module_shown b 0 (omega arith)

placed_whole : (s : List ℕ) (x : Reply Span Told)
    → table_of (λ (b : List ℕ). modules_from b 0) in_area s x ≡ table_of (λ (b : List ℕ). rows_placed module_size module_shown 0 (modules b)) in_area s x
placed_whole s (gave a) = ap (mapped (in_area a.start) same) (whole (take a.len (drop a.start s)))
placed_whole s nothing = refl
placed_whole s (refused t) = refl

-- THE THEOREM on the walk: a new walk's answers, taken until it ends, are the imports of the area
pub imports_walk : (rule : ℕ → Sort) (s : List ℕ) (n : ℕ) → calls (import_step rule s) n walk.New ≡ replies n (imports_of rule s)
imports_walk rule s n =
    table_walk_lem module_at in_area modules_from modules_right s (first_sub rule CROSS_SCOPE_IMPORTS s) (first_finds rule CROSS_SCOPE_IMPORTS s) n
    ∙ ap (replies n) (placed_whole s (first_sub rule CROSS_SCOPE_IMPORTS s))

back : (s : List ℕ) (x : Reply Span Told)
    → mapped (module_of s) same (table_of (λ (b : List ℕ). rows_placed module_size module_shown 0 (modules b)) in_area s x) ≡ table_of modules (λ (_ : ℕ) (m : Module). m) s x
back s (gave a) =
    let b = take a.len (drop a.start s) in
    mapped_mapped (module_of s) (in_area a.start) (rows_placed module_size module_shown 0 (modules b))
    ∙ ap (mapped (λ (m : ModuleAt). module_of s (in_area a.start m)) same) (sym (whole b))
    ∙ modules_placed s a.start a.len 0 (omega arith)
    ∙ sym (mapped_same (modules b))
back s nothing = refl
back s (refused t) = refl

-- THE THEOREM on the words: at the places that the imports tell stand the words of the area's modules
pub imports_words : (rule : ℕ → Sort) (s : List ℕ) → mapped (module_of s) same (imports_of rule s) ≡ modules_of rule s
imports_words rule s = back s (first_sub rule CROSS_SCOPE_IMPORTS s)
