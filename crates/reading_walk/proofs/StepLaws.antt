-- Laws of a step: one for each way out of the code.
use Rattle.std.specs.Prelude.{ℕ, ◌+◌, ◌-◌, ◌%◌, ◌≤◌, ◌<◌, refl, List, length, take, drop, ltb}
use Rattle.std.proofs.Math.Path.{◌≡◌, ap}
use Rattle.std.proofs.Common.{sym, ◌∙◌, arith, ltb-false}
use Rattle.word.specs.Word.{u32_at}
use Rattle.walk.specs.Cases.{tests, by_cases}
use Rattle.walk.specs.Listing.{Answer, gives, none, refuses, Reply, gave, refused}
use Rattle.refusal.specs.Told.{Told, told, longest}
use Rattle.refusal.specs.declared.Refusal.TheVariants as why
use Rattle.kinds.specs.Kind.{LINES, FILE_CHECKSUMS, INLINEE_LINES, CROSS_SCOPE_IMPORTS, CROSS_SCOPE_EXPORTS, Sort}
use Rattle.area.specs.Subs.{Sub, step_at}
use Rattle.area.specs.SubsLaws.{sub_next}
use Rattle.table.specs.Table.{Place, spot_in}
use Rattle.body.specs.Lines.{LineHead, line_head_size, line_head}
use Rattle.reading_record.specs.Item.{ToldItem, open_lines, open_checksums, open_inlinees, open_imports, open_exports, opaque}
use Rattle.reading_record.specs.Record.{ItemAnswer, record_at, in_walk, record_in_body}
use Rattle.reading_record.specs.declared.ItemWalk.{ItemWalk}
use Rattle.reading_record.specs.declared.ItemWalk.TheVariants as walk
use Rattle.reading_record.specs.declared.TypedBody.{TypedBody}
use Rattle.reading_record.specs.declared.TypedBody.TheVariants as typed
use Rattle.reading_walk.specs.Step.{lines_opened, inlinees_opened, exports_opened, opened, open_sub, open_step, or_open, record_step, in_body, item_step}

module _ (b : List ℕ) (start : ℕ) where
  pub lines_short : length b < line_head_size → refuses (told why.Cut) ≡ lines_opened b start
  unfolding lines_opened
  lines_short h = simp tests

  pub lines_open : line_head_size ≤ length b → (h : LineHead) → h ≡ line_head b → gives (open_lines h) (walk.In typed.Lines start (length b) line_head_size) ≡ lines_opened b start
  unfolding lines_opened
  lines_open m h e = simp (tests, e)

  pub inlinees_short : length b < 4 → refuses (told why.Cut) ≡ inlinees_opened b start
  unfolding inlinees_opened
  inlinees_short h = simp tests

  pub inlinees_open : 4 ≤ length b → (g : ℕ) → g ≡ u32_at b 0 → gives (open_inlinees g) (walk.In typed.Inlinees start (length b) 4) ≡ inlinees_opened b start
  unfolding inlinees_opened
  inlinees_open h g eg = simp (tests, eg)

  pub exports_open : length b % 8 ≡ 0 → gives open_exports (walk.In typed.Exports start (length b) 0) ≡ exports_opened b start
  unfolding exports_opened
  exports_open h = simp tests

  pub exports_odd : (length b % 8 ≡ 0 → ⊥) → refuses (told why.ExportLength) ≡ exports_opened b start
  unfolding exports_opened
  exports_odd h = simp tests

module _ (b : List ℕ) (kind start end : ℕ) where
  pub opened_lines : kind ≡ LINES → lines_opened b start ≡ opened b kind start end
  unfolding opened
  opened_lines h = simp tests

  module _ (h₂ : kind ≡ LINES → ⊥) where
    pub opened_checksums : kind ≡ FILE_CHECKSUMS → gives open_checksums (walk.In typed.Checksums start (length b) 0) ≡ opened b kind start end
    unfolding opened
    opened_checksums h = simp tests

    module _ (h₄ : kind ≡ FILE_CHECKSUMS → ⊥) where
      pub opened_inlinees : kind ≡ INLINEE_LINES → inlinees_opened b start ≡ opened b kind start end
      unfolding opened
      opened_inlinees h = simp tests

      module _ (h₆ : kind ≡ INLINEE_LINES → ⊥) where
        pub opened_imports : kind ≡ CROSS_SCOPE_IMPORTS → gives open_imports (walk.In typed.Imports start (length b) 0) ≡ opened b kind start end
        unfolding opened
        opened_imports h = simp tests

        module _ (h₇ : kind ≡ CROSS_SCOPE_IMPORTS → ⊥) where
          pub opened_exports : kind ≡ CROSS_SCOPE_EXPORTS → exports_opened b start ≡ opened b kind start end
          unfolding opened
          opened_exports h = simp tests

          pub opened_opaque : (kind ≡ CROSS_SCOPE_EXPORTS → ⊥) → gives (opaque kind start (length b)) (walk.Between end) ≡ opened b kind start end
          unfolding opened
          opened_opaque h = simp tests

-- ---- the next subsection, read off an answer of `sub_at`

module _ (rule : ℕ → Sort) (s : List ℕ) (p : ℕ) where
  -- the part is lent from its start to its end
  pub open_sub_lem : (b : Sub) (x : ℕ) → gives b x ≡ step_at rule s p → opened (take (x - b.start) (drop b.start s)) b.kind b.start x ≡ open_step rule s p
  open_sub_lem b x e =
      let n : x - b.start ≡ b.len = omega (arith, sub_next rule s p b x e) in
      ap (λ (k : ℕ). opened (take k (drop b.start s)) b.kind b.start x) n ∙ ap (open_sub s) e

  pub open_other : (a : Answer ℕ Sub Told) → a ≡ step_at rule s p → open_sub s a ≡ open_step rule s p
  open_other a e = ap (open_sub s) e

-- ---- the two ways of a step, as the code comes to it: w is the state

module _ (rule : ℕ → Sort) (s : List ℕ) (w : ItemWalk) where
  pub between_is : (p : ℕ) (a : ItemAnswer) → w ≡ walk.Between p → a ≡ open_step rule s p → a ≡ item_step rule s w
  between_is p a e q = q ∙ ap (item_step rule s) (sym e)

-- in a body: u is the answer of `record_at`. What holds of a place that is refused, and of one that lies in the area, holds of where it is looked for
spot_by : (s : List ℕ) (start len at : ℕ) (P : Reply Place Told → Type 0) → ((t : Told) → P (refused t))
    → (start + len ≤ length s → P (gave (record { start = start; len = len; at = at }))) → P (spot_in s start len at)
unfolding spot_in
spot_by s start len at P refuses-it lies =
    by_cases P (ltb longest (length s)) (λ d. refuses-it (told why.TooLong))
    (λ d. by_cases P (ltb (length s) (start + len)) (λ e. refuses-it (told why.Cut)) (λ e. lies (ltb-false (length s) (start + len) e)))

-- so the body of a record that is none lies in the area
pub end_lies : (s : List ℕ) (k : TypedBody) (start len at : ℕ) → none ≡ record_in_body s k (spot_in s start len at) → start + len ≤ length s
end_lies s k start len at =
    spot_by s start len at (λ (x : Reply Place Told). none ≡ record_in_body s k x → start + len ≤ length s)
    (λ t r. let z : ◌≡◌ {A = ℕ} 0 1 = cc in absurd (omega arith)) (λ m r. m)

module _ (rule : ℕ → Sort) (s : List ℕ) (k : TypedBody) (start len : ℕ) where
  passes : (u : ItemAnswer) (a : Answer ℕ ToldItem Told) → (u ≡ none → ⊥) → u ≡ in_walk k start len a → u ≡ or_open rule s k start len a
  passes u (gives i x) h e = e
  passes u none h e = absurd (h e)
  passes u (refuses t) h e = e

  ends : (a : Answer ℕ ToldItem Told) → none ≡ in_walk k start len a → open_step rule s (start + len) ≡ or_open rule s k start len a
  ends (gives i x) e = let z : ◌≡◌ {A = ℕ} 0 1 = cc in absurd (omega arith)
  ends none e = refl
  ends (refuses t) e = let z : ◌≡◌ {A = ℕ} 0 1 = cc in absurd (omega arith)

  module _ (at : ℕ) where
    -- it is passed on, unless it is none
    pub record_passes : (w : ItemWalk) (u : ItemAnswer) → w ≡ walk.In k start len at → (u ≡ none → ⊥) → u ≡ record_in_body s k (spot_in s start len at)
        → u ≡ item_step rule s w
    unfolding record_step
    record_passes w u e h q =
        spot_by s start len at (λ (x : Reply Place Told). u ≡ record_in_body s k x → u ≡ in_body rule s k x) (λ t r. r)
        (λ m. passes u (record_at k (take len (drop start s)) start at) h) q
        ∙ ap (item_step rule s) (sym e)

    -- behind the last record the next subsection is opened
    pub record_ends : (w : ItemWalk) → w ≡ walk.In k start len at → none ≡ record_in_body s k (spot_in s start len at)
        → open_step rule s (start + len) ≡ item_step rule s w
    unfolding record_step
    record_ends w e q =
        spot_by s start len at (λ (x : Reply Place Told). none ≡ record_in_body s k x → open_step rule s (start + len) ≡ in_body rule s k x)
        (λ t r. let z : ◌≡◌ {A = ℕ} 0 1 = cc in absurd (omega arith)) (λ m. ends (record_at k (take len (drop start s)) start at)) q
        ∙ ap (item_step rule s) (sym e)
