-- A loop over the steps ends: each line leaves less to do.
use Rattle.std.specs.Prelude.{ℕ, suc, ◌+◌, ◌-◌, ◌≤◌, ◌<◌, refl, List, ◌++◌, Bool, take, ltb, Option, Some, Result, Ok}
use Rattle.std.proofs.Math.Path.{◌≡◌, ap, subst⁻¹}
use Rattle.std.proofs.Common.{sym, ◌∙◌, arith, length-take}
use Rattle.std.proofs.Math.Bool.{true, false, cond}
use Rattle.std.proofs.Math.ListN.{length, drop, length-append}
use Rattle.walk.specs.Cases.{by_cases}
use Rattle.walk.specs.Listing.{Answer, gives, none, refuses, Reply, gave, nothing, refused, moved}
use Rattle.walk.specs.ListingLaws.{To, To_map}
use Rattle.walk.specs.FirstLaws.{first_less}
use Rattle.walk.specs.PickLaws.{Gives}
use Rattle.refusal.specs.Told.{Told, told, longest}
use Rattle.refusal.specs.declared.Refusal.{Refusal}
use Rattle.refusal.specs.declared.Refusal.TheVariants as why
use Rattle.kinds.specs.Kind.{Sort}
use Rattle.area.specs.Subs.{Sub, step_at}
use Rattle.area.specs.SubsLaws.{Next, sub_next}
use Rattle.find.specs.Find.{Span}
use Rattle.table.specs.Table.{Place, spot_new, spot_in, spot_of, shifted, read_at}
use Rattle.table.specs.TableLaws.{Finds}
use Rattle.table.specs.declared.TableWalk.{TableWalk}
use Rattle.table.specs.declared.TableWalk.TheVariants as table
use Rattle.checksums.specs.Entry.{Entry, entry_at}
use Rattle.checksums.specs.EntryLaws.{EntryWithin, entry_within}
use Rattle.files.specs.Files.{file_of, files_sub, file_step}
use Rattle.files.proofs.FilesLaws.{files_finds}
use Rattle.line_record.specs.declared.EndLines.TheVariants.{Crate}
use Rattle.line_step.specs.Turn.{turn_of}
use Rattle.line_step.specs.declared.LineWalk.{LineWalk}
use Rattle.line_step.specs.declared.LineWalk.TheVariants as line
use Rattle.line_walk.specs.Next.{todo, next_of}
use Rattle.line_walk.proofs.NextLaws.{falls}
use Rattle.text.specs.Text.{joined}
use Rattle.printed.specs.Printed.{Pieces, longest_line, end_of_text}
use Rattle.printed.specs.LineText.{record_line}
use Rattle.listing.specs.Dump.{most_bytes, sub_row, file_row}
use Rattle.listing.specs.Step.{Line, stage, lines_step, files_step, subs_step, head_step, step_of, Both, both, line_shown, text_step}
use Rattle.listing.specs.Told.{told_text}
use Rattle.listing.specs.declared.TextWalk.{TextWalk}
use Rattle.listing.specs.declared.TextWalk.TheVariants.{Head, Subs, Files, Lines, Done}

module _ (rule : ℕ → Sort) (s : List ℕ) where
  abbrev pub files_left : TableWalk → ℕ
  files_left table.New = length s
  files_left (table.In start len at) = len - at

  -- how much is to be done: a bound on the lines
  abbrev records_left : LineWalk → ℕ
  records_left w = suc (todo rule s w)

  abbrev pub text_left : TextWalk → ℕ
  text_left Head = suc (suc (length s + suc (length s + records_left (line.New Crate))))
  text_left (Subs p) = suc (length s - p + suc (length s + records_left (line.New Crate)))
  text_left (Files w) = suc (files_left w + records_left (line.New Crate))
  text_left (Lines w) = records_left w
  text_left Done = 0

  -- ---- the walks of the stages

  files_at_lem : (q : Place) → To (moved (read_at entry_at file_of s (gave q))) (λ t. files_left t < q.len - q.at)
  files_at_lem q = by (entry_at b q.at) (entry_within b q.at)
    where
      b : List ℕ
      b = take q.len (drop q.start s)

      by : (u : Answer ℕ Entry Told) → EntryWithin (length b) q.at u → To (moved (shifted file_of q.start q.len u)) (λ t. files_left t < q.len - q.at)
      by (gives e x) w = omega (arith, length-take q.len (drop q.start s))
      by none w = tt
      by (refuses t) w = tt

  -- a spot has no more to do than the walk that it is of
  abbrev Under : ℕ → Reply Place Told → Type 0
  Under k = Gives (λ (q : Place). q.len - q.at ≤ k)

  new_under : (f : Reply Span Told) → Finds s f → Under (length s) (spot_new f)
  new_under (gave a) h = omega arith
  new_under nothing h = tt
  new_under (refused t) h = tt

  spot_under : (w : TableWalk) → Under (files_left w) (spot_of (files_sub rule s) s w)
  unfolding spot_in
  spot_under table.New = new_under (files_sub rule s) (files_finds rule s)
  spot_under (table.In start len at) =
      by_cases (Under (len - at)) (ltb longest (length s)) (λ d. tt)
      (λ d. by_cases (Under (len - at)) (ltb (length s) (start + len)) (λ e. tt) (λ e. omega arith))

  files_less : (w : TableWalk) → To (moved (file_step rule s w)) (λ t. files_left t < files_left w)
  unfolding file_step
  files_less w = by (spot_of (files_sub rule s) s w) (spot_under w)
    where
      by : (x : Reply Place Told) → Under (files_left w) x → To (moved (read_at entry_at file_of s x)) (λ t. files_left t < files_left w)
      by (gave q) h = To_map (moved (read_at entry_at file_of s (gave q))) (λ t. files_left t < q.len - q.at) (λ t. files_left t < files_left w) (λ t l. omega arith) (files_at_lem q)
      by nothing h = tt
      by (refused t) h = tt

  subs_less : (p : ℕ) → To (moved (step_at rule s p)) (λ t. length s - t < length s - p)
  subs_less p = by (step_at rule s p) (λ b x e. sub_next rule s p b x e)
    where
      by : (a : Answer ℕ Sub Told) → ((b : Sub) (x : ℕ) → gives b x ≡ a → Next rule s p b x) → To (moved a) (λ t. length s - t < length s - p)
      by (gives b x) h = let n = h b x refl in omega arith
      by none h = tt
      by (refuses t) h = tt

  -- ---- a stage: m is what its walk has to do, k what comes behind it

  abbrev Less : ℕ → Line → Type 0
  Less m a = To (moved a) (λ t. text_left t < m)

  stage_less : {S B : Type 0} (state : S → TextWalk) (row : B → Pieces) (left : S → ℕ) (w : S) (m k : ℕ) → ((t : S) → left t < left w → text_left (state t) < m) → k ≤ m → 0 < m
      → (x : Line) → Less k x → (a : Answer S B Told) → To (moved a) (λ t. left t < left w) → Less m (stage state row a x)
  unfolding stage
  stage_less state row left w m k on h z x l (gives b t) f = on t f
  stage_less state row left w m k on h z x l none f = To_map (moved x) (λ t. text_left t < k) (λ t. text_left t < m) (λ t g. omega arith) l
  stage_less state row left w m k on h z x l (refuses t) f = z

  module _ (v : List ℕ) where
    lines_less : (w : LineWalk) → Less (records_left w) (lines_step rule s v w)
    unfolding next_of
    lines_less w =
        stage_less Lines record_line (todo rule s) w (records_left w) 1 (λ t l. omega arith) (omega arith) (omega arith) (gives end_of_text Done) (omega arith)
        (next_of rule s v w) (first_less (turn_of rule s v) (todo rule s) (falls rule s v) w)

    files_step_less : (w : TableWalk) → Less (text_left (Files w)) (files_step rule s v w)
    files_step_less w =
        stage_less Files (file_row s) files_left w (text_left (Files w)) (records_left (line.New Crate)) (λ t l. omega arith) (omega arith) (omega arith)
        (lines_step rule s v (line.New Crate)) (lines_less (line.New Crate)) (file_step rule s w) (files_less w)

    subs_step_less : (p : ℕ) → Less (text_left (Subs p)) (subs_step rule s v p)
    subs_step_less p =
        stage_less Subs sub_row (λ (q : ℕ). length s - q) p (text_left (Subs p)) (text_left (Files table.New)) (λ t l. omega arith) (omega arith) (omega arith)
        (files_step rule s v table.New) (files_step_less table.New) (step_at rule s p) (subs_less p)

    step_falls : (w : TextWalk) → Less (text_left w) (step_of rule s v w)
    unfolding head_step
    step_falls Head = by_cases (Less (text_left Head)) (ltb most_bytes (length s)) (λ e. omega arith) (λ e. omega arith)
    step_falls (Subs p) = subs_step_less p
    step_falls (Files w) = files_step_less w
    step_falls (Lines w) = lines_less w
    step_falls Done = tt

    pub text_less : (w t : TextWalk) (x : Pieces) → gives x t ≡ step_of rule s v w → text_left t < text_left w
    text_less w t x e = subst⁻¹ (Less (text_left w)) e (step_falls w)

    -- what a loop over `next_text` needs of a line that it answers: it stands in the buffer, and leaves less to do
    pub text_line : (r : Result (Option (ℕ × TextWalk)) Refusal) (b y : List ℕ) (n : ℕ) (w t : TextWalk) → r ≡ Ok (Some (n, t)) → both (told_text r) y ≡ text_step b (step_of rule s v w)
        → (n ≤ length y) × (text_left t < text_left w)
    unfolding text_step line_shown
    text_line r b y n w t er q = by (ltb (length b) longest_line) (step_of rule s v w) (text_less w) (ap (λ (k : Result (Option (ℕ × TextWalk)) Refusal). both (told_text k) y) (sym er) ∙ q)
      where
        by : (c : Bool) (u : Line) → ((r : TextWalk) (x : Pieces) → gives x r ≡ u → text_left r < text_left w)
            → both (gives n t) y ≡ cond c (both (refuses (told why.NoRoom)) b) (line_shown b u) → (n ≤ length y) × (text_left t < text_left w)
        by true u f e = let q = ap (λ (z : Both). z.answer) e in let z : ◌≡◌ {A = ℕ} 0 1 = cc in absurd (omega arith)
        by false (gives x r) f e =
            let q = ap (λ (z : Both). z.answer) e in
            let en : n ≡ length (joined x) = cc in
            let et : t ≡ r = cc in
            let ey : length y ≡ length (joined x ++ drop (0 + length (joined x)) b) = ap (λ (z : Both). length z.bytes) e in
            (omega (arith, length-append (joined x) (drop (0 + length (joined x)) b)), subst⁻¹ (λ (k : TextWalk). text_left k < text_left w) et (f r x refl))
        by false none f e = let q = ap (λ (z : Both). z.answer) e in let z : ◌≡◌ {A = ℕ} 0 1 = cc in absurd (omega arith)
        by false (refuses o) f e = let q = ap (λ (z : Both). z.answer) e in let z : ◌≡◌ {A = ℕ} 0 1 = cc in absurd (omega arith)
