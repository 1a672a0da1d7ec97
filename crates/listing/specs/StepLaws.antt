-- Laws of a step: one for each way out of the code, and that the bytes of a checksum are few.
use Rattle.std.specs.Prelude.{ℕ, ◌+◌, ◌-◌, ◌≤◌, ◌<◌, ◌≡◌, refl, List, length, take, drop, get_or, ltb, eqb}
use Rattle.std.proofs.Common.{sym, ◌∙◌, ⊎_elim, arith, length-take, get_or-take, lt-ltb, le-ltb}
use Rattle.std.proofs.Math.Path.{ap, subst⁻¹}
use Rattle.std.proofs.Math.ListN.{get_or-eq_default}
use Rattle.word.specs.Word.{u32_at, put, Bytes}
use Rattle.word.specs.WordLaws.{bytes_drop}
use Rattle.walk.specs.Cases.{by_cases, le_or_gt}
use Rattle.walk.specs.Listing.{Answer, gives, none, refuses, Reply, gave, nothing, refused}
use Rattle.refusal.specs.Told.{Told, told, longest}
use Rattle.refusal.specs.declared.Refusal.TheVariants as why
use Rattle.kinds.specs.Kind.{Sort}
use Rattle.table.specs.Table.{Place, spot_in, spot_of, shifted, read_at}
use Rattle.table.specs.declared.TableWalk.{TableWalk}
use Rattle.body.specs.Checksums.{up4}
use Rattle.checksums.specs.Entry.{Entry, kept_of, closed_as, entry_at}
use Rattle.files.specs.Files.{File, file_of, files_sub, file_step, held, part_of, file_spelt}
use Rattle.line_record.specs.declared.EndLines.TheVariants.{Crate}
use Rattle.line_step.specs.declared.LineWalk.TheVariants as line
use Rattle.text.specs.Text.{joined, Next, at, Page, page, piece_written}
use Rattle.text.specs.PageLaws.{written_fits}
use Rattle.printed.specs.Printed.{Pieces, longest_line, head_line, file_line}
use Rattle.printed.specs.PrintedLaws.{Short, file_fits}
use Rattle.listing.specs.Dump.{most_bytes, file_row, refusal}
use Rattle.listing.specs.Step.{Line, stage, lines_step, files_step, head_step, both, line_shown, text_step, line_answer}
use Rattle.listing.specs.declared.TextWalk.{TextWalk}
use Rattle.listing.specs.declared.TextWalk.TheVariants.{Subs, Files, Done}

-- a line that fits, put at the start of a buffer that has room for every line: what the page says is what is shown
pub line_shown_lem : (b y : List ℕ) (p : Next) (x : Pieces) (t : TextWalk) (a : Answer TextWalk ℕ Told) → longest_line ≤ length b → length (joined x) ≤ longest_line
    → page y p ≡ piece_written (joined x) (page b (at 0)) → a ≡ line_answer p t → both a y ≡ line_shown b (gives x t)
unfolding line_shown
line_shown_lem b y p x t a room fits e ea =
    let w : page y p ≡ page (put b 0 (joined x)) (at (length (joined x)))
    = e ∙ sym (written_fits b 0 (joined x) (omega arith)) ∙ ap (λ (n : ℕ). page (put b 0 (joined x)) (at n)) (omega arith) in
    (λ i. both (ea i) y) ∙ ap (λ (q : Page). both (line_answer q.next t) q.bytes) w

-- ---- the ways out of `head_step`

module _ (s : List ℕ) where
  pub head_long : most_bytes < length s → gives (refusal (told why.TooLong)) Done ≡ head_step s
  unfolding head_step
  head_long h = rw (lt-ltb most_bytes (length s) h)

  pub head_short : length s ≤ most_bytes → gives (head_line (length s)) (Subs 0) ≡ head_step s
  unfolding head_step
  head_short h = rw (le-ltb most_bytes (length s) h)

-- ---- the room

pub none_shown : (b : List ℕ) → both none b ≡ line_shown b none
unfolding line_shown
none_shown b = refl

pub step_none : (b : List ℕ) (u : Line) → length b < longest_line → both (refuses (told why.NoRoom)) b ≡ text_step b u
unfolding text_step
step_none b u h = rw (lt-ltb (length b) longest_line h)

step_room : (b : List ℕ) (u : Line) → longest_line ≤ length b → line_shown b u ≡ text_step b u
unfolding text_step
step_room b u h = rw (le-ltb (length b) longest_line h)

-- ---- a stage: a is its walk's answer; r is what the code answers, and y what the buffer then holds

module _ {S B : Type 0} (state : S → TextWalk) (row : B → Pieces) (a : Answer S B Told) (x : Line) (b y : List ℕ) (r : Answer TextWalk ℕ Told) where
  pub stage_gives : (p : Next) (d : B) (t : S) → gives d t ≡ a → longest_line ≤ length b → length (joined (row d)) ≤ longest_line
      → page y p ≡ piece_written (joined (row d)) (page b (at 0)) → r ≡ line_answer p (state t) → both r y ≡ line_shown b (stage state row a x)
  unfolding stage
  stage_gives p d t e room fits w l =
      line_shown_lem b y p (row d) (state t) r room fits w l ∙ ap (λ (u : Answer S B Told). line_shown b (stage state row u x)) e

  pub stage_none : none ≡ a → both r y ≡ line_shown b x → both r y ≡ line_shown b (stage state row a x)
  unfolding stage
  stage_none e w = w ∙ ap (λ (u : Answer S B Told). line_shown b (stage state row u x)) e

  pub stage_refuses : (p : Next) (t : Told) → refuses t ≡ a → longest_line ≤ length b → length (joined (refusal t)) ≤ longest_line
      → page y p ≡ piece_written (joined (refusal t)) (page b (at 0)) → r ≡ line_answer p Done → both r y ≡ line_shown b (stage state row a x)
  unfolding stage
  stage_refuses p t e room fits w l =
      line_shown_lem b y p (refusal t) Done r room fits w l ∙ ap (λ (u : Answer S B Told). line_shown b (stage state row u x)) e

-- ---- the bytes of a file's checksum: its size is a byte

bytes_take : (k : ℕ) (l : List ℕ) → Bytes l → Bytes (take k l)
bytes_take k l h i =
    ⊎_elim (λ (g : k ≤ i). rw (get_or-eq_default (take k l) 0 {n = i} (omega (arith, length-take k l))) (omega arith))
    (λ (g : i < k). rw (get_or-take k l i 0 g) (h i)) (le_or_gt k i)

abbrev Small : Answer ℕ Entry Told → Type 0
Small (gives e x) = e.len ≤ 255
Small none = Unit {0}
Small (refuses t) = Unit {0}

kept_small : (k n : ℕ) → n < 256 → kept_of k n ≤ 255
unfolding kept_of
kept_small k n h = by_cases (λ (j : ℕ). j ≤ 255) (eqb k 0) (λ e. omega arith) (λ e. omega arith)

closed_small : (m name kind start n : ℕ) → n < 256 → Small (closed_as m name kind start n)
unfolding closed_as
closed_small m name kind start n h =
    by_cases Small (ltb 3 kind) (λ e. tt) (λ e. by_cases Small (ltb m (up4 (start + n))) (λ f. tt) (λ f. kept_small kind n h))

entry_small : (b : List ℕ) (p : ℕ) → Bytes b → Small (entry_at b p)
unfolding entry_at
entry_small b p h =
    by_cases Small (ltb (length b) p) (λ a. tt)
    (λ a. by_cases Small (eqb (length b - p) 0) (λ c. tt)
    (λ c. by_cases Small (ltb (length b - p) 6) (λ d. tt)
    (λ d. by_cases Small (ltb (length b - p - 6) (get_or b (p + 4) 0)) (λ e. tt)
    (λ e. closed_small (length b) (u32_at b p) (get_or b (p + 5) 0) (p + 6) (get_or b (p + 4) 0) (h (p + 4))))))

abbrev SmallFile : Answer TableWalk File Told → Type 0
SmallFile (gives f t) = f.info.len ≤ 255
SmallFile none = Unit {0}
SmallFile (refuses t) = Unit {0}

file_small : (s : List ℕ) → Bytes s → (x : Reply Place Told) → SmallFile (read_at entry_at file_of s x)
file_small s h (gave q) = by (entry_at b q.at) (entry_small b q.at (bytes_take q.len (drop q.start s) (bytes_drop q.start s h)))
  where
    b : List ℕ
    b = take q.len (drop q.start s)

    by : (u : Answer ℕ Entry Told) → Small u → SmallFile (shifted file_of q.start q.len u)
    by (gives e x) w = w
    by none w = tt
    by (refuses t) w = tt
file_small s h nothing = tt
file_small s h (refused t) = tt

step_small : (rule : ℕ → Sort) (s : List ℕ) (w : TableWalk) → Bytes s → SmallFile (file_step rule s w)
unfolding file_step
step_small rule s w h = file_small s h (spot_of (files_sub rule s) s w)

part_small : (s : List ℕ) (start len : ℕ) → len ≤ 255 → (part_of s start len).len ≤ 255
unfolding part_of spot_in
part_small s start len h =
    by_cases (λ (x : Reply Place Told). (held x).len ≤ 255) (ltb longest (length s)) (λ e. omega arith)
    (λ e. by_cases (λ (x : Reply Place Told). (held x).len ≤ 255) (ltb (length s) (start + len)) (λ f. omega arith) (λ f. h))

row_short : (rule : ℕ → Sort) (s : List ℕ) (w t : TableWalk) (f : File) → Bytes s → gives f t ≡ file_step rule s w → length (file_spelt s f).bytes ≤ 255
row_short rule s w t f h e =
    let l : f.info.len ≤ 255 = subst⁻¹ SmallFile e (step_small rule s w h) in
    let a = part_of s f.info.start f.info.len in
    omega (arith, part_small s f.info.start f.info.len l, length-take a.len (drop a.start s))

-- a file's line, its bytes l as they are handed back
pub file_line_lem : (rule : ℕ → Sort) (s v : List ℕ) (w : TableWalk) (b y : List ℕ) (r : Answer TextWalk ℕ Told) (p : Next) (f : File) (t : TableWalk) (l : List ℕ)
    → gives f t ≡ file_step rule s w → Bytes s → Short f.index → Short f.info.name → longest_line ≤ length b → l ≡ (file_spelt s f).bytes
    → page y p ≡ piece_written (joined (file_line f.index f.info.name f.info.kind l)) (page b (at 0)) → r ≡ line_answer p (Files t)
    → both r y ≡ line_shown b (files_step rule s v w)
file_line_lem rule s v w b y r p f t l e h i n room el q g =
    stage_gives Files (file_row s) (file_step rule s w) (lines_step rule s v (line.New Crate)) b y r p f t e room
    (file_fits f.index f.info.name f.info.kind (file_spelt s f).bytes i n (row_short rule s w t f h e))
    (q ∙ ap (λ (m : List ℕ). piece_written (joined (file_line f.index f.info.name f.info.kind m)) (page b (at 0))) el) g

-- the step u of a state, which is v, in a buffer that has the room
pub step_is : (b y : List ℕ) (r : Answer TextWalk ℕ Told) (u v : Line) → longest_line ≤ length b → both r y ≡ line_shown b u → u ≡ v → both r y ≡ text_step b v
step_is b y r u v h e q = e ∙ ap (line_shown b) q ∙ step_room b v h
