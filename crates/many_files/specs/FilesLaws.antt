-- Laws of many files at once: a turn of the loop that puts a file, that the files given, and the steps behind them, are the files of the area, and that
-- behind a walk that is over there is none.
use Rattle.std.specs.Prelude.{ℕ, ◌+◌, ◌-◌, ◌*◌, ◌/◌, ◌<◌, ◌≤◌, ◌≡◌, refl, List, true, length, take, drop}
use Rattle.std.proofs.Common.{sym, ap, ◌∙◌, ⊎_elim, arith, eqb-true}
use Rattle.std.proofs.Math.Path.{subst⁻¹}
use borrow.Rule.Slice.PartMut.{put_mid}
use Rattle.word.specs.Word.{store}
use Rattle.walk.specs.Cases.{eq_or_ne}
use Rattle.walk.specs.Listing.{Answer, gives, none, refuses, calls, replies}
use Rattle.walk.specs.Many.{many}
use Rattle.walk.specs.ManyLaws.{NoRecord, gave_all, many_calls}
use Rattle.refusal.specs.Told.{Told}
use Rattle.kinds.specs.Kind.{Sort}
use Rattle.table.specs.declared.TableWalk.{TableWalk}
use Rattle.table.specs.declared.TableWalk.TheVariants as walk
use Rattle.files.specs.Files.{File, file_step, files_in}
use Rattle.files.proofs.FilesLaws.{files_walk, Leads, file_leads, file_over}
use Rattle.answer_words.specs.Fill.{no_room, counted}
use Rattle.answer_words.specs.Filling.{Filled, Filling}
use Rattle.answer_words.specs.FillLaws.{fill_stored, fill_stop, fill_none}
use Rattle.answer_words.specs.FillGivenLaws.{Behind, fill_behind_each}
use Rattle.answer_words.specs.PiecesLaws.{put_part}
use Rattle.answer_words.specs.TableWords.{over_table}
use Rattle.many_files.specs.Files.{file_size, file_words, files_of}
use Rattle.many_files.specs.FileWordsLaws.{file_length}

module _ (rule : ℕ → Sort) (s : List ℕ) (w₀ : TableWalk) (o₀ : List ℕ) where
  -- n files are put into o, and the walk behind them is w
  abbrev pub Put : ℕ → TableWalk → List ℕ → Type 0
  Put n w o = Filling file_size file_words (file_step rule s) w₀ o₀ n w w o

  -- a turn: its words are put as a part of their own, whose length is known
  pub put_file_lem : {n : ℕ} {w : TableWalk} {o : List ℕ} → Put n w o → (f : File) (t : TableWalk) {y ws : List ℕ} → gives f t ≡ file_step rule s w
      → n < length o₀ / file_size → file_words f ≡ ws
      → y ≡ store (take (file_size * n + file_size - file_size * n) (drop (file_size * n) o)) 0 ws
      → Put (n + 1) t (put_mid (file_size * n) (file_size * n + file_size - file_size * n) o y)
  put_file_lem {n} {w} {o} h f t {y} {ws} e l q g =
      let at = file_size * n in
      fill_stored file_size file_words file_length (file_step rule s) w₀ o₀ h f t (put_mid at (at + file_size - at) o y) e l
      (put_part o y ws at file_size (ap length (sym q) ∙ file_length f) (omega (arith, h.size)) g ∙ ap (store o at) (sym q))

  abbrev Ends : Answer TableWalk ℕ Told → List ℕ → Type 0
  Ends = Filled file_size file_words (file_step rule s) w₀ o₀

  -- it stops: a is what a step from here answers, and r is told, which is that answer where no file is put
  pub put_ended : {n : ℕ} {w : TableWalk} {o : List ℕ} → Put n w o → file_size ≤ length o₀ → (a : Answer TableWalk File Told) → a ≡ file_step rule s w → NoRecord a
      → {r : Answer TableWalk ℕ Told} → (n ≡ 0 → r ≡ counted (no_room a)) × ((n ≡ 0 → ⊥) → r ≡ gives n w) → Ends r o
  put_ended {n} {w} {o} h fits a e g {r} q = ⊎_elim
      (λ (z : n ≡ 0). subst⁻¹ (λ x. Ends x o) (q.0 z) (fill_none file_size file_words file_length (file_step rule s) w₀ o₀ h fits a e g z))
      (λ (z : n ≡ 0 → ⊥). subst⁻¹ (λ x. Ends x o) (q.1 z) (fill_stop file_size file_words file_length (file_step rule s) w₀ o₀ h fits a e g z))
      (eq_or_ne n 0)

-- THE LAW: k files at once, and j steps behind them, answer what the files of the area ask
pub many_files_lem : (rule : ℕ → Sort) (s : List ℕ) (k j : ℕ)
    → gave_all (many (file_step rule s) k walk.New).records (calls (file_step rule s) j (many (file_step rule s) k walk.New).next)
    ≡ replies (length (many (file_step rule s) k walk.New).records + j) (files_in rule s)
many_files_lem rule s k j = sym (many_calls (file_step rule s) k j walk.New) ∙ files_walk rule s (length (many (file_step rule s) k walk.New).records + j)

-- THE LAW: behind a file, a walk at the end of its body is at its end
module _ (rule : ℕ → Sort) (s : List ℕ) where
  over_none : {f : File} {t : TableWalk} → Leads s f t → over_table t ≡ true → file_step rule s t ≡ none
  over_none h e =
      let q : h.at ≡ h.len = eqb-true h.at h.len (ap over_table (sym h.is) ∙ e) in
      ap (file_step rule s) (h.is ∙ ap (walk.In h.start h.len) q) ∙ file_over rule s h.start h.len h.lies h.short

  each_over : (w : TableWalk) → Behind (λ t. over_table t ≡ true → file_step rule s t ≡ none) (file_step rule s w)
  each_over w = by (file_step rule s w) refl
    where
      by : (a : Answer TableWalk File Told) → a ≡ file_step rule s w → Behind (λ t. over_table t ≡ true → file_step rule s t ≡ none) a
      by (gives f t) e = over_none (file_leads rule s w f t e)
      by none e = tt
      by (refuses t) e = tt

  pub files_over : (n : ℕ) (w : TableWalk) → Behind (λ t. over_table t ≡ true → file_step rule s t ≡ none) (files_of rule s n w)
  files_over n w = fill_behind_each (file_step rule s) (λ t. over_table t ≡ true → file_step rule s t ≡ none) each_over file_size n w (omega arith)
