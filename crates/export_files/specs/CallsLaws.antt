-- Laws of the call for many files: only an answer changes the words lent for records, and behind the last files there is none. And of a lookup in a body
-- that has no room.
use Rattle.std.specs.Prelude.{ℕ, ◌≡◌, ◌<◌, Bool, true, false, cond, ltb, List, [], ◌∷◌, length}
use Rattle.std.proofs.Common.{ap, ◌∙◌, arith}
use Rattle.walk.specs.Listing.{Answer, gives, none, refuses, refused}
use Rattle.refusal.specs.Told.{Told, told, longest}
use Rattle.refusal.specs.declared.Refusal.TheVariants as why
use Rattle.checksums.specs.Entry.{Entry, entry_at}
use Rattle.kinds.specs.Kind.{Sort}
use Rattle.files.specs.Files.{file_step, at_index, file_in}
use Rattle.answer_words.specs.Given.{Gives, refusal_size, reply_given}
use Rattle.answer_words.specs.GivenLaws.{gives_short}
use Rattle.answer_words.specs.TableWords.{table_state_size, walk_in, walk_words, over_table}
use Rattle.answer_words.specs.TableWordsLaws.{walk_length, over_read}
use Rattle.answer_words.specs.FillGivenLaws.{fill_careful, fill_last}
use Rattle.many_files.specs.Files.{info_words, file_words, files_of}
use Rattle.many_files.specs.FilesLaws.{files_over}
use Rattle.export_files.specs.Calls.{files_given, files_left, file_in_given}

-- THE LAW: with any status but 1 and 4 the words lent for records are as they were
pub files_careful : (rule : ℕ → Sort) (s x o : List ℕ) {r : ℕ} {left : List ℕ} → Gives o (files_given rule s (length x) o) r left → (r ≡ 1 → ⊥) → (r ≡ 4 → ⊥)
    → files_left rule s x o ≡ x
files_careful rule s x o = fill_careful table_state_size over_table walk_words file_words o x (files_of rule s (length x) (walk_in o)) walk_length

-- THE LAW: behind an answer of status 4 the walk that is left is at its end
pub files_last : (rule : ℕ → Sort) (s x o : List ℕ) {left : List ℕ} → Gives o (files_given rule s (length x) o) 4 left → file_step rule s (walk_in left) ≡ none
files_last rule s x o =
    fill_last table_state_size over_table walk_words file_words o x (files_of rule s (length x) (walk_in o)) (λ l. file_step rule s (walk_in l) ≡ none) (file_step rule s)
    (λ w n e q. ap (file_step rule s) (over_read w o (n ∷ []) e) ∙ q)
    (files_over rule s (length x) (walk_in o))

-- ---- neither a file nor a refusal has room in fewer words than a refusal takes

module _ (o : List ℕ) (l : length o < refusal_size) where
  index_short : (i : ℕ) (x : Answer ℕ Entry Told) → Gives o (reply_given info_words (at_index i x)) 3 o
  index_short i (gives e x) = gives_short _ _ (omega (arith, l))
  index_short i none = gives_short _ _ l
  index_short i (refuses t) = gives_short _ _ l

  pub in_short : (b : List ℕ) (i : ℕ) → Gives o (file_in_given b i) 3 o
  unfolding file_in
  in_short b i = on (ltb longest (length b))
    where
      on : (t : Bool) → Gives o (reply_given info_words (cond t (refused (told why.TooLong)) (at_index i (entry_at b i)))) 3 o
      on true = gives_short _ _ l
      on false = index_short i (entry_at b i)
