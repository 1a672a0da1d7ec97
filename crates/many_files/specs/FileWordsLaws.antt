-- Laws of a file in words: how many they are, and words that are equal to those of its parts.
use Rattle.std.specs.Prelude.{ℕ, ◌≡◌, refl, List, [], ◌∷◌, length}
use Rattle.std.proofs.Common.{sym, ap}
use Rattle.files.specs.Files.{File}
use Rattle.many_files.specs.Files.{file_size, info_words, file_words}

pub file_length : (f : File) → length (file_words f) ≡ file_size
file_length f = refl

-- j is the number of the checksum's kind k
module _ (name start len j k : ℕ) (e : j ≡ k) where
  pub info_words_lem : info_words (record { name = name; kind = k; start = start; len = len }) ≡ name ∷ j ∷ start ∷ len ∷ []
  info_words_lem = ap (λ (x : ℕ). name ∷ x ∷ start ∷ len ∷ []) (sym e)

  pub file_words_lem : (index : ℕ)
      → file_words (record { index = index; info = record { name = name; kind = k; start = start; len = len } }) ≡ index ∷ name ∷ j ∷ start ∷ len ∷ []
  file_words_lem index = ap (λ (l : List ℕ). index ∷ l) info_words_lem
