-- What the definitions of a line record say, in the numbers that are told: the kind is bit 31 of the flags word; a column word has both columns; a length is
-- set by an end, and by a later one only if that makes it shorter.
use Rattle.std.specs.Prelude.{ℕ, ◌/◌, ◌%◌, ◌<◌, ◌≡◌, refl, Bool, true, false, cond, [], ◌∷◌, ltb, Option, None, Some}
use Rattle.std.proofs.Math.Option as option
use Rattle.std.proofs.Common.{arith, ltb-true, ltb-false}
use Rattle.walk.specs.Cases.{by_cases}
use Rattle.line_record.specs.declared.LineKind.{LineKind}
use Rattle.line_record.specs.Flags.{line_kind}
use Rattle.line_record.specs.Record.{start_column, end_column, shorter_of}
use Rattle.line_record.specs.Told.{told_line_kind, told_length, told_column}

pub kind_told : (flags : ℕ) → flags < 0x1_0000_0000 → told_line_kind (line_kind flags) ≡ flags / 0x8000_0000
unfolding line_kind
kind_told flags h =
    by_cases (λ (k : LineKind). told_line_kind k ≡ flags / 0x8000_0000) (ltb flags 0x8000_0000)
    (λ e. omega (arith, ltb-true flags 0x8000_0000 e)) (λ e. omega (arith, ltb-false flags 0x8000_0000 e))

pub columns_told : (w : ℕ) → (told_column (start_column (w ∷ [])) ≡ option.some (w % 65536)) × (told_column (end_column (w ∷ [])) ≡ option.some (w / 65536))
columns_told w = (refl, refl)

-- the length behind an end at n bytes
abbrev pub shorter : option.Option ℕ → ℕ → ℕ
shorter option.none n = n
shorter (option.some m) n = cond (ltb n m) n m

pub length_told : (l : Option ℕ) (n : ℕ) → told_length (shorter_of l n) ≡ option.some (shorter (told_length l) n)
unfolding shorter_of
length_told None n = refl
length_told (Some m) n = by (ltb n m)
  where
    by : (t : Bool) → told_length (cond t (Some n) (Some m)) ≡ option.some (cond t n m)
    by true = refl
    by false = refl
