-- The readings of the end line. By the crate's every end line is its start line: the low seven bits that it takes are the start line's own, so that the
-- step that adds 128 is never reached. By the low bits and by the delta it lies at the start line or up to 127 lines behind it. The low bits give the
-- crate's where the field is the start line's own low bits, the delta gives it where the field is 0.
use Rattle.std.specs.Prelude.{ℕ, ◌+◌, ◌-◌, ◌/◌, ◌%◌, ◌^◌, ◌<◌, ◌≤◌, ◌≡◌, refl, false}
use Rattle.std.proofs.Math.Path.{sym, ap}
use Rattle.std.proofs.Common.{◌∙◌, arith}
use Rattle.std.specs.Int.Bits.{bit_or}
use Rattle.std.proofs.lemmas.Nat.{and_mask, or_shifted}
use Rattle.std.proofs.lemmas.Nat.Bits.{and_high}
use borrow.Author.Tests.{ltb-true, ltb-false, lt-ltb, le-ltb}
use Rattle.walk.specs.Cases.{by_cases}
use Rattle.line_record.specs.declared.EndLines.{EndLines}
use Rattle.line_record.specs.declared.EndLines.TheVariants.{Crate, LowBits, Delta}
use Rattle.line_record.specs.Flags.{start_line}
use Rattle.line_record.proofs.FieldLaws.{field_is}
use Rattle.line_record.specs.EndLine.{crate_low, end_field, joined_line, falls_below, end_from, end_line}

-- the examples of document 02: 10 to 12, by the low bits and by the delta; line 127 and the low bits of line 130. And the largest start line with an
-- empty field, which passes 24 bits by the low bits
pub ten_to_twelve : end_line LowBits 0x8c00_000a ≡ 12
unfolding end_from
ten_to_twelve = refl

pub ten_and_two : end_line Delta 0x8200_000a ≡ 12
ten_and_two = refl

pub step_adds : end_line LowBits 0x0200_007f ≡ 130
unfolding end_from
step_adds = refl

pub past_24_bits : end_line LowBits 0x00ff_ffff ≡ 0x100_0000
unfolding end_from
past_24_bits = refl

-- ---- a start line and low bits

module _ (start low : ℕ) (h : start < 2 ^ 32) (g : low < 2 ^ 7) where
  joined_sum : joined_line start low ≡ start - start % 2 ^ 7 + low
  joined_sum =
      ap (λ (k : ℕ). bit_or k low) (and_high start 25 7)
      ∙ or_shifted (start / 2 ^ 7 % 2 ^ 25) 7 low g
      ∙ omega arith

  -- each way out of the code's test
  pub end_below : start - start % 2 ^ 7 + low < start → start - start % 2 ^ 7 + low + 2 ^ 7 ≡ end_from start low
  unfolding end_from
  end_below l = ap (λ (k : ℕ). k + 2 ^ 7) (sym joined_sum) ∙ sym (rw (lt-ltb (joined_line start low) start (omega (arith, joined_sum))))

  pub end_joined : start ≤ start - start % 2 ^ 7 + low → start - start % 2 ^ 7 + low ≡ end_from start low
  unfolding end_from
  end_joined l = sym joined_sum ∙ sym (rw (le-ltb (joined_line start low) start (omega (arith, joined_sum))))

  -- it is the one of the 128 lines from the start line on that has these low bits
  pub end_only : (start ≤ end_from start low) × (end_from start low < start + 2 ^ 7) × (end_from start low % 2 ^ 7 ≡ low)
  unfolding end_from
  end_only =
      by_cases (λ e. (start ≤ e) × (e < start + 2 ^ 7) × (e % 2 ^ 7 ≡ low)) (falls_below start low)
      (λ e. (omega (arith, joined_sum), omega (arith, joined_sum, ltb-true (joined_line start low) start e), omega (arith, joined_sum)))
      (λ e. (ltb-false (joined_line start low) start e, omega (arith, joined_sum), omega (arith, joined_sum)))

-- ---- the crate's reading

module _ (flags : ℕ) where
  low_own : crate_low flags ≡ start_line flags % 2 ^ 7
  low_own = and_mask flags 7 ∙ omega arith

  joined_own : joined_line (start_line flags) (crate_low flags) ≡ start_line flags
  joined_own = joined_sum (start_line flags) (crate_low flags) (omega arith) (omega (arith, low_own)) ∙ omega (arith, low_own)

  -- for every flags word
  pub step_never : falls_below (start_line flags) (crate_low flags) ≡ false
  step_never = le-ltb (joined_line (start_line flags) (crate_low flags)) (start_line flags) (omega (arith, joined_own))

  pub end_is_start : end_line Crate flags ≡ start_line flags
  unfolding end_from
  end_is_start = rw step_never joined_own

-- ---- the field

module _ (flags : ℕ) where
  pub field_small : end_field flags < 2 ^ 7
  field_small = omega (arith, field_is flags)

-- ---- the low bits

module _ (flags : ℕ) where
  pub low_only : (start_line flags ≤ end_line LowBits flags) × (end_line LowBits flags < start_line flags + 2 ^ 7)
      × (end_line LowBits flags % 2 ^ 7 ≡ end_field flags)
  low_only = end_only (start_line flags) (end_field flags) (omega arith) (field_small flags)

  -- it is the crate's where the field is the start line's own low bits
  pub low_agrees : end_field flags ≡ start_line flags % 2 ^ 7 → end_line LowBits flags ≡ end_line Crate flags
  low_agrees e = ap (end_from (start_line flags)) (e ∙ sym (low_own flags))

-- ---- the delta

module _ (flags : ℕ) where
  -- it is the line that the field says, counted from the start line on
  pub delta_only : (start_line flags ≤ end_line Delta flags) × (end_line Delta flags < start_line flags + 2 ^ 7)
      × (end_line Delta flags - start_line flags ≡ end_field flags)
  delta_only = (omega arith, omega (arith, field_small flags), omega arith)

  -- it is the crate's where the field is 0
  pub delta_agrees : end_field flags ≡ 0 → end_line Delta flags ≡ end_line Crate flags
  delta_agrees e = omega (arith, end_is_start flags)

-- ---- every reading

pub end_not_before : (how : EndLines) (flags : ℕ) → start_line flags ≤ end_line how flags
end_not_before Crate flags = omega (arith, end_is_start flags)
end_not_before LowBits flags = (low_only flags).0
end_not_before Delta flags = (delta_only flags).0
