-- The field of an end line, as the code takes it. It stands apart from the laws that rest on it, so that an edit of it leaves their file as it is.
use Rattle.std.specs.Prelude.{ℕ, ◌/◌, ◌%◌, ◌^◌, ◌≡◌}
use Rattle.std.proofs.Math.Path.{sym, ap}
use Rattle.std.proofs.Common.{◌∙◌, arith}
use Rattle.std.proofs.lemmas.Nat.Bits.{and_high}
use Rattle.line_record.specs.EndLine.{end_field}

module _ (flags : ℕ) where
  pub field_is : flags / 0x100_0000 % 128 ≡ end_field flags
  field_is = sym (ap (λ (k : ℕ). k / 2 ^ 24) (and_high flags 7 24) ∙ omega arith)
