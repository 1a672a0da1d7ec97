-- The end line of a line entry, by each reading that a caller can choose. Source: the crate's text, `LineNumberHeader::parse` in src/modi/c13.rs, step by
-- step behind the start line, which is that of Flags.antt, and document 01, "Line subsections"; for the low bits document 02, [1], and the comment in the
-- crate's text that the field contains the lower 7 bits of the end line number; for the delta cvinfo.h, `CV_Line_t`, whose seven bits are
-- `deltaLineEnd`, and document 02, [3].
-- Definitions only; a reader must believe them.
use Rattle.std.specs.Prelude.{ℕ, ◌+◌, ◌-◌, ◌/◌, ◌^◌, Bool, cond, ltb}
use Rattle.std.specs.Int.Bits.{bit_and, bit_or}
use Rattle.line_record.specs.declared.EndLines.{EndLines}
use Rattle.line_record.specs.declared.EndLines.TheVariants.{Crate, LowBits, Delta}
use Rattle.line_record.specs.Flags.{start_line}

-- `flags & 0x7f00_0000 >> 24`: the mask is shifted, and not what it masks
abbrev pub crate_low : ℕ → ℕ
crate_low flags = bit_and flags (0x7f00_0000 / 2 ^ 24)

-- the field: bits 24 to 30, `deltaLineEnd`
abbrev pub end_field : ℕ → ℕ
end_field flags = bit_and flags 0x7f00_0000 / 2 ^ 24

-- `start_line & !0x7f | low`: the high bits of the start line above the low bits
abbrev pub joined_line : ℕ → ℕ → ℕ
joined_line start low = bit_or (bit_and start (0xffff_ffff - 0x7f)) low

-- whether that lies below the start line, so that 128 is added
abbrev pub falls_below : ℕ → ℕ → Bool
falls_below start low = ltb (joined_line start low) start

-- the end line of a start line and the low seven bits of an end line
unfoldable pub end_from : ℕ → ℕ → ℕ
end_from start low = cond (falls_below start low) (joined_line start low + 2 ^ 7) (joined_line start low)

-- THE READINGS: as the crate does; with the field as the low bits; and with the field as what is added to the start line
abbrev pub end_line : EndLines → ℕ → ℕ
end_line Crate flags = end_from (start_line flags) (crate_low flags)
end_line LowBits flags = end_from (start_line flags) (end_field flags)
end_line Delta flags = start_line flags + end_field flags
