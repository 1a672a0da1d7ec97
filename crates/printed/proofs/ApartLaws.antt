-- A record's line has the position of its body: it is read back off the line. So two records that differ in it print differently.
use Rattle.std.specs.Prelude.{ℕ, ◌+◌, ◌*◌, ◌-◌, ◌<◌, ◌≡◌, cond, eqb}
use Rattle.std.proofs.Common.{sym, ap, ◌∙◌, arith, ne_eqb}
use Rattle.text.specs.Text.{ascii, glyph, joined}
use Rattle.text.specs.TextLaws.{glyph_low, read_left, read_append, numeral_read}
use Rattle.line_record.specs.declared.LineRecord.{LineRecord}
use Rattle.printed.specs.LineText.{record_line}

-- a line's code, read: an @ begins a number, the newline says nothing, any other is taken for a digit more
abbrev pub code_read : ℕ → ℕ → ℕ
code_read n x = cond (eqb x 64) 0 (cond (eqb x 10) n (n * 10 + (x - 48)))

digit_read : (n d : ℕ) → d < 10 → code_read n (glyph d) ≡ n * 10 + d
digit_read n d h =
    ap (code_read n) (sym (glyph_low d h))
    ∙ rw (ne_eqb (48 + d) 64 (omega arith), ne_eqb (48 + d) 10 (omega arith)) (omega arith)

pub position_read : (r : LineRecord) → read_left code_read 0 (joined (record_line r)) ≡ r.body
unfolding ascii
position_read r = simp read_append (numeral_read 10 (omega arith) code_read digit_read r.body)

pub printed_apart : (r q : LineRecord) → joined (record_line r) ≡ joined (record_line q) → r.body ≡ q.body
printed_apart r q e = sym (position_read r) ∙ ap (read_left code_read 0) e ∙ position_read q
