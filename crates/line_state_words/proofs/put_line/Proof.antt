-- `line_state_words::put_line` meets its contract: the state, and the words of the record behind it.
-- Assumes nothing.
use borrow.Author.Rules.{rules}
use native.Mathlib.Omega.{arith}
use lib.ListN.{length-append}
use Rattle.answer_words.specs.GivenLaws.{gives_short}
use Rattle.line_state_words.specs.LineWords.{line_walk_words}
use Rattle.line_state_words.specs.LineWordsLaws.{walk_length, behind_walk}
use Rattle.line_state_words.proofs.put_line.Statement.{statement}
use Rattle.line_state_words.proofs.put_line.Tie as tie

returns : tie.Need-returns-then-out-lt-STATE_WORDS
returns c =
    let a = c.args in
    gives_short _ _ (omega (arith, length-append (line_walk_words a.w) a.row.now, walk_length a.w))

returns-2 : tie.Need-returns-then-out-row
returns-2 c =
    let a = c.args in
    gives_short _ _ (omega (arith, length-append (line_walk_words a.w) a.row.now, walk_length a.w))

returns-3 : tie.Need-returns
returns-3 c =
    let a = c.args in
    behind_walk a.out.now _ _ a.w a.row.now (omega arith) c.put_walk.ensures c.put_wide.ensures

pub put_line_spec : {M : Type 1} → statement M
put_line_spec =
    tie.close
    (tie.spec
    returns
    (λ c. search rules)
    returns-2
    (λ c κs. search rules)
    (λ c κs. search rules)
    (λ c. search rules)
    returns-3)
