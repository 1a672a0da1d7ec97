-- `many_files::next_files` meets its contract: without room for a file what `no_room` makes of one step, else what `fill` gives.
-- Assumes nothing.
use borrow.Author.Rules.{rules}
use native.Mathlib.Omega.{arith}
use mathlib.Core.Path.{◌∙◌}
use Rattle.kinds.specs.Kind.{crate_rule}
use Rattle.files.specs.Files.{file_step}
use Rattle.answer_words.specs.FillLaws.{fill_no_room}
use Rattle.many_files.specs.Files.{file_size, file_words}
use Rattle.many_files.specs.FileWordsLaws.{file_length}
use Rattle.many_files.proofs.next_files.Statement.{statement}
use Rattle.many_files.proofs.next_files.Tie as tie

returns : tie.Need-returns-then-out-lt-FILE_WORDS
returns c =
    let a = c.args in
    let q = fill_no_room file_size file_words file_length (file_step crate_rule _) _ a.out.now (omega arith) _ c.next_file.ensures in
    (c.no_room.ensures ∙ q.0, q.1)

pub next_files_spec : {M : Type 1} → statement M
next_files_spec =
    tie.close
    (tie.spec
    (λ c κs. search rules)
    (λ c κs. search rules)
    returns
    (λ c κs. search rules)
    (λ c. search rules)
    (λ c. search rules))
