-- Without room nothing is put, and where the walk is over no words are.
use Rattle.std.proofs.Math.ListN.{length}
use Rattle.kinds.specs.Kind.{crate_rule}
use Rattle.answer_words.specs.GivenLaws.{gives_none}
use Rattle.answer_words.specs.TableWords.{table_state_size, walk_in, walk_words, over_table}
use Rattle.answer_words.specs.FillGivenLaws.{fill_short, fill_given_lem}
use Rattle.many_files.specs.Files.{file_words, files_of}
use Rattle.export_files.proofs.files.Goals as goal

pub returns-then-out-lt-ASKED-clause-gives : goal.returns-then-out-lt-ASKED-clause-gives
returns-then-out-lt-ASKED-clause-gives c =
    let a = c.args in
    (fill_short table_state_size over_table walk_words file_words a.out.now a.records.now (files_of crate_rule a.area.now (length a.records.now) (walk_in a.out.now)) c.if-out-lt-ASKED.true).0

pub returns-in-Ok-None-clause-gives : goal.returns-in-Ok-None-clause-gives
returns-in-Ok-None-clause-gives c =
    let a = c.args in
    let e = rw c.in-Ok-None.field-0-is at c.in-Ok-None.ensures.result_value in
    (fill_given_lem table_state_size over_table walk_words file_words a.out.now a.records.now (files_of crate_rule a.area.now (length a.records.now)) c.if-out-lt-ASKED.false c.walk_in.ensures e c.next_files.ensures.out_after
    (gives_none _)).0
