-- Without room for a refusal there is none for a file.
use Rattle.export_files.specs.CallsLaws.{in_short}
use Rattle.export_files.proofs.file_in.Goals as goal

pub returns-then-out-lt-REFUSAL_WORDS : goal.returns-then-out-lt-REFUSAL_WORDS
returns-then-out-lt-REFUSAL_WORDS c = in_short c.args.out.now c.if-out-lt-REFUSAL_WORDS.true c.args.body.now c.args.index
