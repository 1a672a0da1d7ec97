-- Without two words nothing is put.
use Rattle.export_tables.specs.CallsLaws.{listed_short}
use Rattle.export_tables.proofs.resolve_listed.Goals as goal

pub returns-then-out-lt-REF_WORDS : goal.returns-then-out-lt-REF_WORDS
returns-then-out-lt-REF_WORDS c = listed_short _ _ _ _ c.if-out-lt-REF_WORDS.true
