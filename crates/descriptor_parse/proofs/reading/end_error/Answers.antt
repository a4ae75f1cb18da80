use Rattle.descriptor_parse.proofs.ReadingLemmas.{ends_short, ends_open}
use Rattle.descriptor_parse.proofs.reading.end_error.Goals as goal

pub returns-then-has_bytes-clause-refused : goal.returns-then-has_bytes-clause-refused
returns-then-has_bytes-clause-refused c = λ text a. ends_short text _ _ _ a c.requires.short c.if-has_bytes.ensures

pub returns-then-state-gt0-clause-refused : goal.returns-then-state-gt0-clause-refused
returns-then-state-gt0-clause-refused c = λ text a. ends_open text _ _ _ a c.if-has_bytes.ensures c.if-state-gt0.true
