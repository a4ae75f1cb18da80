use Rattle.std.proofs.Common.{rules}
use Rattle.report_write.proofs.writing.start.Goals as goal

pub returns-in_ok-copy_of-in-Some-clause-starts : goal.returns-in_ok-copy_of-in-Some-clause-starts
returns-in_ok-copy_of-in-Some-clause-starts c = search rules
