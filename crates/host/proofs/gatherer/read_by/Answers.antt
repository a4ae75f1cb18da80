use Rattle.std.proofs.Common.{rules}
use Rattle.host.proofs.gatherer.read_by.Goals as goal

pub returns-in-Err-Memory : goal.returns-in-Err-Memory
returns-in-Err-Memory c = search rules
