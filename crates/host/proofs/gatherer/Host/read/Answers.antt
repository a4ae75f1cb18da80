use Rattle.std.proofs.Common.{rules}
use Rattle.host.proofs.gatherer.Host.read.Goals as goal

pub returns-in-Some : goal.returns-in-Some
returns-in-Some c = search rules
