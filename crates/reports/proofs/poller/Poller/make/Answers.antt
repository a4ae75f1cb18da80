use Rattle.std.proofs.Common.{rules}
use Rattle.reports.proofs.poller.Poller.make.Goals as goal

pub returns-clause-made : goal.returns-clause-made
returns-clause-made c = search rules
