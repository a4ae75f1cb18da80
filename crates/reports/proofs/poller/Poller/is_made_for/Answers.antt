use Rattle.std.proofs.Common.{rules}
use Rattle.reports.proofs.poller.Poller.is_made_for.Goals as goal

pub returns : goal.returns
returns c = search rules
