use Rattle.std.proofs.Common.{rules}
use Rattle.reports.proofs.poller.Poller.made_bitmap.Goals as goal

pub returns : goal.returns
returns c = search rules
