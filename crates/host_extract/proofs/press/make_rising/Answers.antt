use Rattle.std.proofs.Common.{rules}
use Rattle.host_extract.proofs.Pressing.{once_rising, once_members}
use Rattle.host_extract.proofs.press.make_rising.Goals as goal

pub returns-clause-rising : goal.returns-clause-rising
returns-clause-rising c = search (rules, once_rising)

pub returns-clause-members : goal.returns-clause-members
returns-clause-members c = search (rules, once_members)
