use Rattle.std.proofs.Common.{rules}
use Rattle.page_turnover.proofs.log.Log.begin_append.Goals as goal

pub returns-clause-pending : goal.returns-clause-pending
returns-clause-pending c = search rules
