use Rattle.std.proofs.Common.{rules}
use Rattle.page_turnover.proofs.log.Log.seal.Goals as goal

pub returns-in-Wait-clause-pending : goal.returns-in-Wait-clause-pending
returns-in-Wait-clause-pending c = search rules
