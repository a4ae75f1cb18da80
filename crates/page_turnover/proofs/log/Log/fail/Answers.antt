use Rattle.std.proofs.Common.{rules}
use Rattle.page_turnover.proofs.log.Log.fail.Goals as goal

pub returns-clause-active : goal.returns-clause-active
returns-clause-active g c = search rules
