use Rattle.std.proofs.Common.{rules}
use Rattle.page_turnover.proofs.log.Log.may_turn.Goals as goal

pub returns-in-Some-2 : goal.returns-in-Some-2
returns-in-Some-2 c = search rules
