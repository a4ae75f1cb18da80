use Rattle.std.proofs.Common.{rules}
use Rattle.page_turnover.proofs.log.Log.usable.Goals as goal

pub returns-in-Some-clause-sound : goal.returns-in-Some-clause-sound
returns-in-Some-clause-sound c = search rules

pub returns-in-Some-clause-held : goal.returns-in-Some-clause-held
returns-in-Some-clause-held c = search rules
