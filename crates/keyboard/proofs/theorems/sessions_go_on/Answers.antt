use Rattle.keyboard.proofs.Following.{restarts_after, acknowledged_over}
use Rattle.keyboard.proofs.theorems.sessions_go_on.Goals as goal

pub returns-clause-restarts : goal.returns-clause-restarts
returns-clause-restarts g defaults now earlier image h m = restarts_after defaults now.first now.past image h.0 m

pub returns-clause-acknowledged : goal.returns-clause-acknowledged
returns-clause-acknowledged g defaults now earlier layer key code l k h a = acknowledged_over defaults now earlier layer key code l k h a
