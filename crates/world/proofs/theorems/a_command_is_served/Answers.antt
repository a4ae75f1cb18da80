use Rattle.world.proofs.Progressing as progress
use Rattle.world.proofs.Serving as serving
use Rattle.world.proofs.theorems.a_command_is_served.Goals as goal

pub returns-clause-acknowledged : goal.returns-clause-acknowledged
returns-clause-acknowledged g defaults start before between setup packet a b c d e command s n due ready r p h = serving.acknowledged defaults start before between setup packet a b c d e command s n due ready r p h

pub returns-clause-settled : goal.returns-clause-settled
returns-clause-settled g defaults start before since packet command h e n f = serving.settles defaults start before since packet command h e n f

pub returns-clause-status : goal.returns-clause-status
returns-clause-status g defaults start before since packet asks command h e n f o is = serving.status defaults start before since packet asks command h e n f o is

pub returns-clause-served : goal.returns-clause-served
returns-clause-served g defaults start before works setup packet status a b c d e command ready r t h = progress.served defaults start before works setup packet status a b c d e command ready r t h

pub returns-clause-shown : goal.returns-clause-shown
returns-clause-shown g defaults start before works after setup packet status look a b c d e layer key code command ready r t l k w none looks h =
    progress.shown defaults start before works after setup packet status look a b c d e layer key code command ready r t l k w none looks h
