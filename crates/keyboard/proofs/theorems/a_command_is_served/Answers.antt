use Rattle.keyboard.proofs.Progressing.{acknowledged, served}
use Rattle.keyboard.proofs.Serving.{settled_by, answered_by, status_by}
use Rattle.keyboard.proofs.theorems.a_command_is_served.Goals as goal

pub returns-clause-acknowledged : goal.returns-clause-acknowledged
returns-clause-acknowledged g defaults start past between a b c d e given command due ready r h = acknowledged defaults start past between a b c d e given command due ready r h

pub returns-clause-settled : goal.returns-clause-settled
returns-clause-settled g defaults start past since packet command h e n = settled_by defaults start past since packet command h e n

pub returns-clause-answered : goal.returns-clause-answered
returns-clause-answered g defaults start past since packet command work new h e n l = answered_by defaults start past since packet command work new h e n l

pub returns-clause-status : goal.returns-clause-status
returns-clause-status g defaults start past since packet command answer h e n o = status_by defaults start past since packet answer command h e n o

pub returns-clause-served : goal.returns-clause-served
returns-clause-served g defaults start past steps a b d e f given status command ready r whole all h = served defaults start past steps a b d e f given status command ready r whole all h
