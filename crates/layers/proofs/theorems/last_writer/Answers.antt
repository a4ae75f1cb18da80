use Rattle.layers.proofs.LastWriter.{entry-last, entry-none}
use Rattle.layers.proofs.theorems.last_writer.Goals as goal

pub returns-clause-written : goal.returns-clause-written
returns-clause-written c defaults format before word after layer key code w n = entry-last defaults format before word after layer key code w n

pub returns-clause-default : goal.returns-clause-default
returns-clause-default c defaults format words layer key n = entry-none defaults format words layer key n
