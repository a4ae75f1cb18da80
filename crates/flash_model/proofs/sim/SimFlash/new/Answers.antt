use Rattle.std.proofs.Common.{rules}
use Rattle.flash_model.proofs.sim.SimFlash.new.Goals as goal

pub returns-in-Ok-clause-blank : goal.returns-in-Ok-clause-blank
returns-in-Ok-clause-blank c = search rules
