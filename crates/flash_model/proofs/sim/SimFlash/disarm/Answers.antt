use Rattle.std.proofs.Common.{rules}
use Rattle.flash_model.proofs.sim.SimFlash.disarm.Goals as goal

pub returns : goal.returns
returns c = search rules
