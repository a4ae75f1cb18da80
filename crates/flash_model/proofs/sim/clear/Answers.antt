use Rattle.std.proofs.Common.{rules}
use Rattle.flash_model.proofs.sim.clear.Goals as goal

pub loop-k-preserved : goal.loop-k-preserved
loop-k-preserved c = search rules
