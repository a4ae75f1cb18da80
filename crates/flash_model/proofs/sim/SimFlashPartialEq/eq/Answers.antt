use Rattle.std.proofs.Common.{rules}
use Rattle.flash_model.proofs.sim.SimFlashPartialEq.eq.Goals as goal

pub returns-then-self-other : goal.returns-then-self-other
returns-then-self-other c = search rules
