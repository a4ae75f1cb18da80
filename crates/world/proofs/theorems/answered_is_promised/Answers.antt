use Rattle.world.proofs.Promising.{promise}
use Rattle.world.proofs.theorems.answered_is_promised.Goals as goal

pub returns : goal.returns
returns c defaults start history h = promise defaults start history h
