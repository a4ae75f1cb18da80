use Rattle.world.proofs.Tearing.{leaves_torn}
use Rattle.world.proofs.theorems.torn_leaves_next.Goals as goal

pub returns : goal.returns
returns c defaults start history h = leaves_torn defaults start history h
