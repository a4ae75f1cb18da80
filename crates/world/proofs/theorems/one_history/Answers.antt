use Rattle.world.proofs.Single as single
use Rattle.world.proofs.theorems.one_history.Goals as goal

pub returns : goal.returns
returns c defaults start a b x y e r = single.one_history defaults start a b x y e r
