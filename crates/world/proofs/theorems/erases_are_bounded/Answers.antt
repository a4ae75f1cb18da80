use Rattle.world.proofs.Erasing.{erases_seldom}
use Rattle.world.proofs.theorems.erases_are_bounded.Goals as goal

pub returns : goal.returns
returns c defaults start history h = erases_seldom defaults start history h
