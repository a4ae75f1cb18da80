use Rattle.keyboard.proofs.Telling.{acknowledged}
use Rattle.keyboard.proofs.theorems.acknowledged_is_stored.Goals as goal

pub returns : goal.returns
returns c defaults start past h = acknowledged defaults start past h
