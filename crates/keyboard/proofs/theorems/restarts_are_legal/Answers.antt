use Rattle.keyboard.proofs.Restarting.{restarts_legally}
use Rattle.keyboard.proofs.theorems.restarts_are_legal.Goals as goal

pub returns : goal.returns
returns c defaults start past h = restarts_legally defaults start past h
