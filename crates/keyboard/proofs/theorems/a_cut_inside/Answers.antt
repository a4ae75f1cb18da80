use Rattle.keyboard.proofs.Cutting.{restarts_inside}
use Rattle.keyboard.proofs.theorems.a_cut_inside.Goals as goal

pub returns : goal.returns
returns c defaults start past keyboard operation image s n i m = restarts_inside defaults start past keyboard operation image s n i m
