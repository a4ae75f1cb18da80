use Rattle.keyboard.proofs.Timing.{in_time}
use Rattle.keyboard.proofs.theorems.in_time.Goals as goal

pub returns : goal.returns
returns c defaults start past h s = in_time defaults start past h s
