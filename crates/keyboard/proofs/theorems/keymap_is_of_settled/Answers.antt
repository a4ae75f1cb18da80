use Rattle.keyboard.proofs.Sessions.{orderly}
use Rattle.keyboard.proofs.theorems.keymap_is_of_settled.Goals as goal

pub returns : goal.returns
returns c defaults start past h layer key l k = (orderly defaults start past h).kept layer key l k
