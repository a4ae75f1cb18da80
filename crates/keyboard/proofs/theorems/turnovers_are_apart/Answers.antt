use Rattle.keyboard.proofs.Apart.{apart}
use Rattle.keyboard.proofs.theorems.turnovers_are_apart.Goals as goal

pub returns : goal.returns
returns c defaults start before calls work first last h t n l = apart defaults start before calls work first last h t n l
