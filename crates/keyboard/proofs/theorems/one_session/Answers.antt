use Rattle.keyboard.proofs.Single as single
use Rattle.keyboard.proofs.theorems.one_session.Goals as goal

pub returns : goal.returns
returns c defaults start a b x y e = single.one_session defaults start a b x y e
