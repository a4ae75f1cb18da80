use Rattle.keyboard.proofs.Single as single
use Rattle.keyboard.proofs.theorems.one_image.Goals as goal

pub returns-clause-whole : goal.returns-clause-whole
returns-clause-whole c defaults start past work a b x y n = single.one_image defaults start past work a b x y n

pub returns-clause-failed : goal.returns-clause-failed
returns-clause-failed c defaults start past new x = single.torn_image defaults start past new x

pub returns-clause-session : goal.returns-clause-session
returns-clause-session c defaults start a b x y n e = single.same_images_left defaults start a b x y n e
