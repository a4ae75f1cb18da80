use Rattle.layers.proofs.HeldKeys.{any_has-some, any_has-from, resolved-highest, resolved-transparent}
use Rattle.layers.proofs.theorems.held_keys.Goals as goal

pub returns-clause-some_has : goal.returns-clause-some_has
returns-clause-some_has c codes test = (any_has-some codes test, any_has-from codes test)

pub returns-clause-highest : goal.returns-clause-highest
returns-clause-highest c entries codes key layer h = resolved-highest entries codes key layer h

pub returns-clause-transparent : goal.returns-clause-transparent
returns-clause-transparent c entries codes key t = resolved-transparent entries codes key t
