use Rattle.std.proofs.Common.{[]}
use Rattle.world.proofs.Promising.{promise}
use Rattle.world.proofs.world.WorldOf.new.Goals as goal

pub returns-clause-promise : goal.returns-clause-promise
returns-clause-promise g c = promise g.D.Defaults.defaults _ [] tt

pub returns-in_err-keyboard-clause-promise : goal.returns-in_err-keyboard-clause-promise
returns-in_err-keyboard-clause-promise g c = promise g.D.Defaults.defaults _ [] tt
