use Rattle.world.specs.Erases.{ErasesSeldom}
use Rattle.world.specs.Promise.{Promise}
use Rattle.world.proofs.Erasing.{erases_seldom}
use Rattle.world.proofs.Promising.{promise}
use Rattle.world.proofs.Running.{runs_longer}
use Rattle.world.proofs.world.WorldOf.run.Goals as goal

pub returns-clause-promise : goal.returns-clause-promise
returns-clause-promise g c start past s = runs_longer g.D.Defaults.defaults (Promise g.D.Defaults.defaults) (promise g.D.Defaults.defaults) start past _ _ _ _ _ _ (c.take_all.ensures.went start past s)

pub returns-clause-erases : goal.returns-clause-erases
returns-clause-erases g c start past s = runs_longer g.D.Defaults.defaults (ErasesSeldom g.D.Defaults.defaults) (erases_seldom g.D.Defaults.defaults) start past _ _ _ _ _ _ (c.take_all.ensures.went start past s)
