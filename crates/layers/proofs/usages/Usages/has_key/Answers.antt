use Rattle.layers.specs.Usages.{has_key}
use Rattle.layers.proofs.usages.Usages.has_key.Goals as goal

pub returns : goal.returns
unfolding has_key
returns c = rw (← c.self.view_is) c.contains.ensures
