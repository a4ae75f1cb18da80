use Rattle.std.proofs.Common.{refl}
use Rattle.layers.specs.Usages.{has_key}
use Rattle.layers.proofs.usages.Usages.key_words.Goals as goal

pub returns-clause-bits : goal.returns-clause-bits
unfolding has_key
returns-clause-bits c usage = rw (← c.self.view_is) refl
