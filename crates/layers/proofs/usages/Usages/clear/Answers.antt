use Rattle.std.proofs.Common.{refl}
use Rattle.layers.specs.Usages.{has_key, has_consumer}
use Rattle.layers.proofs.BitSets.{has_bit-zeros}
use Rattle.layers.proofs.usages.Usages.clear.Goals as goal

pub returns-clause-no_keys : goal.returns-clause-no_keys
unfolding has_key
returns-clause-no_keys c usage = has_bit-zeros 32 8 usage

pub returns-clause-no_consumer : goal.returns-clause-no_consumer
unfolding has_consumer
returns-clause-no_consumer c usage = c.clear_consumer.ensures.none usage

pub invariant_of-self : goal.invariant_of-self
invariant_of-self c = (refl, c.clear_consumer.ensures.words, c.clear_consumer.ensures.marks, c.clear_consumer.ensures.marked)
