use Rattle.std.proofs.Common.{refl}
use Rattle.layers.specs.Usages.{has_key, has_consumer}
use Rattle.layers.proofs.BitSets.{has_bit-zeros, marked_none}
use Rattle.layers.proofs.usages.Usages.none.Goals as goal

pub returns-clause-no_keys : goal.returns-clause-no_keys
unfolding has_key
returns-clause-no_keys c usage = has_bit-zeros 32 8 usage

pub returns-clause-no_consumer : goal.returns-clause-no_consumer
unfolding has_consumer
returns-clause-no_consumer c usage = has_bit-zeros 32 32 usage

pub invariant_of-result : goal.invariant_of-result
invariant_of-result c = (refl, refl, refl, marked_none _ _ (λ number. has_bit-zeros 32 32 number))
