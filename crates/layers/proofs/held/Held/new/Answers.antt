use Rattle.std.proofs.Common.{refl}
use Rattle.layers.proofs.BitSets.{has_bit-zeros}
use Rattle.layers.proofs.HeldKeys.{kept-clear, refines_new}
use Rattle.layers.proofs.NamedUsages.{named_none, no_layer}
use Rattle.layers.proofs.held.Held.new.Goals as goal

pub invariant_of-result-2 : goal.invariant_of-result-2
invariant_of-result-2 c = (refl, refl, refl, λ e. named_none _ _ _ (λ key. kept-clear _ _ key (has_bit-zeros 32 3 key)) c.none.ensures.no_keys c.none.ensures.no_consumer no_layer)

pub returns-clause-refines : goal.returns-clause-refines
returns-clause-refines c = refines_new _ (λ key. has_bit-zeros 32 3 key)
