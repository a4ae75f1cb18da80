use Rattle.std.proofs.Common.{refl}
use Rattle.layers.proofs.BitSets.{has_bit-zeros}
use Rattle.layers.proofs.HeldKeys.{kept-clear, refines_new}
use Rattle.layers.proofs.NamedUsages.{named_none}
use Rattle.layers.proofs.held.Held.clear.Goals as goal

pub invariant_of-self : goal.invariant_of-self
invariant_of-self c = (
  c.self.invariant.0,
  refl,
  c.no_layers-self-inside.ensures.size,
  λ e. named_none _ _ _ (λ key. kept-clear _ _ key (has_bit-zeros 32 3 key)) c.clear.ensures.no_keys c.clear.ensures.no_consumer c.no_layers-self-inside.ensures.none,
)

pub returns-clause-refines : goal.returns-clause-refines
returns-clause-refines c = refines_new _ (λ key. has_bit-zeros 32 3 key)
