use Rattle.layers.specs.Usages.{has_key}
use Rattle.layers.proofs.BitSets.{has_bit-low_byte}
use Rattle.layers.proofs.usages.Usages.modifiers.Goals as goal

pub returns : goal.returns
unfolding has_key
returns c i l = rw (← c.self.view_is) (has_bit-low_byte c.self.inside.keys 7 i l)
