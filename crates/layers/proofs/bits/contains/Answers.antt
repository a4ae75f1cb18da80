use Rattle.std.proofs.Common.{rules}
use Rattle.std.proofs.lemmas.Nat.Bits.{shr_and_one}
use Rattle.layers.proofs.bits.contains.Goals as goal

pub returns : goal.returns
returns c = rw shr_and_one (search rules)
