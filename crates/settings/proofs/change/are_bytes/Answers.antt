use Rattle.std.proofs.Common.{arith}
use Rattle.settings.proofs.change.are_bytes.Goals as goal

pub returns : goal.returns
returns c k = omega (arith, c.type_inv.bytes k)
