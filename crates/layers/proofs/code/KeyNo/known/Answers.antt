use Rattle.std.proofs.Common.{rules}
use Rattle.layers.proofs.code.KeyNo.known.Goals as goal

pub returns : goal.returns
returns c = search rules
