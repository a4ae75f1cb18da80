use Rattle.std.proofs.Common.{rules}
use Rattle.layers.proofs.code.Code.read.Goals as goal

pub invariant_of-result : goal.invariant_of-result
invariant_of-result c = search rules

pub returns-in-0 : goal.returns-in-0
returns-in-0 c = search rules
