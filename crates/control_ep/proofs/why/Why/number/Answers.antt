use Rattle.std.proofs.Common.{rules}
use Rattle.control_ep.proofs.why.Why.number.Goals as goal

pub returns : goal.returns
returns c = search rules
