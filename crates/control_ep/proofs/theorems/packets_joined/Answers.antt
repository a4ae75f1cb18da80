use Rattle.control_ep.proofs.Joined.{joined-is}
use Rattle.control_ep.proofs.theorems.packets_joined.Goals as goal

pub returns : goal.returns
returns c = joined-is
