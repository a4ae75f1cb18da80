use Rattle.std.proofs.Common.{rules}
use Rattle.control_ep.proofs.endpoint.ControlEp.fail.Goals as goal

pub returns-in-Waiting-clause-left : goal.returns-in-Waiting-clause-left
returns-in-Waiting-clause-left c = search rules
