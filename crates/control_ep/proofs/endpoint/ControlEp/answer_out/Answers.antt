use Rattle.std.proofs.Common.{rules}
use Rattle.control_ep.proofs.endpoint.ControlEp.answer_out.Goals as goal

pub returns-in-Ok : goal.returns-in-Ok
returns-in-Ok c = search rules
