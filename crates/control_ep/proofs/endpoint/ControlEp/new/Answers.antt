use Rattle.std.proofs.Common.{rules}
use Rattle.control_ep.proofs.endpoint.ControlEp.new.Goals as goal

pub returns-clause-rests : goal.returns-clause-rests
returns-clause-rests c = search rules
