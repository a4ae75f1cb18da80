use Rattle.std.proofs.Common.{rules}
use Rattle.control_ep.proofs.request.get_idle.Goals as goal

pub returns-in-2 : goal.returns-in-2
returns-in-2 g c = search rules
