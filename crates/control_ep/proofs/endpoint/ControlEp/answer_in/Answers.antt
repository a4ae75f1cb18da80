use Rattle.std.proofs.Common.{rules}
use Rattle.control_ep.proofs.endpoint.ControlEp.answer_in.Goals as goal

pub returns-in-Waiting-clause-answer : goal.returns-in-Waiting-clause-answer
returns-in-Waiting-clause-answer c = search rules
