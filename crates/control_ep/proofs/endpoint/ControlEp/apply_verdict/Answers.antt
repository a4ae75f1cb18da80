use Rattle.std.proofs.Common.{rules}
use Rattle.control_ep.proofs.endpoint.ControlEp.apply_verdict.Goals as goal

pub returns-in-Stalled-clause-answer : goal.returns-in-Stalled-clause-answer
returns-in-Stalled-clause-answer c = search rules

pub returns-in-Stalled-clause-left : goal.returns-in-Stalled-clause-left
returns-in-Stalled-clause-left c = search rules
