use Rattle.std.proofs.Common.{refl}
use Rattle.kbsim.proofs.OutputLemmas.{line_one}
use Rattle.kbsim.proofs.run.act.Goals as goal

pub returns : goal.returns
returns g c = line_one _ c.args.action.now _ _ _ _ refl c.event_of.ensures c.in_ok-answer.ensures
