use Rattle.kbsim.proofs.OutputLemmas.{popped_one}
use Rattle.kbsim.proofs.run.take.Goals as goal

pub returns : goal.returns
returns g c = popped_one _ _ _ _ _ c.pop.result c.ok_or.result c.in_ok-pass.ensures c.pop.ensures.items c.ok_or.ensures.value
