use Rattle.std.proofs.Common.{rules}
use Rattle.kbsim.proofs.OutputLemmas.{worked_more, worked_off, worked_all}
use Rattle.kbsim.proofs.run.work_off.Goals as goal

pub returns-then-not-needs_more : goal.returns-then-not-needs_more
returns-then-not-needs_more g c = worked_off _ _ _ _ _ c.loop-step.invariant c.in_ok-answer.ensures (search rules)

pub loop-step-preserved : goal.loop-step-preserved
loop-step-preserved g c = worked_more _ _ _ _ _ c.loop-step.invariant c.in_ok-answer.ensures (search rules)

pub returns : goal.returns
returns g c = worked_all _ _ _ (search rules) c.loop-step.invariant
