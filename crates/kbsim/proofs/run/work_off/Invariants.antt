use Rattle.kbsim.proofs.OutputLemmas.{WorkedSoFar}
use Rattle.kbsim.proofs.run.work_off.Given as goal

abbrev pub invariant-loop-step : goal.invariant-loop-step
invariant-loop-step g l = WorkedSoFar l._step l.fn.world l.world
