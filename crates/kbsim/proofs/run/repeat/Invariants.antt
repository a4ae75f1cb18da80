use Rattle.kbsim.proofs.OutputLemmas.{RepeatedSoFar}
use Rattle.world.specs.declared.event.Event.TheVariants.{Scan}
use Rattle.kbsim.proofs.run.repeat.Given as goal

abbrev pub invariant-loop-again : goal.invariant-loop-again
invariant-loop-again g l = RepeatedSoFar (Scan l.fn.scan) l._again l.fn.world l.world
