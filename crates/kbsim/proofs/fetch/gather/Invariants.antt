use Rattle.kbsim.proofs.FetchLemmas.{GatheredSoFar}
use Rattle.kbsim.proofs.fetch.gather.Given as goal

abbrev pub invariant-loop-full : goal.invariant-loop-full
invariant-loop-full g l = GatheredSoFar l.full l.fn.world l.world
