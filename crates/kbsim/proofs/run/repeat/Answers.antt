use Rattle.std.proofs.Common.{rules}
use Rattle.kbsim.proofs.OutputLemmas.{repeated_none, repeated_more, repeated}
use Rattle.kbsim.proofs.run.repeat.Goals as goal

pub loop-again-init : goal.loop-again-init
loop-again-init g c = repeated_none _ _

pub loop-again-preserved : goal.loop-again-preserved
loop-again-preserved g c =
    let (answer, is, takes) = c.in_ok-pass.ensures in
    repeated_more _ _ _ _ _ _ _ c.scan-event.ensures c.loop-again.invariant takes

pub returns : goal.returns
returns g c = repeated _ _ _ _ _ _ _ _ c.scan-event.ensures c.loop-again.invariant (search rules) c.take.ensures
