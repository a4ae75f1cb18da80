use Rattle.layers.specs.Usages.{has_consumer}
use Rattle.reports.proofs.Following.{Words}
use Rattle.reports.proofs.bytes.consumer.Given as goal

abbrev pub invariant-loop-place : goal.invariant-loop-place
invariant-loop-place l = Words (has_consumer l.usages) l.from l.place l.bytes
