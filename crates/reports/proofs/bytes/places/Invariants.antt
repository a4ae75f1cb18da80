use Rattle.layers.specs.Usages.{has_key}
use Rattle.reports.proofs.Following.{Listed}
use Rattle.reports.proofs.bytes.places.Given as goal

abbrev pub invariant-loop-place : goal.invariant-loop-place
invariant-loop-place l = Listed (has_key l.usages) l.from l.place l.places
