use Rattle.debounce.proofs.Fed.{FedSoFar}
use Rattle.debounce.proofs.matrix.Matrix.feed.Given as goal

abbrev pub invariant-loop-pair : goal.invariant-loop-pair
invariant-loop-pair l = FedSoFar l.scan l.fn.self l.self l.flips l.pair
