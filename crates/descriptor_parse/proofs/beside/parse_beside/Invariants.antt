use Rattle.std.proofs.Common.{length}
use Rattle.descriptor_parse.proofs.BesideLemmas.{AreTaken}
use Rattle.descriptor_parse.proofs.beside.parse_beside.Given as goal

-- the items so far are taken
abbrev pub invariant-loop-item : goal.invariant-loop-item
invariant-loop-item g l = AreTaken g.B.Beside.refines l.fn.beside l.beside l.fn.text l.rest l.at l.state

abbrev pub decreases-loop-item : goal.decreases-loop-item
decreases-loop-item g l = length l.rest
