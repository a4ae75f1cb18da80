use Rattle.std.proofs.Common.{ℕ, List, length}
use Rattle.descriptor_parse.specs.representation.Fed.{IsAt}
use Rattle.descriptor_parse.proofs.reading.read_items.Given as goal

-- whatever the text was, it was read on
abbrev pub invariant-loop-item : goal.invariant-loop-item
invariant-loop-item l = (text : List ℕ) → IsAt text l.fn.piece l.fn.offset l.fn.state → IsAt text l.rest l.at l.state

abbrev pub decreases-loop-item : goal.decreases-loop-item
decreases-loop-item l = length l.rest
