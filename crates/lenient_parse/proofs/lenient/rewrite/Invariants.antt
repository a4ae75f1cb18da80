use Rattle.std.proofs.Common.{◌-◌, length}
use Rattle.std.specs.Prelude.{map, drop}
use Rattle.descriptor_parse.specs.ItemViews.{item_view}
use Rattle.lenient_parse.specs.representation.Goes.{Goes}
use Rattle.lenient_parse.proofs.lenient.rewrite.Given as goal

-- the output so far, and what is to come
abbrev pub invariant-loop-at : goal.invariant-loop-at
invariant-loop-at l = Goes (map item_view l.fn.items) (map item_view (drop l.at l.fn.items)) l.output l.state

abbrev pub decreases-loop-at : goal.decreases-loop-at
decreases-loop-at l = length l.fn.items - l.at
