use Rattle.std.proofs.Common.{◌≡◌, ◌+◌, length}
use Rattle.field_details.specs.representation.Around.{height}
use Rattle.field_details.specs.representation.Asked.{all_outwards}
use Rattle.field_details.proofs.around.depth.Given as goal

-- as many are counted as are passed
abbrev pub invariant-loop-next : goal.invariant-loop-next
invariant-loop-next l = l.left + length (all_outwards l.fn.groups l.fn.inner) ≡ l.most + length (all_outwards l.fn.groups l.next)

abbrev pub decreases-loop-next : goal.decreases-loop-next
decreases-loop-next l = height l.next
