use Rattle.std.proofs.Common.{◌≡◌, ◌-◌, length}
use Rattle.field_details.specs.representation.Asked.{left, belongs}
use Rattle.field_details.proofs.applications.first_from.Given as goal

-- none that is asked for is passed
abbrev pub invariant-loop-group : goal.invariant-loop-group
invariant-loop-group l = left (belongs l.fn.of l.fn.reported l.fn.groups) l.fn.groups l.number ≡ left (belongs l.fn.of l.fn.reported l.fn.groups) l.fn.groups l.fn.from

abbrev pub decreases-loop-group : goal.decreases-loop-group
decreases-loop-group l = length l.fn.groups - l.number
