use Rattle.std.proofs.Common.{◌≡◌, ◌-◌, length}
use Rattle.field_details.specs.representation.Asked.{left, passes}
use Rattle.field_details.proofs.placed.first_from.Given as goal

-- none that is asked for is passed
abbrev pub invariant-loop-detail : goal.invariant-loop-detail
invariant-loop-detail l = left (passes l.fn.question l.fn.reported l.fn.groups) l.fn.reported l.place ≡ left (passes l.fn.question l.fn.reported l.fn.groups) l.fn.reported l.fn.from

abbrev pub decreases-loop-detail : goal.decreases-loop-detail
decreases-loop-detail l = length l.fn.reported - l.place
