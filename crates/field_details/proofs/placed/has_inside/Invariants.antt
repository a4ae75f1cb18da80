use Rattle.std.proofs.Common.{◌≡◌, ◌-◌, length}
use Rattle.std.specs.Prelude.{◌&&◌, drop}
use Rattle.std.specs.List.{list_any}
use Rattle.field_details.specs.Reports.{numbered, is_of_report, is_inside, has_inside}
use Rattle.field_details.specs.representation.Asked.{application_in}
use Rattle.field_details.proofs.placed.has_inside.Given as goal

-- those that are passed are of other reports or applications
abbrev pub invariant-loop-detail : goal.invariant-loop-detail
invariant-loop-detail l =
    list_any (λ p. is_of_report l.fn.kind l.fn.id p.1 && is_inside (application_in l.fn.reported l.fn.groups) l.fn.number p.0) (numbered l.place (drop l.place l.fn.front))
    ≡ has_inside (application_in l.fn.reported l.fn.groups) l.fn.number l.fn.kind l.fn.id l.fn.front

abbrev pub decreases-loop-detail : goal.decreases-loop-detail
decreases-loop-detail l = length l.fn.front - l.place
