use Rattle.std.proofs.Common.{◌≡◌}
use Rattle.std.specs.Prelude.{find}
use Rattle.field_details.specs.Around.{is_application}
use Rattle.field_details.specs.representation.Around.{height}
use Rattle.field_details.specs.representation.Asked.{all_outwards, application_in}
use Rattle.field_details.proofs.around.application_of.Given as goal

-- no Application collection is passed
abbrev pub invariant-loop-next : goal.invariant-loop-next
invariant-loop-next l = find (is_application l.fn.groups) (all_outwards l.fn.groups l.next) ≡ application_in l.fn.reported l.fn.groups l.fn.place

abbrev pub decreases-loop-next : goal.decreases-loop-next
decreases-loop-next l = height l.next
