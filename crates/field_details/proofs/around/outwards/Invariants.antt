use Rattle.std.proofs.Common.{◌≡◌}
use Rattle.std.specs.Prelude.{slice_get}
use Rattle.field_details.specs.representation.Around.{height}
use Rattle.field_details.specs.representation.Asked.{all_outwards}
use Rattle.field_details.proofs.around.outwards.Given as goal

-- the one that is looked for is as many steps away as are left
abbrev pub invariant-loop-next : goal.invariant-loop-next
invariant-loop-next l = slice_get (all_outwards l.fn.groups l.next) l.left ≡ slice_get (all_outwards l.fn.groups l.fn.inner) l.fn.steps

abbrev pub decreases-loop-next : goal.decreases-loop-next
decreases-loop-next l = height l.next
