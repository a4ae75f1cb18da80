use Rattle.std.proofs.Common.{◌≤◌, ◌-◌, ◌^◌}
use Rattle.settings.specs.Settings.{changed}
use Rattle.settings.specs.Copies.{NoneBetween}
use Rattle.settings.proofs.lookup.next_value.Given as goal

abbrev pub invariant-loop-id : goal.invariant-loop-id
invariant-loop-id g l = (l.from ≤ l.id) × (l.id ≤ 2 ^ 16) × NoneBetween (changed (g.F.NorFlash.image l.flash) l.changes) l.from l.id

abbrev pub decreases-loop-id : goal.decreases-loop-id
decreases-loop-id g l = 2 ^ 16 - l.id
