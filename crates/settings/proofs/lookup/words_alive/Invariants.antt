use Rattle.std.proofs.Common.{◌≡◌, ◌≤◌, ◌-◌, ◌^◌, length}
use Rattle.settings.specs.Settings.{changed}
use Rattle.settings.specs.Copies.{copies_below}
use Rattle.settings.proofs.lookup.words_alive.Given as goal

abbrev pub invariant-loop-from : goal.invariant-loop-from
invariant-loop-from g l = (l.from ≤ 2 ^ 16) × (l.sum ≡ length (copies_below (changed (g.F.NorFlash.image l.flash) l.changes) l.from))

abbrev pub decreases-loop-from : goal.decreases-loop-from
decreases-loop-from g l = 2 ^ 16 - l.from
