use Rattle.std.proofs.Common.{◌≡◌, length}
use Rattle.settings.specs.Settings.{after, changed}
use Rattle.settings.proofs.lookup.value_after.Given as goal

abbrev pub invariant-loop-rest : goal.invariant-loop-rest
invariant-loop-rest g l = after l.value l.rest l.id ≡ changed (g.F.NorFlash.image l.flash) l.changes l.id

abbrev pub decreases-loop-rest : goal.decreases-loop-rest
decreases-loop-rest g l = length l.rest
