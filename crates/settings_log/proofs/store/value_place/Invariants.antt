use Rattle.std.proofs.Common.{◌≡◌, None}
use Rattle.settings_log.specs.Values.{history, last_of}
use Rattle.settings_log.proofs.store.value_place.Given as goal

abbrev pub invariant-loop-back : goal.invariant-loop-back
invariant-loop-back g l = last_of l.id (history (g.F.NorFlash.image l.flash) l.newest l.back) ≡ None
