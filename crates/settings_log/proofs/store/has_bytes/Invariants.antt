use Rattle.std.proofs.Common.{◌*◌}
use Rattle.settings_log.specs.Values.{bytes_behind}
use Rattle.settings_log.specs.representation.Here.{SameTo}
use Rattle.settings_log.proofs.store.has_bytes.Given as goal

abbrev pub invariant-loop-at : goal.invariant-loop-at
invariant-loop-at g l = SameTo (bytes_behind (g.F.NorFlash.image l.flash) l.place.page l.place.slot l.words) l.bytes (3 * l.at)
