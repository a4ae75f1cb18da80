use Rattle.std.proofs.Common.{◌*◌, take}
use Rattle.settings_log.specs.Words.{data_words}
use Rattle.settings_log.specs.Values.{bytes_behind}
use Rattle.settings_log.specs.representation.Here.{Copied}
use Rattle.settings_log.proofs.store.get.Given as goal

abbrev pub invariant-loop-at : goal.invariant-loop-at
invariant-loop-at g l = Copied (take l.len (bytes_behind (g.F.NorFlash.image l.flash) l.place.page l.place.slot (data_words l.len))) l.fn.into l.into (3 * l.at)
