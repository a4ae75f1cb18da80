use Rattle.std.proofs.Common.{◌≡◌}
use Rattle.flash_model.specs.Image.{page_count}
use Rattle.settings_log.proofs.store.room_made.Given as goal

abbrev pub invariant-loop : goal.invariant-loop
invariant-loop g l = page_count (g.F.NorFlash.image l.flash) ≡ page_count (g.F.NorFlash.image l.fn.flash)
