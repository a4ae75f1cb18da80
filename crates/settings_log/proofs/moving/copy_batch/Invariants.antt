use Rattle.std.proofs.Common.{◌≡◌}
use Rattle.flash_model.specs.Image.{page_count}
use Rattle.settings_log.proofs.moving.copy_batch.Given as goal

abbrev pub invariant-loop-at : goal.invariant-loop-at
invariant-loop-at g l = page_count (g.F.NorFlash.image l.flash) ≡ page_count (g.F.NorFlash.image l.fn.flash)
