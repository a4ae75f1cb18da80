use Rattle.std.proofs.Common.{◌≡◌, ◌-◌}
use Rattle.flash_model.specs.Image.{page_count}
use Rattle.settings_log.proofs.moving.copy_oldest.Given as goal

abbrev pub invariant-loop-from : goal.invariant-loop-from
invariant-loop-from g l = page_count (g.F.NorFlash.image l.flash) ≡ page_count (g.F.NorFlash.image l.fn.flash)

abbrev pub decreases-loop-from : goal.decreases-loop-from
decreases-loop-from g l = 512 - l.from
