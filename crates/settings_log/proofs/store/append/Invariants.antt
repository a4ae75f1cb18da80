use Rattle.std.proofs.Common.{◌≡◌}
use Rattle.flash_model.specs.Image.{page_count}
use Rattle.settings_log.proofs.store.append.Given as goal

abbrev pub invariant-loop-k : goal.invariant-loop-k
invariant-loop-k g l = page_count (g.F.NorFlash.image l.flash) ≡ page_count (g.F.NorFlash.image l.fn.flash)
