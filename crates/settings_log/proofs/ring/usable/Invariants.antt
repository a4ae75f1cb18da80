use Rattle.std.proofs.Common.{◌<◌, ℕ}
use Rattle.settings_log.specs.Pages.{IsForeign}
use Rattle.settings_log.proofs.ring.usable.Given as goal

abbrev pub invariant-loop-page : goal.invariant-loop-page
invariant-loop-page g l = (p : ℕ) → p < l.page → IsForeign (g.F.NorFlash.image l.flash) p → ⊥
