use Rattle.std.proofs.Common.{◌<◌, ℕ, slice_index_or}
use Rattle.settings_log.specs.declared.change.Change.{Change}
use Rattle.settings_log.specs.Changes.{Holds}
use Rattle.settings_log.proofs.store.all_hold.Given as goal

abbrev pub invariant-loop-change : goal.invariant-loop-change
invariant-loop-change g l = (k : ℕ) → (d : Change) → k < l.change-index → Holds (g.F.NorFlash.image l.flash) (slice_index_or l.changes k d)
