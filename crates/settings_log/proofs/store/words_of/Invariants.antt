use Rattle.std.proofs.Common.{◌≤◌, ◌<◌, ℕ, slice_index_or}
use Rattle.settings_log.specs.declared.change.Change.{Change}
use Rattle.settings_log.specs.Changes.{IsShort}
use Rattle.settings_log.proofs.store.words_of.Given as goal

abbrev pub invariant-loop-change : goal.invariant-loop-change
invariant-loop-change l = (l.words ≤ 855) × ((k : ℕ) → (d : Change) → k < l.change-index → IsShort (slice_index_or l.changes k d))
