use Rattle.std.proofs.Common.{◌<◌, ℕ, get_or}
use Rattle.settings.specs.declared.change.Change.{Change}
use Rattle.settings.specs.Words.{IsChange}
use Rattle.settings.proofs.change.are_changes.Given as goal

abbrev pub invariant-loop-change : goal.invariant-loop-change
invariant-loop-change l = (k : ℕ) (d : Change) → k < l.change-index → IsChange (get_or l.changes k d)
