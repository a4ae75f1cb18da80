use Rattle.std.proofs.Common.{ℕ, ◌-◌, ◌<◌, ◌≤◌, length, get_or, IsSome}
use Rattle.settings.specs.declared.change.Change.{Change}
use Rattle.settings.proofs.table.free_place.Given as goal

abbrev pub invariant-loop-at : goal.invariant-loop-at
invariant-loop-at l = (l.at ≤ length l.table) × ((k : ℕ) (d : Change) → k < l.at → IsSome (get_or l.table k d).value)

abbrev pub decreases-loop-at : goal.decreases-loop-at
decreases-loop-at l = length l.table - l.at
