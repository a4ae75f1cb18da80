use Rattle.std.proofs.Common.{◌-◌, length}
use Rattle.settings.proofs.Tables.{Forgotten}
use Rattle.settings.proofs.table.forget.Given as goal

abbrev pub invariant-loop-at : goal.invariant-loop-at
invariant-loop-at l = Forgotten l.fn.table l.table l.id l.at

abbrev pub decreases-loop-at : goal.decreases-loop-at
decreases-loop-at l = length l.table - l.at
