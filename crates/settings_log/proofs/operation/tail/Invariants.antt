use Rattle.std.proofs.Common.{◌≤◌}
use Rattle.settings_log.proofs.operation.tail.Given as goal

abbrev pub invariant-loop-slot : goal.invariant-loop-slot
invariant-loop-slot g l = l.tail ≤ l.slot
