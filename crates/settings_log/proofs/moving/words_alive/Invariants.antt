use Rattle.std.proofs.Common.{◌≤◌, ◌*◌, ◌-◌}
use Rattle.settings_log.proofs.moving.words_alive.Given as goal

abbrev pub invariant-loop-from : goal.invariant-loop-from
invariant-loop-from g l = (l.words ≤ 5488 * l.from) × (l.from ≤ 512)

abbrev pub decreases-loop-from : goal.decreases-loop-from
decreases-loop-from g l = 512 - l.from
