use Rattle.std.proofs.Common.{◌≤◌, ◌*◌}
use Rattle.settings_log.proofs.moving.words_in.Given as goal

abbrev pub invariant-loop-at : goal.invariant-loop-at
invariant-loop-at g l = l.words ≤ 343 * l.at
