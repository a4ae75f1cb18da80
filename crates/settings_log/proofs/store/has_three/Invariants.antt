use Rattle.std.proofs.Common.{◌≡◌, ◌+◌, ◌<◌, ℕ, length, slice_index}
use Rattle.settings_log.proofs.store.has_three.Given as goal

abbrev pub invariant-loop-k : goal.invariant-loop-k
invariant-loop-k l = (j : ℕ) → j < l.k → l.at + j < length l.bytes → slice_index l.bytes (l.at + j) ≡ slice_index l.three j
